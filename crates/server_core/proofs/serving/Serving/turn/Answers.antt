use Rattle.std.proofs.Common.{sym, subst, ap, ◌∙◌, ◌≡◌, Some, None}
use Rattle.slab.specs.Slab.{Updates, get}
use Rattle.wire_serve.specs.{tells}
use Rattle.wire_serve.specs.declared.turned.Turned.{Turned}
use Rattle.wire_peer.specs.{log_of}
use Rattle.server_core.specs.declared.reply_rules.ReplyRules.{ReplyRules}
use Rattle.server_core.specs.Replies.{Follows}
use Rattle.server_core.specs.Serving.{IsForgotten, IsSteered, TakesTurn, reply_flow}
use Rattle.server_core.proofs.Steps.{serves_turn, turns_on, turns_over}
use Rattle.server_core.proofs.serving.Serving.turn.Goals as goal

pub returns-in_ok-close-in-Over-clause-turned : goal.returns-in_ok-close-in-Over-clause-turned
returns-in_ok-close-in-Over-clause-turned g c =
    let t = tells g.L.Link.received g.L.Link.sent g.L.Link.ends g.L.Link.waits g.L.Link.failures in
    let old = c.args.self.now in
    let made = c.turn.new.self.logged in
    let follows = subst (λ es. Follows old.replies (log_of es) c.follow.new.self) c.entries.ensures c.in-Ok.ensures in
    let slot = c.in-Some.ensures.turned.1 in
    let there = c.in-Some.ensures.turned.3.changed in
    let stays = subst (λ s. get s c.args.key ≡ Some slot) (sym c.tell.ensures.slots) there in
    let before = g.W.Write.contents c.args.out.now in
    let after = g.W.Write.contents c.close.new.out in
    subst (λ (how : Turned). TakesTurn g.H.Handler.does g.H.Handler.stops t g.L.Gated.gate c.args.key how old c.close.new.self before after) c.in-Over.is
    (turns_over g.H.Handler.does g.H.Handler.stops t g.L.Gated.gate old c.close.new.self c.turn.new.self.slots made c.args.key _ c.in-Some.turned c.in-Over.leave slot _ (g.W.Write.contents c.tell.new.out) _
    c.steps-steps.ensures c.in-Over.is c.in-Some.ensures.turned
    (subst (λ l. IsForgotten made l) (sym c.close.ensures.logged) (c.in_ok-tell.ensures.forgotten, c.tell.ensures.handler)) there
    (subst (λ s. Updates s c.close.new.self.conns.slots c.args.key None) c.tell.ensures.slots c.in_ok-close-in-Over.ensures.slots)
    (ap (λ (u : ReplyRules). u.script.rules.items) c.close.ensures.replies ∙ follows.0)
    (c.close.ensures.next ∙ c.tell.ensures.next ∙ c.turn.ensures.next) (c.close.ensures.ended slot stays)
    c.in_ok-tell.ensures.told (c.in_ok-close-in-Over.ensures.told slot stays))

pub returns-in_ok-close-in-Over-clause-served : goal.returns-in_ok-close-in-Over-clause-served
returns-in_ok-close-in-Over-clause-served g c =
    serves_turn g.H.Handler.does g.H.Handler.stops (tells g.L.Link.received g.L.Link.sent g.L.Link.ends g.L.Link.waits g.L.Link.failures) g.L.Gated.gate
    c.args.self.now c.close.new.self c.args.key _ _ _ (returns-in_ok-close-in-Over-clause-turned g c)

pub returns-in-Again-clause-turned : goal.returns-in-Again-clause-turned
returns-in-Again-clause-turned g c =
    let t = tells g.L.Link.received g.L.Link.sent g.L.Link.ends g.L.Link.waits g.L.Link.failures in
    let old = c.args.self.now in
    let key = c.args.key in
    let made = c.turn.new.self.logged in
    let follows = subst (λ es. Follows old.replies (log_of es) c.follow.new.self) c.entries.ensures c.in-Ok.ensures in
    let steered = subst (λ s. IsSteered t g.L.Gated.gate (reply_flow (get s key) c.follow.new.self.flow) key s c.steer.new.self.conns.slots) c.tell.ensures.slots c.steer.ensures.steered in
    turns_on g.H.Handler.does g.H.Handler.stops t g.L.Gated.gate old c.steer.new.self c.turn.new.self.slots made key _ c.in-Some.turned _ _
    c.in-Again.is c.steps-steps.ensures c.in-Some.ensures.turned
    (subst (λ l. IsForgotten made l) (sym c.steer.ensures.logged) (c.in_ok-tell.ensures.forgotten, c.tell.ensures.handler))
    (subst (λ f. IsSteered t g.L.Gated.gate (reply_flow (get c.turn.new.self.slots key) f) key c.turn.new.self.slots c.steer.new.self.conns.slots) follows.1 steered)
    (ap (λ (u : ReplyRules). u.script.rules.items) c.steer.ensures.replies ∙ follows.0)
    (c.steer.ensures.next ∙ c.tell.ensures.next ∙ c.turn.ensures.next) c.steer.ensures.ended
    c.in_ok-tell.ensures.told

pub returns-in-Again-clause-served : goal.returns-in-Again-clause-served
returns-in-Again-clause-served g c =
    serves_turn g.H.Handler.does g.H.Handler.stops (tells g.L.Link.received g.L.Link.sent g.L.Link.ends g.L.Link.waits g.L.Link.failures) g.L.Gated.gate
    c.args.self.now c.steer.new.self c.args.key c.in-Some.turned _ _ (returns-in-Again-clause-turned g c)
