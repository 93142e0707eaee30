use Rattle.std.proofs.Common.{◌≡◌, ◌∙◌, ap, length, sym, Ok, Err}
use Rattle.std.proofs.lemmas.List.{length-map}
use Rattle.wire_msg.specs.{msg_bytes}
use Rattle.wire_peer.specs.Logs.{entry_of}
use Rattle.wire_peer.proofs.ServerLaws.{WasAsked, answered_step, closed_step, is_waiting, unasked_step, without_one}
use Rattle.wire_peer.proofs.servers.Server.answer.Goals as goal

pub invariant_of-self : goal.invariant_of-self
invariant_of-self g c = without_one _ _ c.args.k _ c.self.inside.waiting _ c.self.inside.replies _ _ _ c.self.invariant c.in-Open.is c.take_out.ensures c.reply_to.ensures.limit

pub invariant_of-self-in-Some-cause_of : goal.invariant_of-self-in-Some-cause_of
invariant_of-self-in-Some-cause_of g c = without_one _ _ c.args.k _ c.self.inside.waiting _ c.self.inside.replies _ _ _ c.self.invariant c.in-Open.is c.take_out-in-Some-cause_of.ensures c.reply_to.ensures.limit

pub returns-in-Ok : goal.returns-in-Ok
returns-in-Ok g c =
    let known = is_waiting c.self.inside.limit c.self.inside.waiting.items c.args.k (msg_bytes c.in-Some.message) c.self.invariant.each c.in-Some.ensures.at in
    let number : length c.entries-number.result.now ≡ _ = ap length c.entries-number.ensures ∙ sym (length-map c.args.logged.now.entries.items entry_of) in
    let asked : WasAsked g.H.Handler.does g.H.Handler.stops c.self.inside.connection c.self.inside.waiting c.args.k (Ok c.in-Ok.field-0) _ _ _ _ c.self.inside.replies c.reply_to.new.replies =
    record { message = known.1.0; bytes = msg_bytes c.in-Some.message; at = c.in-Some.ensures.at; spelled = known.1.1; step = c.in-Ok.ensures.step known.1.0 known.1.1 } in
    rw c.in-Open.is (answered_step _ _ _ _ _ _ _ c.self.inside.reader c.self.inside.waiting _ c.self.inside.replies _ _ _ _ _ _ (rw (← c.in-Open.is) c.self.view_is) c.self.invariant.reply_limit number asked c.take_out.ensures)

pub returns-in-None : goal.returns-in-None
returns-in-None g c =
    let known = is_waiting c.self.inside.limit c.self.inside.waiting.items c.args.k (msg_bytes c.in-Some.message) c.self.invariant.each c.in-Some.ensures.at in
    let asked : WasAsked g.H.Handler.does g.H.Handler.stops c.self.inside.connection c.self.inside.waiting c.args.k (Err c.in-Err.reason) _ _ _ _ c.self.inside.replies c.reply_to.new.replies =
    record { message = known.1.0; bytes = msg_bytes c.in-Some.message; at = c.in-Some.ensures.at; spelled = known.1.1; step = c.in-Err.ensures.step known.1.0 known.1.1 } in
    rw c.in-Open.is (unasked_step _ _ _ _ _ _ _ c.self.inside.reader c.self.inside.waiting c.self.inside.replies _ _ _ _ _ _ (rw (← c.in-Open.is) c.self.view_is) (sym c.cause_of.ensures ∙ c.in-None.is) asked)

pub returns-in-Some-cause_of : goal.returns-in-Some-cause_of
returns-in-Some-cause_of g c =
    let known = is_waiting c.self.inside.limit c.self.inside.waiting.items c.args.k (msg_bytes c.in-Some.message) c.self.invariant.each c.in-Some.ensures.at in
    let asked : WasAsked g.H.Handler.does g.H.Handler.stops c.self.inside.connection c.self.inside.waiting c.args.k (Err c.in-Err.reason) _ _ _ _ c.self.inside.replies c.reply_to.new.replies =
    record { message = known.1.0; bytes = msg_bytes c.in-Some.message; at = c.in-Some.ensures.at; spelled = known.1.1; step = c.in-Err.ensures.step known.1.0 known.1.1 } in
    closed_step _ _ _ _ _ _ _ _ c.self.inside.reader c.self.inside.waiting _ c.self.inside.replies _ _ _ _ _ _ (rw (← c.in-Open.is) c.self.view_is) c.self.invariant.reply_limit (sym c.cause_of.ensures ∙ c.in-Some-cause_of.is) asked c.take_out-in-Some-cause_of.ensures
