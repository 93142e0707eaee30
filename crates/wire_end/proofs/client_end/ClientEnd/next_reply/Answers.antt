use Rattle.std.proofs.Common.{◌∙◌, ◌∷◌, [], ap, subst}
use Rattle.std.specs.Prelude.{Ok}
use Rattle.std.proofs.lemmas.Result.{err_from_is_err_and}
use Rattle.wire_model.specs.Owners.{EndsDown}
use Rattle.wire_end.specs.Ends.{EndRuns, EndSeen}
use Rattle.wire_end.specs.Steps.{CollectsAs}
use Rattle.wire_end.proofs.Closing.{ends_told, ends_untold}
use Rattle.wire_end.proofs.Runs.{closes_on, hands_on, hears_short}
use Rattle.wire_end.proofs.client_end.ClientEnd.next_reply.Goals as goal

pub returns-in_err-receive-clause-stands : goal.returns-in_err-receive-clause-stands
returns-in_err-receive-clause-stands g c =
    let p = err_from_is_err_and c.from_residual.result c.from_residual.ensures.1 in
    rw (p.1, p.2) c.in_err-receive.ensures.stands

pub returns-in_err-receive-clause-handed : goal.returns-in_err-receive-clause-handed
returns-in_err-receive-clause-handed g c =
    let L = g.L.Link in
    let p = err_from_is_err_and c.from_residual.result c.from_residual.ensures.1 in
    rw (p.1, p.2) (hears_short L.sent L.received c.args.self.now c.receive.new.self _ c.in_err-receive.ensures.closes
    c.receive.ensures.heard)

pub returns-in-Ok-Some-clause-handed : goal.returns-in-Ok-Some-clause-handed
returns-in-Ok-Some-clause-handed g c =
    let L = g.L.Link in
    let collected = subst (λ ready. CollectsAs L.sent L.received ready c.receive.new.self c.collect.new.self)
    c.in-Ok-Some.field-0-is c.in-Ok-Some.ensures.collected in
    hands_on L.sent L.received c.args.self.now c.receive.new.self c.collect.new.self c.in-Ok-Some.reply
    c.receive.ensures.heard collected

pub returns-in-Ok-None-clause-handed : goal.returns-in-Ok-None-clause-handed
returns-in-Ok-None-clause-handed g c =
    let L = g.L.Link in
    let collected = subst (λ ready. CollectsAs L.sent L.received ready c.receive.new.self c.collect.new.self)
    c.in-Ok-None.field-0-is c.in-Ok-None.ensures.collected in
    let ran = subst (λ e. EndRuns L.sent L.received e (EndsDown ∷ []) c.end-in-Ok-None.new.self) collected.0
    c.end-in-Ok-None.ensures.ran in
    closes_on L.sent L.received c.args.self.now c.receive.new.self c.end-in-Ok-None.new.self c.end-in-Ok-None.result
    c.receive.ensures.heard ran

pub returns-in-Ok-None-clause-ends : goal.returns-in-Ok-None-clause-ends
returns-in-Ok-None-clause-ends g c =
    let L = g.L.Link in
    let e = c.end-in-Ok-None in
    let collected = subst (λ ready. CollectsAs L.sent L.received ready c.receive.new.self c.collect.new.self)
    c.in-Ok-None.field-0-is c.in-Ok-None.ensures.collected in
    let ran = subst (λ z. EndRuns L.sent L.received z (EndsDown ∷ []) e.new.self) collected.0 e.ensures.ran in
    let ends = rw c.in-Bytes.is at c.in_ok-receive.ensures.ends in
    ends_untold L.sent L.received L.ends c.args.self.now c.receive.new.self e.new.self e.result c.receive.ensures.heard
    (c.in_ok-receive.ensures.taken (ap Ok c.in-Bytes.is)) collected.1 ends ran e.ensures.closed
    (e.ensures.link ∙ ap (λ (z : EndSeen _). z.link) collected.0)

pub returns-in-End-clause-handed : goal.returns-in-End-clause-handed
returns-in-End-clause-handed g c =
    let L = g.L.Link in
    closes_on L.sent L.received c.args.self.now c.receive.new.self c.end.new.self c.end.result
    c.receive.ensures.heard c.end.ensures.ran

pub returns-in-End-clause-ends : goal.returns-in-End-clause-ends
returns-in-End-clause-ends g c =
    let L = g.L.Link in
    let rose = rw c.in-End.is at c.in_ok-receive.ensures.ends in
    ends_told L.sent L.received L.ends c.args.self.now c.receive.new.self c.end.new.self c.end.result
    c.receive.ensures.heard (c.in_ok-receive.ensures.ended (ap Ok c.in-End.is)) rose c.end.ensures.ran
    c.end.ensures.closed c.end.ensures.link c.end.ensures.inlet
