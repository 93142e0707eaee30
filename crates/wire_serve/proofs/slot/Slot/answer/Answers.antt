use Rattle.std.proofs.Common.{ap, ◌∙◌}
use Rattle.std.specs.Prelude.{Err}
use Rattle.wire_serve.specs.Slots.{tells}
use Rattle.wire_serve.proofs.Steps.{answers}
use Rattle.wire_serve.proofs.slot.Slot.answer.Goals as goal

pub returns-in-Ok : goal.returns-in-Ok
returns-in-Ok g c =
    let s = c.self.inside in
    rw (← c.self.view_is) (answers (tells g.L.Link.received g.L.Link.sent g.L.Link.ends g.L.Link.waits g.L.Link.failures) g.H.Handler.does g.H.Handler.stops
    c.standing.result c.answer.result s.conn c.answer.new.self s.link s.inlet c.args.logged.now c.answer.new.logged
    (rw (← c.self.view_is) at c.requires.sent) (rw (← c.self.view_is) at c.requires.open) (rw (← c.self.view_is) at c.requires.waits)
    (λ e. absurd (cc (e, c.in-Ok.is))) (λ no. c.standing.ensures) c.answer.ensures.answers)

pub returns-in-Err : goal.returns-in-Err
returns-in-Err g c =
    let s = c.self.inside in
    rw (← c.self.view_is) (answers (tells g.L.Link.received g.L.Link.sent g.L.Link.ends g.L.Link.waits g.L.Link.failures) g.H.Handler.does g.H.Handler.stops
    c.refused.result c.answer.result s.conn c.answer.new.self s.link s.inlet c.args.logged.now c.answer.new.logged
    (rw (← c.self.view_is) at c.requires.sent) (rw (← c.self.view_is) at c.requires.open) (rw (← c.self.view_is) at c.requires.waits)
    (λ e. c.refused.ensures.memory (cc (e, c.in-Err.is))) (λ no. c.refused.ensures.other (λ e. no (c.in-Err.is ∙ ap Err e))) c.answer.ensures.answers)
