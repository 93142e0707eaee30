use Rattle.wire_end.proofs.ServerRuns.{was_answered}
use Rattle.wire_end.proofs.server_end.ServerEnd.answer.Goals as goal

pub returns-clause-ran : goal.returns-clause-ran
returns-clause-ran g c =
    let L = g.L.Link in
    let H = g.H.Handler in
    let inside = c.self.inside in
    rw (← c.self.view_is) (was_answered L.sent L.received H.does H.stops inside.server c.answer.new.self inside.link
    inside.inlet c.args.k c.answer.result c.args.logged.now c.answer.new.logged c.answer.ensures)
