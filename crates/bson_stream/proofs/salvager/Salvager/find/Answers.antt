use Rattle.std.proofs.Common.{take}
use Rattle.bson_stream.proofs.Salvagings.{found_then}
use Rattle.bson_stream.proofs.salvager.Salvager.find.Goals as goal

pub returns-clause-found : goal.returns-clause-found
returns-clause-found c = λ fed told so.
    let s = c.self.inside in
    found_then s.limit s.start _ s.at (take s.len s.bytes.items) c.args.ended s.gap c.outcome-gap.result.0 c.seek-sought.result c.outcome-gap.result.1
    (rw (c.held.ensures, ← c.self.view_is) at c.seek-sought.ensures) c.outcome-gap.ensures fed told (rw (← c.self.view_is) at so)
