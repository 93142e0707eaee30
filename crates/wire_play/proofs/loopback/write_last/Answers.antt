use Rattle.wire_play.specs.Loopback.{last_line}
use Rattle.wire_play.proofs.LoopLemmas.{none_yet}
use Rattle.wire_play.proofs.loopback.write_last.Goals as goal

pub returns-in_default-clause-written : goal.returns-in_default-clause-written
returns-in_default-clause-written g c = (last_line c.args.calls, none_yet (last_line c.args.calls) _, tt)
