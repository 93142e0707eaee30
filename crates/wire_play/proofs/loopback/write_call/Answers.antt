use Rattle.wire_play.specs.Loopback.{call_line}
use Rattle.wire_play.proofs.LoopLemmas.{none_yet}
use Rattle.wire_play.proofs.loopback.write_call.Goals as goal

pub returns-in_default-clause-written : goal.returns-in_default-clause-written
returns-in_default-clause-written g c = λ k number id. (call_line k, none_yet (call_line k) _, tt)
