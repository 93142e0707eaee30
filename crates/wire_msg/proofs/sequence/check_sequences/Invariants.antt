use Rattle.std.proofs.Common.{length, ◌-◌}
use Rattle.wire_msg.proofs.SequenceLaws.{RunSoFar}
use Rattle.wire_msg.proofs.sequence.check_sequences.Given as goal

abbrev pub invariant-loop-at : goal.invariant-loop-at
invariant-loop-at l = RunSoFar l.bytes l.fn.start l.at

abbrev pub decreases-loop-at : goal.decreases-loop-at
decreases-loop-at l = length l.bytes - l.at
