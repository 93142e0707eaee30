use Rattle.std.proofs.Common.{length}
use Rattle.wire_msg.proofs.SplitLaws.{Cut}
use Rattle.wire_msg.proofs.laws.split_of.Given as goal

abbrev pub invariant-loop-after : goal.invariant-loop-after
invariant-loop-after l = Cut l.limit l.bytes l.rest

abbrev pub decreases-loop-after : goal.decreases-loop-after
decreases-loop-after l = length l.rest
