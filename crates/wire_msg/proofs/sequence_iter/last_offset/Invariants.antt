use Rattle.std.proofs.Common.{◌≡◌, ◌-◌, ◌≤◌, List, length}
use Rattle.wire_msg.specs.Messages.{AreSequences, Sequence}
use Rattle.wire_msg.specs.Spelling.{sequences_bytes}
use Rattle.wire_msg.proofs.LastLaws.{IsWalked}
use Rattle.wire_msg.proofs.sequence_iter.last_offset.Given as goal

abbrev pub invariant-loop-next : goal.invariant-loop-next
invariant-loop-next l = (l.next ≤ length l.bytes) × ((qs : List Sequence) → AreSequences qs → l.bytes ≡ sequences_bytes qs → IsWalked l.bytes qs l.last l.next)

abbrev pub decreases-loop-next : goal.decreases-loop-next
decreases-loop-next l = length l.bytes - l.next
