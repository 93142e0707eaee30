use Rattle.std.proofs.Common.{◌-◌, length}
use Rattle.wire_msg.specs.Messages.{Message}
use Rattle.wire_msg.specs.Spelling.{SpellsMsg}
use Rattle.wire_msg.proofs.OffsetLaws.{OffsetSoFar}
use Rattle.wire_msg.proofs.msg.body_offset.Given as goal

abbrev pub invariant-loop-at : goal.invariant-loop-at
invariant-loop-at l = (m : Message) (s : SpellsMsg m l.bytes) → OffsetSoFar m l.bytes s l.at

abbrev pub decreases-loop-at : goal.decreases-loop-at
decreases-loop-at l = length l.bytes - l.at
