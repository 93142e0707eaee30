use Rattle.std.proofs.Common.{◌≡◌, ◌+◌, ◌≤◌, List, length}
use Rattle.wire_msg.specs.Messages.{Message}
use Rattle.byte_views.proofs.ToldMessages.{Seen}
use Rattle.byte_views.proofs.messages.check_messages.Given as goal

-- the messages that were seen
abbrev pub invariant-loop-rest : goal.invariant-loop-rest
invariant-loop-rest g l = record {
  room : l.messages + length l.rest ≤ length l.bytes;
  so_far : (seen : List Message) × Seen l.limit l.bytes seen l.rest × (l.messages ≡ length seen);
}

abbrev pub decreases-loop-rest : goal.decreases-loop-rest
decreases-loop-rest g l = length l.rest
