use Rattle.std.proofs.Common.{pos}
use Rattle.wire_peer.proofs.MarkLaws.{AreMarked}
use Rattle.wire_peer.proofs.free_id.next_free.Given as goal

abbrev pub invariant-loop-id : goal.invariant-loop-id
invariant-loop-id l = AreMarked (pos l.start) l.used l.id-index l.marks
