use Rattle.std.proofs.Common.{length}
use Rattle.wire_msg.proofs.DocumentLaws.{DocumentsBefore}
use Rattle.wire_msg.proofs.sequence.check_documents.Given as goal

abbrev pub invariant-loop-rest : goal.invariant-loop-rest
invariant-loop-rest l = DocumentsBefore l.bytes l.rest

abbrev pub decreases-loop-rest : goal.decreases-loop-rest
decreases-loop-rest l = length l.rest
