use Rattle.std.proofs.Common.{◌≡◌, ◌+◌, ◌≤◌, List, length}
use Rattle.bson_elem.specs.Trees.{Tree}
use Rattle.bson_raw.proofs.Lemmas.{Walked}
use Rattle.byte_views.proofs.documents.check_documents.Given as goal

-- the documents that were seen
abbrev pub invariant-loop-rest : goal.invariant-loop-rest
invariant-loop-rest l = record {
  room : l.documents + length l.rest ≤ length l.bytes;
  so_far : (seen : List Tree) × Walked l.bytes seen l.rest × (l.documents ≡ length seen);
}

abbrev pub decreases-loop-rest : goal.decreases-loop-rest
decreases-loop-rest l = length l.rest
