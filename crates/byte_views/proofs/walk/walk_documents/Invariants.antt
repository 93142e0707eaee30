use Rattle.std.proofs.Common.{◌≡◌, ◌+◌, ◌≤◌, List, length}
use Rattle.std.specs.List.{sum_by}
use Rattle.bson_elem.specs.Trees.{Tree}
use Rattle.bson_raw.proofs.Lemmas.{Walked}
use Rattle.bson_raw.specs.Totals.{elements_in, sizes_in}
use Rattle.byte_views.proofs.walk.walk_documents.Given as goal

-- the documents that were seen, and their totals
abbrev pub invariant-loop-rest : goal.invariant-loop-rest
invariant-loop-rest l = record {
  room : l.documents + length l.rest ≤ length l.bytes;
  sums : l.elements + l.sizes + length l.rest ≤ length l.bytes;
  so_far : (seen : List Tree) × Walked l.bytes seen l.rest × (l.documents ≡ length seen) × (l.elements ≡ sum_by elements_in seen) × (l.sizes ≡ sum_by sizes_in seen);
}

abbrev pub decreases-loop-rest : goal.decreases-loop-rest
decreases-loop-rest l = length l.rest
