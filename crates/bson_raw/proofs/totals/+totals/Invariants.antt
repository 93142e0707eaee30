use Rattle.std.proofs.Common.{◌≡◌, ◌+◌, ◌*◌, length}
use Rattle.bson_elem.specs.Trees.{Tree}
use Rattle.bson_elem.specs.Spelling.{Spells}
use Rattle.bson_raw.specs.RawDocument.{document_bytes}
use Rattle.bson_raw.specs.RawBson.{held_len}
use Rattle.bson_raw.specs.RawIter.{PairsLeft, walked_len}
use Rattle.bson_raw.specs.Totals.{elements_in, sizes_in}
use Rattle.bson_raw.proofs.totals.+totals.Given as goal

abbrev pub decreases-document_totals : goal.decreases-document_totals
decreases-document_totals l = 2 * length (document_bytes l.document)

abbrev pub decreases-value_totals : goal.decreases-value_totals
decreases-value_totals l = 2 * held_len l.value + 1

-- the counts so far, with those of the pairs that are left, are those of all; and the iterator is over this document
abbrev pub invariant-document_totals-loop-name : goal.invariant-document_totals-loop-name
invariant-document_totals-loop-name l = record {
  can_next : (goal.iterator-document_totals-loop-name).can_next l.name-iterator;
  is_finite : (goal.iterator-document_totals-loop-name).is_finite l.name-iterator;
  walked : walked_len l.name-iterator ≡ length (document_bytes l.fn.document);
  so_far : (t : Tree) → Spells t (document_bytes l.fn.document) → (rest : Tree) × PairsLeft l.name-iterator rest
      × (elements_in t ≡ l.elements + elements_in rest)
      × (sizes_in t ≡ l.sizes + sizes_in rest);
}
