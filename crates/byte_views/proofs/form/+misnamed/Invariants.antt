use Rattle.std.proofs.Common.{◌≡◌, ◌≤◌, ◌+◌, ◌*◌, length}
use Rattle.bson_elem.specs.Spelling.{Spells, elements}
use Rattle.bson_elem.specs.Trees.{Tree}
use Rattle.bson_raw.specs.RawBson.{held_len}
use Rattle.bson_raw.specs.RawDocument.{document_bytes}
use Rattle.bson_raw.specs.RawIter.{PairsLeft, pairs_bound, walked_len}
use Rattle.byte_views.specs.Forms.{misnamed}
use Rattle.byte_views.proofs.form.+misnamed.Given as goal

abbrev pub decreases-misnamed : goal.decreases-misnamed
decreases-misnamed l = 2 * length (document_bytes l.document)

abbrev pub decreases-misnamed_in : goal.decreases-misnamed_in
decreases-misnamed_in l = 2 * held_len l.value + 1

-- the pairs so far have their canonical names, and so have those inside them
abbrev pub invariant-misnamed-loop-name : goal.invariant-misnamed-loop-name
invariant-misnamed-loop-name l = record {
  can_next : (goal.iterator-misnamed-loop-name).can_next l.pairs;
  is_finite : (goal.iterator-misnamed-loop-name).is_finite l.pairs;
  walked : walked_len l.pairs ≡ length (document_bytes l.fn.document);
  bound : l.left ≡ pairs_bound l.pairs;
  counted : l.index + pairs_bound l.pairs ≤ walked_len l.pairs;
  so_far : (t : Tree) → Spells t (document_bytes l.fn.document) → (rest : Tree) × PairsLeft l.pairs rest
      × (misnamed l.in_array 0 t ≡ misnamed l.in_array l.index rest)
      × (l.left ≡ length (elements rest) + 1);
}
