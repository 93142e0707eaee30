use Rattle.std.proofs.Common.{◌≡◌, ◌+◌, ◌++◌, ℕ, List, length}
use Rattle.std.specs.Io.KnownBytes.{Appends}
use Rattle.bson_elem.specs.{Spells, Tree}
use Rattle.bson_raw.specs.{PairsLeft, document_bytes, pairs_bound, walked_len}
use Rattle.text_writer.specs.{text_contents}
use Rattle.byte_views.specs.Pickles.{names_in, pairs_pickle}
use Rattle.byte_views.proofs.pickle.pairs.+write_pairs.Given as goal

abbrev pub decreases-write_pairs : goal.decreases-write_pairs
decreases-write_pairs g l = length (document_bytes l.document)

-- what was written, with the pickle of the pairs that are left, is that of all, and so are the names; and the walk is in this document
abbrev pub invariant-loop-passed : goal.invariant-loop-passed
invariant-loop-passed g l = record {
  walked : walked_len l.pairs ≡ length (document_bytes l.fn.document);
  so_far : (t : Tree) → Spells t (document_bytes l.fn.document) → (left : Tree) × (text : List ℕ) × PairsLeft l.pairs left
      × Appends (text_contents g.W.Write.contents l.initial.out) (text_contents g.W.Write.contents l.out) text
      × (pairs_pickle l.fn.holder t ≡ text ++ pairs_pickle l.fn.holder left)
      × (names_in l.fn.holder t ≡ l.names + names_in l.fn.holder left);
}

abbrev pub decreases-loop-passed : goal.decreases-loop-passed
decreases-loop-passed g l = pairs_bound l.pairs
