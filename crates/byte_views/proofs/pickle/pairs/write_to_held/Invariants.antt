use Rattle.std.proofs.Common.{◌≡◌, ◌≤◌, ◌+◌, ◌++◌, ℕ, List}
use Rattle.std.specs.Io.KnownBytes.{Appends}
use Rattle.bson_elem.specs.{Tree}
use Rattle.bson_raw.specs.{PairsLeft, pairs_bound, walked_len}
use Rattle.text_writer.specs.{text_contents}
use Rattle.byte_views.specs.Pickles.{names_in, names_of_one, pairs_pickle}
use Rattle.byte_views.proofs.pickle.pairs.write_to_held.Given as goal

-- what was written, with the pickle of the pairs that are left, is that of all, and so are the names; a name is a pair that isn't left
abbrev pub invariant-loop-name : goal.invariant-loop-name
invariant-loop-name g l = record {
  walked : walked_len l.pairs ≡ walked_len l.initial.pairs;
  each : l.each ≡ names_of_one l.holder;
  passed : l.names + pairs_bound l.pairs ≤ pairs_bound l.initial.pairs;
  so_far : (t : Tree) → PairsLeft l.initial.pairs t → (left : Tree) × (text : List ℕ) × PairsLeft l.pairs left
      × Appends (text_contents g.W.Write.contents l.initial.out) (text_contents g.W.Write.contents l.out) text
      × (pairs_pickle l.holder t ≡ text ++ pairs_pickle l.holder left)
      × (names_in l.holder t ≡ l.names + names_in l.holder left);
}

abbrev pub decreases-loop-name : goal.decreases-loop-name
decreases-loop-name g l = pairs_bound l.pairs
