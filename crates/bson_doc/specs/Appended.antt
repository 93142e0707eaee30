-- A tree with one more pair.
use Rattle.std.specs.Prelude.{ℕ, List}
use Rattle.bson_elem.specs.{Tree, inner_pair, leaf_pair, no_pairs}
use Rattle.bson_raw.specs.{TreeValue, with_first}

-- the pairs of the tree, and after them a pair of this name and value
abbrev pub with_pair_appended : List ℕ → TreeValue → Tree → Tree
with_pair_appended name v no_pairs = with_first name v no_pairs
with_pair_appended name v (leaf_pair n k leaf ps) =
    leaf_pair n k leaf (with_pair_appended name v ps)
with_pair_appended name v (inner_pair n k b inner ps) =
    inner_pair n k b inner (with_pair_appended name v ps)
