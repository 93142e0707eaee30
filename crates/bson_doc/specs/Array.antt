-- What an owned array holds: values, in order.
use Rattle.std.specs.Prelude.{ℕ, ◌+◌, List, [], ◌∷◌}
use Rattle.std.specs.Fmt.{decimal}
use Rattle.bson_elem.specs.{Tree, no_pairs}
use Rattle.bson_raw.specs.{TreeValue, with_first}

-- the tree of these values, whose names are their indexes in decimal, from this one on
abbrev pub array_tree : ℕ → List TreeValue → Tree
array_tree index [] = no_pairs
array_tree index (v ∷ vs) = with_first (decimal index) v (array_tree (index + 1) vs)
