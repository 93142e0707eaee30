-- How many documents stand one in another.
use Rattle.std.specs.Prelude.{ℕ, ◌+◌, max}
use Rattle.bson_elem.specs.{Tree, inner_pair, leaf_pair, no_pairs}
use Rattle.bson_raw.specs.{TreeValue, document_value, leaf_value}

-- of the values in a tree, the depth of the deepest
abbrev pub tree_depth : Tree → ℕ
tree_depth no_pairs = 0
tree_depth (leaf_pair n k v ps) = tree_depth ps
tree_depth (inner_pair n k b inner ps) = max (tree_depth inner + 1) (tree_depth ps)

abbrev pub value_depth : TreeValue → ℕ
value_depth (leaf_value k v) = 0
value_depth (document_value k b inner) = tree_depth inner + 1
