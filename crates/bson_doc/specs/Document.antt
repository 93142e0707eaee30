-- What an owned document holds: pairs of a name and a value, in order.
use Rattle.std.specs.Prelude.{ℕ, List, [], ◌∷◌, Option, Some, None, if◌then◌else◌}
use Rattle.std.specs.Str.{bytes_eq}
use Rattle.bson_elem.specs.{Tree, inner_pair, leaf_pair, no_pairs}
use Rattle.bson_raw.specs.{TreeValue, document_value, leaf_value, with_first}

-- names and values, in order
abbrev pub Pairs : Type 0
Pairs = List (List ℕ × TreeValue)

-- each name with the value that stands at its index
abbrev pub paired : List (List ℕ) → List TreeValue → Pairs
paired [] vs = []
paired (n ∷ ns) [] = []
paired (n ∷ ns) (v ∷ vs) = (n, v) ∷ paired ns vs

-- the tree of these pairs
abbrev pub tree_of : Pairs → Tree
tree_of [] = no_pairs
tree_of (p ∷ ps) = with_first p.0 p.1 (tree_of ps)

-- the pairs of a tree
abbrev pub pairs_of : Tree → Pairs
pairs_of no_pairs = []
pairs_of (leaf_pair n k v ps) = (n, leaf_value k v) ∷ pairs_of ps
pairs_of (inner_pair n k b t ps) = (n, document_value k b t) ∷ pairs_of ps

-- the value of the first pair of this name
abbrev pub value_named : List ℕ → Pairs → Option TreeValue
value_named name [] = None
value_named name (p ∷ ps) = if bytes_eq name p.0 then Some p.1 else value_named name ps

-- the pairs with this value at the name: in the place of the name, or last where it is new
abbrev pub put : List ℕ → TreeValue → Pairs → Pairs
put name v [] = (name, v) ∷ []
put name v (p ∷ ps) = if bytes_eq name p.0 then (p.0, v) ∷ ps else p ∷ put name v ps

-- the pairs without the first one of this name
abbrev pub without : List ℕ → Pairs → Pairs
without name [] = []
without name (p ∷ ps) = if bytes_eq name p.0 then ps else p ∷ without name ps
