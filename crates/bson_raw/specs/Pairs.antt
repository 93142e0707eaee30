-- The pairs of a tree, one after another.
use Rattle.std.specs.Prelude.{ℕ, zero, suc, List, [], ◌∷◌, ◌++◌, Option, Some, None, Bool}
use Rattle.std.specs.Prelude.{if◌then◌else◌}
use Rattle.std.specs.List.{list_any}
use Rattle.std.specs.Str.{bytes_eq}
use Rattle.bson_elem.specs.declared.kinds.Kind.{Kind}
use Rattle.bson_elem.specs.{Beside, Leaf, Tree, inner_pair, leaf_pair, no_pairs}

-- the value of a pair: a kind and a leaf; or a kind, what is beside the value's document, and the
-- document's tree
pub data TreeValue : Type 0 where
  leaf_value : Kind → Leaf → TreeValue
  document_value : Kind → Beside → Tree → TreeValue

-- a pair with this name and value, and the other pairs after it
abbrev pub with_first : List ℕ → TreeValue → Tree → Tree
with_first name (leaf_value k v) others = leaf_pair name k v others
with_first name (document_value k b inner) others = inner_pair name k b inner others

-- the value of the first pair with this name
abbrev pub first_named : List ℕ → Tree → Option TreeValue
first_named name no_pairs = None
first_named name (leaf_pair n k v ps) =
    if bytes_eq n name then Some (leaf_value k v) else first_named name ps
first_named name (inner_pair n k b inner ps) =
    if bytes_eq n name then Some (document_value k b inner) else first_named name ps

-- the value of the pair at this index, counted from 0
abbrev pub nth_value : ℕ → Tree → Option TreeValue
nth_value k no_pairs = None
nth_value zero (leaf_pair n k v ps) = Some (leaf_value k v)
nth_value zero (inner_pair n k b inner ps) = Some (document_value k b inner)
nth_value (suc i) (leaf_pair n k v ps) = nth_value i ps
nth_value (suc i) (inner_pair n k b inner ps) = nth_value i ps

-- the names of the pairs, in order
abbrev pub names_of : Tree → List (List ℕ)
names_of no_pairs = []
names_of (leaf_pair n k v ps) = n ∷ names_of ps
names_of (inner_pair n k b inner ps) = n ∷ names_of ps

-- whether the name is one of these
abbrev pub is_among : List ℕ → List (List ℕ) → Bool
is_among name names = list_any (λ n. bytes_eq n name) names

-- the first name of a pair that is one of these names, or the name of an earlier pair
abbrev pub first_repeated : List (List ℕ) → Tree → Option (List ℕ)
first_repeated seen no_pairs = None
first_repeated seen (leaf_pair n k v ps) =
    if is_among n seen then Some n else first_repeated (seen ++ n ∷ []) ps
first_repeated seen (inner_pair n k b inner ps) =
    if is_among n seen then Some n else first_repeated (seen ++ n ∷ []) ps
