-- The first name, in file order, that a document or a scope has twice. The names in an array don't
-- count.
use Rattle.std.specs.Prelude.{◌≡◌, ℕ, ◌+◌, Bool, false, List, [], ◌∷◌, ◌++◌, Option, Some, None}
use Rattle.std.specs.Prelude.{if◌then◌else◌}
use Rattle.bson_elem.specs.{Tree, inner_pair, leaf_pair, no_pairs}
use Rattle.bson_raw.specs.{TreeValue, document_value, is_among, is_array_kind, leaf_value}
use Rattle.bson_doc.specs.declared.refusal.DocRefusal.{DocRefusal}
use Rattle.bson_doc.specs.declared.refusal.DocRefusal.TheVariants.{RepeatedName, OutOfMemory}

-- the first that is there
abbrev pub first_of : Option ℕ → Option ℕ → Option ℕ
first_of None after = after
first_of (Some n) after = Some n

-- the names that count as seen, behind one more name
abbrev pub seen_with : Bool → List ℕ → List (List ℕ) → List (List ℕ)
seen_with in_array name seen = if in_array then [] else seen ++ name ∷ []

-- Of pairs in a container of this depth, behind others with these names: the depth of the container
-- that has the first repeated name. A name comes before what its value holds.
abbrev pub repeat_in : Bool → ℕ → List (List ℕ) → Tree → Option ℕ
repeat_in in_array depth seen no_pairs = None
repeat_in in_array depth seen (leaf_pair n k v ps) =
    if is_among n seen then Some depth else repeat_in in_array depth (seen_with in_array n seen) ps
repeat_in in_array depth seen (inner_pair n k b inner ps) =
    if is_among n seen then Some depth
    else first_of (repeat_in (is_array_kind k) (depth + 1) [] inner)
    (repeat_in in_array depth (seen_with in_array n seen) ps)

-- the depth of the container that has the first repeated name; the outermost document has depth 1
abbrev pub repeat_depth : Tree → Option ℕ
repeat_depth t = repeat_in false 1 [] t

-- the same of what a value holds, in a container of this depth
abbrev pub repeat_in_value : ℕ → TreeValue → Option ℕ
repeat_in_value depth (leaf_value k v) = None
repeat_in_value depth (document_value k b inner) = repeat_in (is_array_kind k) (depth + 1) [] inner

-- memory runs out, or the first repeated name is in a container of the depth that is told
abbrev pub IsRepeat : Option ℕ → DocRefusal → Type 0
IsRepeat found (RepeatedName depth) = found ≡ Some depth
IsRepeat found OutOfMemory = Unit {0}
IsRepeat found _ = ⊥
