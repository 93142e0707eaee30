-- Documents without the fields that aren't compared.
use Rattle.std.specs.Prelude.{◌≡◌, ◌&&◌, not, is_none, ℕ, List, Bool, true, false}
use Rattle.std.specs.Prelude.{if◌then◌else◌}
use Rattle.bson_elem.specs.{Tree, inner_pair, leaf_pair, no_pairs}
use Rattle.bson_raw.specs.{TreeValue, document_value, is_among, is_array_kind, leaf_value}
use Rattle.bson_doc.specs.{plain, repeat_depth}

-- whether a pair isn't compared: a field with one of these names. What stands in an array is none.
abbrev pub is_ignored : Bool → List (List ℕ) → List ℕ → Bool
is_ignored in_array names name = not in_array && is_among name names

-- the pairs without those that aren't compared, at every depth
abbrev pub stripped_in : Bool → List (List ℕ) → Tree → Tree
stripped_in in_array names no_pairs = no_pairs
stripped_in in_array names (leaf_pair n k v ps) =
    if is_ignored in_array names n then stripped_in in_array names ps
    else leaf_pair n k v (stripped_in in_array names ps)
stripped_in in_array names (inner_pair n k b inner ps) =
    if is_ignored in_array names n then stripped_in in_array names ps
    else inner_pair n k b (stripped_in (is_array_kind k) names inner)
    (stripped_in in_array names ps)

-- the document without the fields of these names
abbrev pub stripped : List (List ℕ) → Tree → Tree
stripped names t = stripped_in false names t

-- the value without the fields of these names
abbrev pub stripped_value : List (List ℕ) → TreeValue → TreeValue
stripped_value names (leaf_value k v) = leaf_value k v
stripped_value names (document_value k b inner) =
    document_value k b (stripped_in (is_array_kind k) names inner)

-- whether no document or scope in it has a name twice
abbrev pub has_own_names : Tree → Bool
has_own_names t = is_none (repeat_depth t)

-- what is compared of a document: all of it, or what is left without the fields of these names,
-- with "0", "1" and so on as the names in each array
abbrev pub compared : Bool → List (List ℕ) → Tree → Tree
compared true names t = stripped names (plain t)
compared false names t = t

-- The documents are the same but for the fields of these names; or in all, if one of them has a
-- name twice.
abbrev pub AreSame : List (List ℕ) → Tree → Tree → Type 0
AreSame names t u =
    compared (has_own_names t && has_own_names u) names t
    ≡ compared (has_own_names t && has_own_names u) names u
