-- Trees in canonical form (bsonspec.org, version 1.1: an array is a document whose names are "0",
-- "1" and so on).
use Rattle.std.specs.Prelude.{ℕ, ◌+◌, Bool, true, false, length}
use Rattle.bson_elem.specs.{Tree, document, elements, inner_pair, leaf_pair, no_pairs}
use Rattle.bson_raw.specs.{is_array_kind, name_at}

-- the pairs from this index of a container on, with the canonical names at every depth
abbrev pub plain_from : Bool → ℕ → Tree → Tree
plain_from in_array index no_pairs = no_pairs
plain_from in_array index (leaf_pair name k v ps) =
    leaf_pair (name_at in_array index name) k v (plain_from in_array (index + 1) ps)
plain_from in_array index (inner_pair name k b inner ps) =
    inner_pair (name_at in_array index name) k b (plain_from (is_array_kind k) 0 inner)
    (plain_from in_array (index + 1) ps)

-- the pairs of a document, with "0", "1" and so on as the names in each array
abbrev pub plain : Tree → Tree
plain t = plain_from false 0 t

-- the pairs of an array from this index on
abbrev pub numbered : ℕ → Tree → Tree
numbered index t = plain_from true index t

-- how many bytes the canonical form has
abbrev pub canonical_len : Tree → ℕ
canonical_len t = length (document (elements (plain t)))
