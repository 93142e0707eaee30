-- Whether the names of each array are "0", "1" and so on (bsonspec.org, version 1.1: an array is a
-- document whose names are those).
use Rattle.std.specs.Prelude.{ℕ, ◌+◌, Bool, true, false, ◌&&◌, List, Ok, Err, if◌then◌else◌}
use Rattle.std.specs.Fmt.{decimal}
use Rattle.std.specs.Str.{bytes_eq}
use Rattle.bson_elem.specs.declared.kinds.Kind.{Kind}
use Rattle.bson_elem.specs.declared.kinds.Kind.TheVariants.{Array}
use Rattle.bson_elem.specs.{Read, Tree, inner_pair, leaf_pair, no_pairs}

abbrev pub is_array_kind : Kind → Bool
is_array_kind Array = true
is_array_kind _ = false

-- the canonical name of the pair at an index, counted from 0: in an array the index in decimal,
-- elsewhere the name that it has
abbrev pub name_at : Bool → ℕ → List ℕ → List ℕ
name_at in_array index name = if in_array then decimal index else name

-- the pair at this index has its canonical name
abbrev pub is_named : Bool → ℕ → List ℕ → Bool
is_named in_array index name = bytes_eq name (name_at in_array index name)

-- the pairs from this index of a container on have their canonical names, at every depth
abbrev pub is_plain : Bool → ℕ → Tree → Bool
is_plain in_array index no_pairs = true
is_plain in_array index (leaf_pair name k v ps) =
    is_named in_array index name && is_plain in_array (index + 1) ps
is_plain in_array index (inner_pair name k b inner ps) =
    is_named in_array index name
    && (is_plain (is_array_kind k) 0 inner && is_plain in_array (index + 1) ps)

-- of the name read for the pair at this index: whether it is canonical, and the bytes after it
abbrev pub named_at : Bool → ℕ → Read (List ℕ) → Read Bool
named_at in_array index (Ok name) = Ok (is_named in_array index name.0, name.1)
named_at in_array index (Err c) = Err c
