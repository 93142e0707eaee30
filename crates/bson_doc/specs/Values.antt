-- The values of a tree in canonical form, and the bytes of a value.
use Rattle.std.specs.Prelude.{ℕ, List, ◌∷◌, ◌++◌, length}
use Rattle.bson_elem.specs.declared.kinds.Kind.{Kind}
use Rattle.bson_elem.specs.{byte_of, cstring, elements, form_of, inner_bytes, leaf_bytes}
use Rattle.bson_raw.specs.{TreeValue, document_value, is_array_kind, leaf_value}
use Rattle.bson_doc.specs.Plain.{plain_from}

-- the value with the canonical names in what it holds
abbrev pub plain_value : TreeValue → TreeValue
plain_value (leaf_value k v) = leaf_value k v
plain_value (document_value k b inner) = document_value k b (plain_from (is_array_kind k) 0 inner)

-- the bytes of a value, behind its name
abbrev pub value_bytes : TreeValue → List ℕ
value_bytes (leaf_value k v) = leaf_bytes (form_of k) v
value_bytes (document_value k b inner) = inner_bytes b (elements inner)

-- the number of bytes of a value, without those of its name
abbrev pub value_len : TreeValue → ℕ
value_len v = length (value_bytes v)

-- the kind of a value
abbrev pub value_kind : TreeValue → Kind
value_kind (leaf_value k v) = k
value_kind (document_value k b inner) = k

-- the bytes of an element
abbrev pub element_bytes : List ℕ → TreeValue → List ℕ
element_bytes name v = byte_of (value_kind v) ∷ (cstring name ++ value_bytes v)
