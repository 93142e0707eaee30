-- The indexes of a collection. They are listed, and change no answer (MongoDB manual, createIndexes
-- and listIndexes).
use Rattle.std.specs.Prelude.{ℕ, pos, List, [], ◌∷◌, ◌++◌, Bool, true, false, not, ◌&&◌, ◌||◌}
use Rattle.std.specs.Prelude.{Option, Some, None, Result, Ok, Err, codes, if◌then◌else◌}
use Rattle.std.specs.Prelude.{string_bytes}
use Rattle.std.specs.List.{list_any}
use Rattle.std.specs.Str.{bytes_eq}
use Rattle.bson_elem.specs.declared.kinds.Kind.TheVariants as kinds
use Rattle.bson_elem.specs.{Tree, inner_pair, leaf_pair, no_pairs}
use Rattle.bson_raw.specs.{TreeValue, document_value, first_named, leaf_value}
use Rattle.bson_doc.specs.{value_of}
use Rattle.doc_query.specs.declared.failure.CommandError.{CommandError}
use Rattle.doc_query.specs.declared.failure.CommandError.TheVariants as errors
use Rattle.doc_query.specs.{and_then, equal, inner, int32, or_error, text, text_of}
use Rattle.doc_stages.specs.{are_keys}
use Rattle.doc_update.specs.{is_one_of}
use Rattle.test_store.specs.declared.indexes.Index.{Index}
use Rattle.test_store.specs.Options.{asks}

-- an index: its name, and the document of the fields that it is by, each with a direction
pub record IndexView : Type 0 where
  pub name : List ℕ
  pub key : TreeValue

abbrev pub index_view : Index → IndexView
index_view i = record { name = string_bytes i.name; key = value_of i.key }

-- the index that each collection has
abbrev pub id_index : IndexView
id_index = record { name = codes "_id_"; key = inner ((codes "_id", int32 (pos 1)) ∷ []) }

-- ---- which ones are made

abbrev pub is_index_field : List ℕ → Bool
is_index_field name =
    is_one_of name
    (codes "key" ∷ codes "name" ∷ codes "v" ∷ codes "ns" ∷ codes "background" ∷ [])

-- an option that would change what is answered may stand there where it is false
abbrev pub may_have : List ℕ → TreeValue → Bool
may_have name v = is_index_field name || not (asks v)

abbrev pub has_index_fields : Tree → Bool
has_index_fields no_pairs = true
has_index_fields (leaf_pair n k v ps) = may_have n (leaf_value k v) && has_index_fields ps
has_index_fields (inner_pair n k b t ps) = may_have n (document_value k b t) && has_index_fields ps

-- an index is by at least one field, each up or down
abbrev pub is_key_document : TreeValue → Bool
is_key_document (document_value kinds.Document b no_pairs) = false
is_key_document (document_value kinds.Document b t) = are_keys t
is_key_document _ = false

abbrev pub key_of : Option TreeValue → Option TreeValue
key_of None = None
key_of (Some v) = if is_key_document v then Some v else None

abbrev pub named_index : Option (List ℕ) → Option TreeValue → Option IndexView
named_index (Some name) (Some key) = Some (record { name = name; key = key })
named_index _ _ = None

-- the index that a value asks for, if it can be made
abbrev pub index_in : TreeValue → Option IndexView
index_in (document_value kinds.Document b t) =
    if has_index_fields t
    then named_index (text_of (first_named (codes "name") t)) (key_of (first_named (codes "key") t))
    else None
index_in _ = None

-- ---- adding them

abbrev pub has_name : List ℕ → IndexView → Bool
has_name name i = bytes_eq i.name name

-- two keys are one if their fields and directions are equal, in one order
abbrev pub has_key : TreeValue → IndexView → Bool
has_key key i = equal i.key key

abbrev pub is_index : IndexView → IndexView → Bool
is_index i j = has_name i.name j && has_key i.key j

-- The indexes with one more, unless it is there; no two have one name or one key. One by `{_id: 1}`
-- is the one that each collection has, whatever its name.
abbrev pub with_index : IndexView → List IndexView → Result (List IndexView) CommandError
with_index i js =
    if has_key i.key id_index then Ok js else
    if list_any (is_index i) js then Ok js else
    if list_any (has_name i.name) js then Err errors.IndexName else
    if list_any (has_key i.key) js then Err errors.IndexKey else Ok (js ++ i ∷ [])

-- the indexes with the one that a value asks for
abbrev pub with_asked : TreeValue → List IndexView → Result (List IndexView) CommandError
with_asked v js = and_then (or_error errors.Index (index_in v)) (λ i. with_index i js)

-- the indexes with those that the values ask for
abbrev pub with_indexes : List TreeValue → List IndexView → Result (List IndexView) CommandError
with_indexes [] js = Ok js
with_indexes (v ∷ vs) js = and_then (with_asked v js) (λ more. with_indexes vs more)

-- ---- telling them

-- the document that listIndexes gives for an index
abbrev pub index_listing : IndexView → TreeValue
index_listing i =
    inner ((codes "v", int32 (pos 2)) ∷ (codes "key", i.key) ∷ (codes "name", text i.name) ∷ [])
