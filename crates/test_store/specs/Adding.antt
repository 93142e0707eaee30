-- Adding documents to those of a namespace, in which no two have one `_id`.
use Rattle.std.specs.Prelude.{ℕ, pos, ◌+◌, List, [], ◌∷◌, ◌++◌, Bool, true, false, ◌&&◌, ◌||◌}
use Rattle.std.specs.Prelude.{Option, Some, None, codes, map, option_map, if◌then◌else◌}
use Rattle.std.specs.Option.{option_or}
use Rattle.bson_raw.specs.{TreeValue}
use Rattle.bson_doc.specs.{value_of}
use Rattle.doc_query.specs.{count_value, inner, int32, text}
use Rattle.test_store.specs.declared.adding.Adding.{Adding}
use Rattle.doc_update.specs.{free_number, has_error, id_fault, id_in, identified, is_taken}
use Rattle.doc_update.specs.{write_error}
use Rattle.test_store.specs.Held.{NamespaceView, namespace_text}

-- the documents to add, and the errors of those that can't be added
pub record AddingView : Type 0 where
  pub added : List TreeValue
  pub errors : List TreeValue

abbrev pub adding_of : Adding → AddingView
adding_of a =
    record { added = map value_of a.added.items; errors = map value_of a.errors.items }

-- the words of the error of a document whose `_id` is taken
abbrev pub duplicate_words : NamespaceView → List ℕ
duplicate_words n =
    codes "E11000 duplicate key error collection: " ++ namespace_text n ++ codes " index: _id_"

-- the field `_id` of this value
abbrev pub key_of : Option TreeValue → TreeValue
key_of None = inner []
key_of (Some id) = inner ((codes "_id", id) ∷ [])

-- the error of the document at this index, whose `_id` is taken
abbrev pub duplicate_error : ℕ → NamespaceView → Option TreeValue → TreeValue
duplicate_error i n id =
    inner ((codes "index", count_value i) ∷ (codes "code", int32 (pos 11000))
    ∷ (codes "keyPattern", key_of (Some (int32 (pos 1)))) ∷ (codes "keyValue", key_of id)
    ∷ (codes "errmsg", text (duplicate_words n)) ∷ [])

abbrev pub if_taken : Bool → TreeValue → Option TreeValue
if_taken true error = Some error
if_taken false error = None

-- The error of the document at this index: of one whose `_id` can't be one, or is that of one that
-- is held or was added before.
abbrev pub error_of : NamespaceView → List TreeValue → List TreeValue → ℕ → Option TreeValue
    → Option TreeValue
error_of n held added i id =
    option_or (option_map (λ words. write_error i (pos 2) words) (id_fault id))
    (if_taken (is_taken id held || is_taken id added) (duplicate_error i n id))

-- a document is added, unless it has this error
abbrev pub add_unless : Option TreeValue → TreeValue → AddingView → AddingView
add_unless None v a = record { added = a.added ++ v ∷ []; errors = a.errors }
add_unless (Some e) v a = record { added = a.added; errors = a.errors ++ e ∷ [] }

abbrev pub add : NamespaceView → List TreeValue → ℕ → TreeValue → AddingView → AddingView
add n held i v a = add_unless (error_of n held a.added i (id_in v)) v a

-- a document is added with an `_id`, unless it has an error
abbrev pub add_identified : NamespaceView → List TreeValue → ℕ → TreeValue → AddingView → AddingView
add_identified n held i v a = add n held i (identified (free_number held a.added) v) a

-- the documents from this index on are added one after another, with an `_id`; where they are
-- ordered, nothing follows the first error
abbrev pub add_each : Bool → NamespaceView → List TreeValue → ℕ → List TreeValue → AddingView
    → AddingView
add_each ordered n held i [] a = a
add_each ordered n held i (v ∷ vs) a =
    if ordered && has_error a.errors then a
    else add_each ordered n held (i + 1) vs (add_identified n held i v a)

-- what is added of these documents
abbrev pub gathered : Bool → NamespaceView → List TreeValue → List TreeValue → AddingView
gathered ordered n held vs = add_each ordered n held 0 vs (record { added = []; errors = [] })
