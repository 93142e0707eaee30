-- Answers, as lists of a name and a value (MongoDB manual, Database Commands: each command's
-- Output).
use Rattle.std.specs.Prelude.{ℕ, ℤ, pos, List, [], ◌∷◌, Bool, true, false, codes}
use Rattle.std.specs.Prelude.{if◌then◌else◌}
use Rattle.bson_raw.specs.{TreeValue}
use Rattle.bson_doc.specs.{put}
use Rattle.test_store.specs.declared.answer.Batch.{Batch}
use Rattle.test_store.specs.declared.answer.Batch.TheVariants.{First, Next}
use Rattle.doc_query.specs.{array, count_value, inner, int64, text, truth}
use Rattle.command_parts.specs.{double_one, ok_alone}

-- the cursors that were closed, and the values that aren't the id of an open one
abbrev pub killed_pairs : List TreeValue → List TreeValue → List (List ℕ × TreeValue)
killed_pairs killed missing =
    (codes "cursorsKilled", array killed) ∷ (codes "cursorsNotFound", array missing)
    ∷ (codes "cursorsAlive", array []) ∷ (codes "cursorsUnknown", array []) ∷ ok_alone

-- the number of documents that a command counted
abbrev pub counted_pairs : ℕ → List (List ℕ × TreeValue)
counted_pairs n = (codes "n", count_value n) ∷ ok_alone

-- the errors of a write, if there are any, and `ok`
abbrev pub errors_pairs : List TreeValue → List (List ℕ × TreeValue)
errors_pairs [] = ok_alone
errors_pairs (e ∷ es) = (codes "writeErrors", array (e ∷ es)) ∷ ok_alone

-- the answer to insert and to delete: how many documents were inserted or deleted, and the errors
-- of other documents or of statements
abbrev pub written_pairs : ℕ → List TreeValue → List (List ℕ × TreeValue)
written_pairs n errors = (codes "n", count_value n) ∷ errors_pairs errors

-- the fields with an array of these values at the name, unless there are none
abbrev pub put_any : List ℕ → List TreeValue → List (List ℕ × TreeValue)
    → List (List ℕ × TreeValue)
put_any name [] ps = ps
put_any name (v ∷ vs) ps = put name (array (v ∷ vs)) ps

-- the answer to update: how many documents matched or were inserted, how many became others, which
-- statements inserted one, and the errors of others
abbrev pub updated_pairs : ℕ → ℕ → List TreeValue → List TreeValue → List (List ℕ × TreeValue)
updated_pairs matched modified upserted errors =
    put (codes "ok") double_one
    (put_any (codes "writeErrors") errors
    (put_any (codes "upserted") upserted
    ((codes "n", count_value matched) ∷ (codes "nModified", count_value modified) ∷ [])))

-- the answer to drop: how many indexes there were, and the namespace
abbrev pub dropped_pairs : ℕ → List ℕ → List (List ℕ × TreeValue)
dropped_pairs n ns = (codes "nIndexesWas", count_value n) ∷ (codes "ns", text ns) ∷ ok_alone

-- the answer to createIndexes: how many indexes there were and are, and whether the collection is
-- new
abbrev pub created_pairs : ℕ → ℕ → Bool → List (List ℕ × TreeValue)
created_pairs before after is_new =
    (codes "numIndexesBefore", count_value before) ∷ (codes "numIndexesAfter", count_value after)
    ∷ (codes "createdCollectionAutomatically", truth is_new) ∷ ok_alone

-- the answer to dropDatabase, by whether there was a collection of that database
abbrev pub dropped_database_pairs : List ℕ → Bool → List (List ℕ × TreeValue)
dropped_database_pairs db held =
    if held then (codes "dropped", text db) ∷ ok_alone else ok_alone

-- the listing of the database with this name, by whether names alone are asked for; it has no files
abbrev pub database_listing : Bool → List ℕ → TreeValue
database_listing true name = inner ((codes "name", text name) ∷ [])
database_listing false name =
    inner ((codes "name", text name) ∷ (codes "sizeOnDisk", int64 (pos 0))
    ∷ (codes "empty", truth false) ∷ [])

-- the answer to listDatabases
abbrev pub databases_pairs : Bool → List TreeValue → List (List ℕ × TreeValue)
databases_pairs true vs = (codes "databases", array vs) ∷ ok_alone
databases_pairs false vs =
    (codes "databases", array vs) ∷ (codes "totalSize", int64 (pos 0)) ∷ ok_alone

-- the field of a batch of documents
abbrev pub batch_name : Batch → List ℕ
batch_name First = codes "firstBatch"
batch_name Next = codes "nextBatch"

-- a batch of documents, the id of the cursor that has more of them (0 if none has), and the
-- namespace
abbrev pub cursor_pairs : Batch → List TreeValue → ℤ → List ℕ → List (List ℕ × TreeValue)
cursor_pairs b vs id ns =
    (batch_name b, array vs) ∷ (codes "id", int64 id) ∷ (codes "ns", text ns) ∷ []

-- an answer with these fields in its field `cursor`
abbrev pub cursor_answer : Batch → List TreeValue → ℤ → List ℕ → List (List ℕ × TreeValue)
cursor_answer b vs id ns = (codes "cursor", inner (cursor_pairs b vs id ns)) ∷ ok_alone

-- the listing of the collection with this name, by whether names alone are asked for
abbrev pub listing : Bool → List ℕ → TreeValue
listing true name =
    inner ((codes "name", text name) ∷ (codes "type", text (codes "collection")) ∷ [])
listing false name =
    inner ((codes "name", text name) ∷ (codes "type", text (codes "collection"))
    ∷ (codes "options", inner [])
    ∷ (codes "info", inner ((codes "readOnly", truth false) ∷ [])) ∷ [])
