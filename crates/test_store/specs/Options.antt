-- Which fields and document sequences each command carries out. A command with any other field is
-- refused, unless that field is false, and so is one with any other sequence.
use Rattle.std.specs.Prelude.{ℕ, List, [], ◌∷◌, Bool, true, false, not, ◌&&◌, ◌||◌, Option, Some}
use Rattle.std.specs.Prelude.{None, codes, if◌then◌else◌}
use Rattle.std.specs.Option.{option_or}
use Rattle.std.specs.Str.{bytes_eq}
use Rattle.bson_elem.specs.declared.kinds.Kind.TheVariants as kinds
use Rattle.bson_elem.specs.{Tree, boolean_value, inner_pair, leaf_pair, no_pairs}
use Rattle.bson_raw.specs.{TreeValue, document_value, first_named, leaf_value}
use Rattle.wire_msg.specs.{Content, Sequence}
use Rattle.doc_update.specs.{is_one_of}
use Rattle.test_store.specs.declared.commands.Command.{Command}
use Rattle.test_store.specs.declared.commands.Command.TheVariants as commands
use Rattle.test_store.specs.declared.options.Scope.{Scope}
use Rattle.test_store.specs.declared.options.Scope.TheVariants.{Body, Cursor}

-- a field that never changes an answer
abbrev pub is_general : List ℕ → Bool
is_general name =
    is_one_of name
    (codes "$db" ∷ codes "$clusterTime" ∷ codes "$readPreference" ∷ codes "lsid"
    ∷ codes "readConcern" ∷ codes "writeConcern" ∷ codes "maxTimeMS" ∷ codes "comment"
    ∷ codes "apiVersion" ∷ codes "apiStrict" ∷ codes "apiDeprecationErrors" ∷ [])

abbrev pub is_insert_field : List ℕ → Bool
is_insert_field name =
    is_one_of name
    (codes "insert" ∷ codes "documents" ∷ codes "ordered" ∷ codes "bypassDocumentValidation" ∷ [])

abbrev pub is_find_field : List ℕ → Bool
is_find_field name =
    is_one_of name
    (codes "find" ∷ codes "filter" ∷ codes "sort" ∷ codes "skip" ∷ codes "limit"
    ∷ codes "batchSize" ∷ codes "singleBatch" ∷ codes "projection" ∷ codes "allowDiskUse"
    ∷ codes "noCursorTimeout" ∷ codes "allowPartialResults" ∷ [])

abbrev pub is_delete_field : List ℕ → Bool
is_delete_field name =
    is_one_of name (codes "delete" ∷ codes "deletes" ∷ codes "ordered" ∷ [])

abbrev pub is_update_field : List ℕ → Bool
is_update_field name =
    is_one_of name
    (codes "update" ∷ codes "updates" ∷ codes "ordered" ∷ codes "bypassDocumentValidation" ∷ [])

abbrev pub is_count_field : List ℕ → Bool
is_count_field name =
    is_one_of name (codes "count" ∷ codes "query" ∷ codes "skip" ∷ codes "limit" ∷ [])

abbrev pub is_aggregate_field : List ℕ → Bool
is_aggregate_field name =
    is_one_of name
    (codes "aggregate" ∷ codes "pipeline" ∷ codes "cursor" ∷ codes "allowDiskUse"
    ∷ codes "bypassDocumentValidation" ∷ [])

abbrev pub is_more_field : List ℕ → Bool
is_more_field name = is_one_of name (codes "getMore" ∷ codes "collection" ∷ codes "batchSize" ∷ [])

abbrev pub is_list_field : List ℕ → Bool
is_list_field name =
    is_one_of name
    (codes "listCollections" ∷ codes "filter" ∷ codes "nameOnly" ∷ codes "cursor"
    ∷ codes "authorizedCollections" ∷ [])

abbrev pub is_databases_field : List ℕ → Bool
is_databases_field name =
    is_one_of name
    (codes "listDatabases" ∷ codes "filter" ∷ codes "nameOnly" ∷ codes "authorizedDatabases" ∷ [])

-- the command carries out this field, or gives one answer whatever the field is
abbrev pub reads : Command → List ℕ → Bool
reads commands.Insert name = is_insert_field name || is_general name
reads commands.Find name = is_find_field name || is_general name
reads commands.GetMore name = is_more_field name || is_general name
reads commands.Delete name = is_delete_field name || is_general name
reads commands.Update name = is_update_field name || is_general name
reads commands.Count name = is_count_field name || is_general name
reads commands.Aggregate name = is_aggregate_field name || is_general name
reads commands.KillCursors name =
    (bytes_eq name (codes "killCursors") || bytes_eq name (codes "cursors")) || is_general name
reads commands.Drop name = bytes_eq name (codes "drop") || is_general name
reads commands.DropDatabase name = bytes_eq name (codes "dropDatabase") || is_general name
reads commands.ListCollections name = is_list_field name || is_general name
reads commands.ListDatabases name = is_databases_field name || is_general name
reads commands.CreateIndexes name =
    (bytes_eq name (codes "createIndexes") || bytes_eq name (codes "indexes")) || is_general name
reads commands.ListIndexes name =
    (bytes_eq name (codes "listIndexes") || bytes_eq name (codes "cursor")) || is_general name
reads _ name = true

-- the fields that are carried out, of a body and of its field `cursor`
abbrev pub reads_in : Scope → List ℕ → Bool
reads_in (Body c) name = reads c name
reads_in Cursor name = bytes_eq name (codes "batchSize")

-- a field that is false asks for nothing
abbrev pub asks : TreeValue → Bool
asks (leaf_value kinds.Boolean (boolean_value truth)) = truth
asks _ = true

-- a field asks for what isn't carried out
abbrev pub is_unread : Scope → List ℕ → TreeValue → Bool
is_unread s name v = not (reads_in s name) && asks v

-- the name of the first field that asks for what isn't carried out
abbrev pub unread_field : Scope → Tree → Option (List ℕ)
unread_field s no_pairs = None
unread_field s (leaf_pair n k v ps) =
    if is_unread s n (leaf_value k v) then Some n else unread_field s ps
unread_field s (inner_pair n k b inner ps) =
    if is_unread s n (document_value k b inner) then Some n else unread_field s ps

-- ---- the fields of `cursor`

-- the command has a field `cursor`, which says how its cursor is made
abbrev pub reads_cursor : Command → Bool
reads_cursor commands.Aggregate = true
reads_cursor commands.ListCollections = true
reads_cursor commands.ListIndexes = true
reads_cursor _ = false

abbrev pub unread_in_cursor : Option TreeValue → Option (List ℕ)
unread_in_cursor (Some (document_value kinds.Document b t)) = unread_field Cursor t
unread_in_cursor _ = None

-- the name of the first field of `cursor` that asks for what isn't carried out
abbrev pub unread_option : Command → Tree → Option (List ℕ)
unread_option c t =
    if reads_cursor c then unread_in_cursor (first_named (codes "cursor") t) else None

-- ---- document sequences

-- the command takes its documents or statements from a sequence with this identifier
abbrev pub reads_sequence : Command → List ℕ → Bool
reads_sequence commands.Insert name = bytes_eq name (codes "documents")
reads_sequence commands.Update name = bytes_eq name (codes "updates")
reads_sequence commands.Delete name = bytes_eq name (codes "deletes")
reads_sequence _ name = false

abbrev pub first_identifier : List Sequence → Option (List ℕ)
first_identifier [] = None
first_identifier (q ∷ qs) = Some q.identifier

-- the identifier of the first sequence that the command doesn't read, which reads one at most
abbrev pub unread_sequence : Command → List Sequence → Option (List ℕ)
unread_sequence c [] = None
unread_sequence c (q ∷ qs) =
    if reads_sequence c q.identifier then first_identifier qs else Some q.identifier

-- ---- requests

-- a command that isn't known is refused as such, whatever its sequences are
abbrev pub unless_unknown : Command → Option (List ℕ) → Option (List ℕ)
unless_unknown commands.Unknown name = None
unless_unknown _ name = name

-- the name of the first field that asks for what a command doesn't carry out, or of the first
-- sequence where no field does
abbrev pub first_unread : Command → Content → Option (List ℕ)
first_unread c content =
    option_or (unread_field (Body c) content.body)
    (option_or (unread_option c content.body)
    (unless_unknown c (unread_sequence c content.sequences)))
