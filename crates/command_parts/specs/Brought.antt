-- The documents that a command brings: those of an insert, or the statements of an update or a
-- delete.
use Rattle.std.specs.Prelude.{◌≡◌, ◌&&◌, ℕ, List, [], ◌∷◌, ◌++◌, length, Option, Some, None, Result}
use Rattle.std.specs.Prelude.{Ok, Err, nat_le, option_map, if◌then◌else◌}
use Rattle.std.specs.Str.{bytes_eq}
use Rattle.bson_elem.specs.declared.kinds.Kind.TheVariants as kinds
use Rattle.bson_elem.specs.{Tree, inner_pair, leaf_pair, no_code, no_pairs}
use Rattle.bson_raw.specs.{TreeValue, document_value, first_named, leaf_value}
use Rattle.wire_msg.specs.{Content, Sequence}
use Rattle.doc_query.specs.declared.failure.CommandError.{CommandError}
use Rattle.doc_query.specs.declared.failure.CommandError.TheVariants as errors
use Rattle.doc_query.specs.declared.failure.Failure.{Failure}
use Rattle.doc_query.specs.declared.failure.Failure.TheVariants.{OutOfMemory, Refused}
use Rattle.doc_query.specs.{owned}

-- a document as it is kept: in its canonical form, if no name is repeated in it
abbrev pub kept_document : Tree → Option TreeValue
kept_document t = option_map (document_value kinds.Document no_code) (owned t)

-- a document and then others, if all of them are kept
abbrev pub with_others : Option TreeValue → Option (List TreeValue) → Option (List TreeValue)
with_others None others = None
with_others (Some v) None = None
with_others (Some v) (Some vs) = Some (v ∷ vs)

-- documents and then others, if those are kept
abbrev pub followed_by : List TreeValue → Option (List TreeValue) → Option (List TreeValue)
followed_by vs None = None
followed_by vs (Some ws) = Some (vs ++ ws)

-- one document alone, if it is kept
abbrev pub alone : Option TreeValue → Option (List TreeValue)
alone v = with_others v (Some [])

-- a value as it is kept, if it is a document
abbrev pub kept_value : TreeValue → Option TreeValue
kept_value (document_value kinds.Document b t) = kept_document t
kept_value _ = None

-- the documents of an array, if all its values are documents
abbrev pub in_array : Tree → Option (List TreeValue)
in_array no_pairs = Some []
in_array (leaf_pair n k v ps) = with_others (kept_value (leaf_value k v)) (in_array ps)
in_array (inner_pair n k b t ps) = with_others (kept_value (document_value k b t)) (in_array ps)

-- the documents of a sequence, if no name is repeated in one of them
abbrev pub in_sequence : List Tree → Option (List TreeValue)
in_sequence [] = Some []
in_sequence (t ∷ ts) = with_others (kept_document t) (in_sequence ts)

-- the first documents and then the others, if all of them are kept
abbrev pub joined : Option (List TreeValue) → Option (List TreeValue) → Option (List TreeValue)
joined None others = None
joined (Some vs) others = followed_by vs others

-- those of a sequence; one with another identifier has none
abbrev pub sequence_documents : List ℕ → Sequence → Option (List TreeValue)
sequence_documents name q =
    if bytes_eq q.identifier name then in_sequence q.documents else Some []

abbrev pub in_sequences : List ℕ → List Sequence → Option (List TreeValue)
in_sequences name [] = Some []
in_sequences name (q ∷ qs) = joined (sequence_documents name q) (in_sequences name qs)

-- the documents of an array in the body, or of the sequences with this identifier
abbrev pub in_field : List ℕ → List Sequence → Option TreeValue → Option (List TreeValue)
in_field name qs None = in_sequences name qs
in_field name qs (Some (document_value kinds.Array b t)) = in_array t
in_field name qs (Some _) = None

-- the documents, if there are 1 to 100,000 of them
abbrev pub if_count_allowed : Option (List TreeValue) → Result (List TreeValue) CommandError
if_count_allowed None = Err errors.Documents
if_count_allowed (Some vs) =
    if (nat_le 1 (length vs) && nat_le (length vs) 100000) then Ok vs else Err errors.Documents

-- the documents that a command brings under this name
abbrev pub brought : List ℕ → Content → Result (List TreeValue) CommandError
brought name c = if_count_allowed (in_field name c.sequences (first_named name c.body))

-- ---- appending them

-- These documents were appended, if they are kept; otherwise they were refused; or memory ran out.
abbrev pub Appended : List TreeValue → Option (List TreeValue) → Result (Unit {0}) Failure
    → List TreeValue → Type 0
Appended old given (Ok _) new = followed_by old given ≡ Some new
Appended old given (Err OutOfMemory) new = Unit {0}
Appended old given (Err (Refused e)) new = (given ≡ None) × (e ≡ errors.Documents)
