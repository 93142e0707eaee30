-- The document that update inserts where none matches the filter of a statement (MongoDB manual,
-- Database Commands: update, Upsert Behavior).
use Rattle.std.specs.Prelude.{ℕ, List, [], ◌∷◌, Bool, true, false, not, ◌&&◌, Option, Some, None}
use Rattle.std.specs.Prelude.{Result, Ok, Err, codes, is_some, if◌then◌else◌}
use Rattle.bson_elem.specs.declared.kinds.Kind.TheVariants as kinds
use Rattle.bson_raw.specs.{TreeValue, document_value, first_named}
use Rattle.bson_doc.specs.{Pairs}
use Rattle.bson_doc.specs.Document.{put, value_named}
use Rattle.doc_query.specs.declared.failure.CommandError.{CommandError}
use Rattle.doc_query.specs.declared.failure.CommandError.TheVariants as errors
use Rattle.doc_update.specs.declared.operators.Change.{Change}
use Rattle.doc_query.specs.{and_then, has_operators, is_plain_name}
use Rattle.doc_update.specs.Changing.{changed_fields, still_has}

-- ---- the fields that the filter gives

-- the value that a filter asks a field to equal: it stands there itself, or is the operand of $eq
abbrev pub equality : TreeValue → Option TreeValue
equality (document_value kinds.Document b t) =
    if has_operators t then first_named (codes "$eq") t
    else Some (document_value kinds.Document b t)
equality v = Some v

abbrev pub asks_in : TreeValue → Bool
asks_in (document_value kinds.Document b t) =
    has_operators t && is_some (first_named (codes "$in") t)
asks_in v = false

-- An upsert carries out a field that has a name and doesn't ask for $in, which a server takes as
-- $eq where its operand is one value.
abbrev pub is_given : List ℕ → TreeValue → Bool
is_given name v = is_plain_name name && not (asks_in v)

abbrev pub are_given : Pairs → Bool
are_given [] = true
are_given (f ∷ fs) = if is_given f.0 f.1 then are_given fs else false

abbrev pub with_equality : List ℕ → Option TreeValue → Pairs → Pairs
with_equality name None ps = ps
with_equality name (Some v) ps = put name v ps

-- these fields, and those that a filter asks to equal a value
abbrev pub with_equalities : Pairs → Pairs → Pairs
with_equalities [] ps = ps
with_equalities (f ∷ fs) ps = with_equalities fs (with_equality f.0 (equality f.1) ps)

-- ---- what is made of them

-- an `_id` that the filter gives stays
abbrev pub keeps_given : Option TreeValue → Option TreeValue → Bool
keeps_given None new = true
keeps_given (Some id) new = still_has new id

abbrev pub if_id_kept : Pairs → Pairs → Result Pairs CommandError
if_id_kept ps qs =
    if keeps_given (value_named (codes "_id") ps) (value_named (codes "_id") qs) then Ok qs
    else Err errors.ImmutableId

abbrev pub made_of : Change → Pairs → Result Pairs CommandError
made_of c ps = and_then (changed_fields c ps) (λ qs. if_id_kept ps qs)

-- the fields of the document that is inserted, but for an `_id` that is made: what the update makes
-- of those that the filter gives
abbrev pub new_fields : Change → Pairs → Result Pairs CommandError
new_fields c filter =
    if are_given filter then made_of c (with_equalities filter []) else Err errors.Upsert
