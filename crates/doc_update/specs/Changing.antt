-- What an update makes of a document (MongoDB manual, Update Operators, and Database Commands:
-- update).
use Rattle.std.specs.Prelude.{[], ◌∷◌, Bool, false, not, Option, Some, None, Result, Ok, Err, codes}
use Rattle.std.specs.Prelude.{is_some, if◌then◌else◌}
use Rattle.bson_raw.specs.{TreeValue}
use Rattle.bson_doc.specs.{Pairs, coded_value, same}
use Rattle.bson_doc.specs.Document.{value_named}
use Rattle.doc_query.specs.declared.failure.CommandError.{CommandError}
use Rattle.doc_query.specs.declared.failure.CommandError.TheVariants as errors
use Rattle.doc_update.specs.declared.operators.Change.{Change}
use Rattle.doc_update.specs.declared.operators.Change.TheVariants.{Operate, Replace}
use Rattle.doc_update.specs.declared.operators.Operators.{Operators}
use Rattle.doc_update.specs.declared.setting.Edit.TheVariants as edits
use Rattle.doc_query.specs.{and_then}
use Rattle.doc_update.specs.Identity.{put_each}
use Rattle.doc_update.specs.Removing.{without_each}
use Rattle.doc_update.specs.Setting.{edit_each}

-- ---- operators

-- $set comes first, then $unset, and then $inc
abbrev pub operated : Operators → Pairs → Result Pairs CommandError
operated o ps =
    and_then (edit_each edits.Set o.set ps) (λ qs.
    edit_each edits.Increment o.increments (without_each o.unset qs))

-- ---- documents

abbrev pub id_alone : Option TreeValue → Pairs
id_alone None = []
id_alone (Some id) = (codes "_id", id) ∷ []

-- a document in the place of another one, whose `_id` it keeps as its first field
abbrev pub replaced : Pairs → Pairs → Pairs
replaced new ps = put_each new (id_alone (value_named (codes "_id") ps))

-- what an update makes of the fields of a document
abbrev pub changed_fields : Change → Pairs → Result Pairs CommandError
changed_fields (Replace new) ps = Ok (replaced new ps)
changed_fields (Operate o) ps = operated o ps

-- a field has this value still: they are of one kind, and their bytes are the same
abbrev pub still_has : Option TreeValue → TreeValue → Bool
still_has None v = false
still_has (Some own) v = same coded_value own v

-- an `_id` isn't set, changed or removed
abbrev pub keeps_id : Option TreeValue → Option TreeValue → Bool
keeps_id None new = not (is_some new)
keeps_id (Some id) new = still_has new id

-- what an update makes of a document, whose `_id` it must keep
abbrev pub changed : Change → Pairs → Result Pairs CommandError
changed c ps =
    and_then (changed_fields c ps) (λ qs.
    if keeps_id (value_named (codes "_id") ps) (value_named (codes "_id") qs) then Ok qs
    else Err errors.ImmutableId)
