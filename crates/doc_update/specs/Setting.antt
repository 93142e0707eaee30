-- What $set and $inc make of a document: the value in which the steps of a path end is edited, and
-- the documents that are missing on the way are made (MongoDB manual, Update Operators: $set).
use Rattle.std.specs.Prelude.{ℕ, List, [], ◌∷◌, Option, Some, None, Result, Ok, Err}
use Rattle.std.specs.Prelude.{slice_get}
use Rattle.bson_elem.specs.declared.kinds.Kind.TheVariants as kinds
use Rattle.bson_raw.specs.{TreeValue, document_value}
use Rattle.bson_doc.specs.{Pairs, pairs_of}
use Rattle.bson_doc.specs.Document.{put, value_named}
use Rattle.doc_query.specs.declared.failure.CommandError.{CommandError}
use Rattle.doc_query.specs.declared.failure.CommandError.TheVariants as errors
use Rattle.doc_update.specs.declared.increments.Number.{Number}
use Rattle.doc_update.specs.declared.setting.Edit.{Edit}
use Rattle.doc_update.specs.declared.setting.Edit.TheVariants as edits
use Rattle.doc_query.specs.{and_then, array, inner, steps, values_in}
use Rattle.doc_update.specs.Elements.{index_in, put_at}
use Rattle.doc_update.specs.Increments.{number_of, sum}

-- ---- the value itself

abbrev pub added : Option Number → Option Number → Result TreeValue CommandError
added None b = Err errors.Increment
added (Some a) None = Err errors.Increment
added (Some a) (Some b) = sum a b

-- what becomes of a value that is incremented; one that is missing is set
abbrev pub incremented : TreeValue → Option TreeValue → Result TreeValue CommandError
incremented by None = Ok by
incremented by (Some v) = added (number_of v) (number_of by)

-- what an operator makes by its operand of a value, which may be missing
abbrev pub edited : Edit → TreeValue → Option TreeValue → Result TreeValue CommandError
edited edits.Set operand own = Ok operand
edited edits.Increment operand own = incremented operand own

-- ---- the values on the way

-- what is made of a value that may be missing
abbrev pub Making : Type 0
Making = Option TreeValue → Result TreeValue CommandError

-- the document with what is made of its field of this name
abbrev pub with_field : Making → List ℕ → Pairs → Result Pairs CommandError
with_field make s ps = and_then (make (value_named s ps)) (λ v. Ok (put s v ps))

abbrev pub with_inner : Making → List ℕ → Pairs → Result TreeValue CommandError
with_inner make s ps = and_then (with_field make s ps) (λ qs. Ok (inner qs))

-- the array with what is made of the element whose index this is
abbrev pub with_element : Making → List ℕ → List TreeValue → Result TreeValue CommandError
with_element make s vs =
    and_then (index_in s vs) (λ i.
    and_then (make (slice_get vs i)) (λ v. Ok (array (put_at i v vs))))

-- What is made of a value by steps that end in one of which this is made. Each step goes into a
-- document by a name, and into an array by an index, and what is missing is a document.
abbrev pub placed : Making → List (List ℕ) → Making
placed make [] own = make own
placed make (s ∷ ss) None = with_inner (λ own. placed make ss own) s []
placed make (s ∷ ss) (Some (document_value kinds.Document b t)) =
    with_inner (λ own. placed make ss own) s (pairs_of t)
placed make (s ∷ ss) (Some (document_value kinds.Array b t)) =
    with_element (λ own. placed make ss own) s (values_in t)
placed make (s ∷ ss) (Some v) = Err errors.NotViable

-- the fields of a document with what is made of the value in which these steps end
abbrev pub placed_in : Making → List (List ℕ) → Pairs → Result Pairs CommandError
placed_in make [] ps = Ok ps
placed_in make (s ∷ ss) ps = with_field (λ own. placed make ss own) s ps

-- the document with the value of each of these paths edited by its operand, in order
abbrev pub edit_each : Edit → Pairs → Pairs → Result Pairs CommandError
edit_each e [] ps = Ok ps
edit_each e (f ∷ fs) ps =
    and_then (placed_in (edited e f.1) (steps f.0) ps) (λ qs. edit_each e fs qs)
