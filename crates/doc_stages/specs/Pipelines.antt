-- The pipelines of aggregate: each stage makes documents of those that the one before left
-- (MongoDB manual, Aggregation Stages).
use Rattle.std.specs.Prelude.{ℕ, pos, List, [], ◌∷◌, ◌==◌, ◌||◌, Bool, Option, Some, None, Result}
use Rattle.std.specs.Prelude.{Ok, Err, codes, drop, length, take, if◌then◌else◌}
use Rattle.bson_elem.specs.declared.kinds.Kind.TheVariants as kinds
use Rattle.bson_elem.specs.{Tree}
use Rattle.bson_raw.specs.{TreeValue, document_value, first_named, names_of}
use Rattle.bson_doc.specs.{coded_value, same}
use Rattle.doc_query.specs.declared.failure.CommandError.{CommandError}
use Rattle.doc_query.specs.declared.failure.CommandError.TheVariants as errors
use Rattle.doc_query.specs.{and_then, at_least, count_of, count_value, filter_value, found_in}
use Rattle.doc_query.specs.{inner, int32, or_error}

-- $match keeps the documents that match
abbrev pub matched : TreeValue → List TreeValue → Result (List TreeValue) CommandError
matched v vs = and_then (filter_value (Some v)) (λ f. found_in f vs)

-- $skip passes over the first ones
abbrev pub skipped : TreeValue → List TreeValue → Result (List TreeValue) CommandError
skipped v vs = and_then (or_error errors.Stage (count_of v)) (λ n. Ok (drop n vs))

-- $limit keeps the first ones, one at least
abbrev pub cut : TreeValue → List TreeValue → Result (List TreeValue) CommandError
cut v vs = and_then (at_least 1 errors.Stage (count_of v)) (λ n. Ok (take n vs))

-- the fields of the $group that counts
abbrev pub group_key : List ℕ × TreeValue
group_key = (codes "_id", int32 (pos 1))

abbrev pub group_count : List ℕ × TreeValue
group_count = (codes "n", inner ((codes "$sum", int32 (pos 1)) ∷ []))

-- the operand is {_id: 1, n: {$sum: 1}}, or has these fields the other way round
abbrev pub is_count_group : TreeValue → Bool
is_count_group v =
    same coded_value v (inner (group_key ∷ group_count ∷ []))
    || same coded_value v (inner (group_count ∷ group_key ∷ []))

abbrev pub total : ℕ → TreeValue
total n = inner ((codes "_id", int32 (pos 1)) ∷ (codes "n", count_value n) ∷ [])

-- the number of documents, or nothing if there are none
abbrev pub counted : List TreeValue → List TreeValue
counted [] = []
counted (v ∷ vs) = total (length (v ∷ vs)) ∷ []

-- $group counts them, or isn't carried out
abbrev pub grouped : TreeValue → List TreeValue → Result (List TreeValue) CommandError
grouped v vs = if is_count_group v then Ok (counted vs) else Err errors.Stage

-- a stage has one field, by which of these four it is
abbrev pub by_field : Option TreeValue → Option TreeValue → Option TreeValue → Option TreeValue
    → List TreeValue → Result (List TreeValue) CommandError
by_field (Some v) skip limit group vs = matched v vs
by_field None (Some v) limit group vs = skipped v vs
by_field None None (Some v) group vs = cut v vs
by_field None None None (Some v) vs = grouped v vs
by_field None None None None vs = Err errors.Stage

abbrev pub stage_in : Tree → List TreeValue → Result (List TreeValue) CommandError
stage_in t vs =
    if length (names_of t) == 1
    then by_field (first_named (codes "$match") t) (first_named (codes "$skip") t)
    (first_named (codes "$limit") t) (first_named (codes "$group") t) vs
    else Err errors.Stage

abbrev pub after_stage : TreeValue → List TreeValue → Result (List TreeValue) CommandError
after_stage (document_value kinds.Document b t) vs = stage_in t vs
after_stage _ vs = Err errors.Stage

-- what all stages make of documents, or the error of the first that isn't carried out
abbrev pub after_stages : List TreeValue → List TreeValue → Result (List TreeValue) CommandError
after_stages [] vs = Ok vs
after_stages (s ∷ ss) vs = and_then (after_stage s vs) (λ ws. after_stages ss ws)
