-- What $unset makes of a document: the value in which the steps of a path end is removed, if it is
-- there. In an array it becomes null (MongoDB manual, Update Operators: $unset).
use Rattle.std.specs.Prelude.{ℕ, zero, suc, List, [], ◌∷◌, Option, Some, None, unwrap_or}
use Rattle.bson_elem.specs.declared.kinds.Kind.TheVariants as kinds
use Rattle.bson_raw.specs.{TreeValue, document_value}
use Rattle.bson_doc.specs.{Pairs, pairs_of}
use Rattle.bson_doc.specs.Document.{put, value_named, without}
use Rattle.doc_query.specs.{array, inner, null, steps, values_in}
use Rattle.doc_update.specs.Elements.{index_of}

-- what is left of a value that may be missing
abbrev pub Leaving : Type 0
Leaving = Option TreeValue → Option TreeValue

abbrev pub put_or_without : List ℕ → Option TreeValue → Pairs → Pairs
put_or_without s None ps = without s ps
put_or_without s (Some v) ps = put s v ps

-- the document with what is left of its field of this name
abbrev pub left_field : Leaving → List ℕ → Pairs → Pairs
left_field leave s ps = put_or_without s (leave (value_named s ps)) ps

-- the values with what is left of that at an index, if there is one
abbrev pub left_at : Leaving → ℕ → List TreeValue → List TreeValue
left_at leave i [] = []
left_at leave zero (v ∷ vs) = unwrap_or (leave (Some v)) null ∷ vs
left_at leave (suc i) (v ∷ vs) = v ∷ left_at leave i vs

-- the same by a step, which may be no index
abbrev pub left_by : Leaving → Option ℕ → List TreeValue → List TreeValue
left_by leave None vs = vs
left_by leave (Some i) vs = left_at leave i vs

-- what is left of a value, of which that is removed in which these steps end
abbrev pub left_of : List (List ℕ) → Leaving
left_of [] own = None
left_of (s ∷ ss) (Some (document_value kinds.Document b t)) =
    Some (inner (left_field (λ own. left_of ss own) s (pairs_of t)))
left_of (s ∷ ss) (Some (document_value kinds.Array b t)) =
    Some (array (left_by (λ own. left_of ss own) (index_of s) (values_in t)))
left_of (s ∷ ss) own = own

-- the fields that are left of a document
abbrev pub left_in : List (List ℕ) → Pairs → Pairs
left_in [] ps = ps
left_in (s ∷ ss) ps = left_field (λ own. left_of ss own) s ps

-- the document without the value of each of these paths
abbrev pub without_each : Pairs → Pairs → Pairs
without_each [] ps = ps
without_each (f ∷ fs) ps = without_each fs (left_in (steps f.0) ps)
