-- The paths of an update: which ones it may have, and which two of them conflict (MongoDB manual,
-- Update Operators: Names with Dot Notation). The steps of a path are those of filters.
use Rattle.std.specs.Prelude.{ℕ, List, [], ◌∷◌, Bool, true, false, ◌&&◌, Option, Some, None}
use Rattle.std.specs.Prelude.{codes, length, map, nat_lt, if◌then◌else◌}
use Rattle.std.specs.Option.{option_or}
use Rattle.std.specs.Str.{bytes_eq}
use Rattle.bson_doc.specs.{Pairs}
use Rattle.doc_query.specs.declared.failure.CommandError.{CommandError}
use Rattle.doc_query.specs.declared.failure.CommandError.TheVariants as errors
use Rattle.doc_query.specs.{is_operator, steps}

-- ---- which paths are carried out

-- why a step isn't carried out
abbrev pub step_fault : List ℕ → Option CommandError
step_fault s =
    if bytes_eq s (codes "") then Some errors.EmptyStep
    else if is_operator s then Some errors.Path else None

-- the same of the first of these steps that isn't
abbrev pub steps_fault : List (List ℕ) → Option CommandError
steps_fault [] = None
steps_fault (s ∷ ss) = option_or (step_fault s) (steps_fault ss)

-- why a path isn't carried out: it has too many steps, or one of them isn't
abbrev pub path_fault : List ℕ → Option CommandError
path_fault path =
    if nat_lt 200 (length (steps path)) then Some errors.Steps else steps_fault (steps path)

-- why a path of these isn't carried out: the first one that isn't
abbrev pub paths_fault : Pairs → Option CommandError
paths_fault [] = None
paths_fault (f ∷ fs) = option_or (path_fault f.0) (paths_fault fs)

-- ---- which paths conflict

-- the steps of two paths are the same, as far as both go: one path is the other, or its beginning
abbrev pub overlap : List (List ℕ) → List (List ℕ) → Bool
overlap [] rs = true
overlap (s ∷ ss) [] = true
overlap (s ∷ ss) (r ∷ rs) = bytes_eq s r && overlap ss rs

-- a path overlaps one of these
abbrev pub overlaps_one : List ℕ → List (List ℕ) → Bool
overlaps_one path [] = false
overlaps_one path (p ∷ ps) =
    if overlap (steps path) (steps p) then true else overlaps_one path ps

-- of two of these paths, one is the other, or its beginning
abbrev pub overlap_within : List (List ℕ) → Bool
overlap_within [] = false
overlap_within (p ∷ ps) = if overlaps_one p ps then true else overlap_within ps

-- the names of fields, which are paths
abbrev pub paths_of : Pairs → List (List ℕ)
paths_of fs = map (λ f. f.0) fs
