-- What the iterator over the pairs of a document gives.
use Rattle.std.specs.Prelude.{◌≡◌, ℕ, List, [], ◌∷◌, Option, Some, None}
use Rattle.std.specs.Borrow.{Bor}
use Rattle.bson_raw.specs.{TreeValue}
use Rattle.bson_doc.specs.declared.bson_values.Bson.{Bson}
use Rattle.bson_doc.specs.Bson.{value_of}

-- the first of the pairs left was given, or there is none
abbrev pub GivesFirst : List (List ℕ × TreeValue) → Option (Bor (List ℕ) × Bor Bson)
    → List (List ℕ × TreeValue) → Type 0
GivesFirst left None after = (left ≡ []) × (after ≡ [])
GivesFirst left (Some x) after = left ≡ (x.0.now, value_of x.1.now) ∷ after
