-- The names of the fields that aren't compared.
use Rattle.std.specs.Prelude.{◌==◌, ℕ, List, [], Option, None, Some}
use Rattle.std.specs.List.{slice_split}

-- the names in a text that has commas between them, or none without a text
abbrev pub names_in : Option (List ℕ) → List (List ℕ)
names_in None = []
names_in (Some text) = slice_split (λ b. b == 44) text
