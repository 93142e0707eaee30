-- The text that a command writes, and its last line.
use Rattle.std.specs.Prelude.{ℕ, Bool, true, false, List, [], Option, None, Some}
use Rattle.std.specs.Io.KnownBytes.{Appends}

-- a line, or nothing
abbrev pub or_nothing : Option (List ℕ) → List ℕ
or_nothing None = []
or_nothing (Some line) = line

-- whether there is a line
abbrev pub is_there : Option (List ℕ) → Bool
is_there None = false
is_there (Some line) = true

-- known bytes grow by a text, and fault says whether it is that of an input with a fault
abbrev pub AppendsText : (List ℕ → Bool → Type 0) → Bool → Option (List ℕ) → Option (List ℕ)
    → Type 0
AppendsText IsText fault old new = (text : List ℕ) × IsText text fault × Appends old new text
