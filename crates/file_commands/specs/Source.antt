-- What a read gives.
use Rattle.std.specs.Prelude.{ℕ, Option, None, Some}

-- how many bytes a read gave; none at the end of the input
abbrev pub given : Option ℕ → ℕ
given None = 0
given (Some n) = n
