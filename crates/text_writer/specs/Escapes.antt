-- The bytes that quoted text escapes.
use Rattle.std.specs.Prelude.{◌≡◌, ℕ, ◌<◌, ◌==◌, ◌||◌, nat_lt, Bool, false, List, get_or}

-- a quote, a backslash, 00 to 1F and 7F
abbrev pub needs_escape : ℕ → Bool
needs_escape b = b == 34 || (b == 92 || (nat_lt b 32 || b == 127))

-- no byte before offset n needs an escape
abbrev pub NeedsNoEscapeBefore : List ℕ → ℕ → Type 0
NeedsNoEscapeBefore bytes n = (k : ℕ) → k < n → needs_escape (get_or bytes k 0) ≡ false
