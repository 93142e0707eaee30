-- Bytes that are 00.
use Rattle.std.specs.Prelude.{◌==◌, ℕ, Bool}

abbrev pub is_zero : ℕ → Bool
is_zero b = b == 0
