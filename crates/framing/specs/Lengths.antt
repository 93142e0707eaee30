-- A length that has to be within bounds.
use Rattle.std.specs.Prelude.{◌≡◌, ◌≤◌, ℕ, Result, Ok, Err, nat_lt, ◌||◌, if◌then◌else◌}
use Rattle.std.proofs.Common.{arith}
use Rattle.std.proofs.lemmas.Bool.Decides.{nat_tests}

-- the length, if it is at least the least and at most the most, and otherwise this fault
abbrev pub bounded : {E : Type 0} → ℕ → ℕ → E → ℕ → Result ℕ E
bounded least most fault length =
    if nat_lt length least || nat_lt most length then Err fault else Ok length

-- which so isn't less than the least
pub bounded_least : {E : Type 0} (least most : ℕ) (fault : E) (n m : ℕ)
    → bounded least most fault n ≡ Ok m → least ≤ m
bounded_least least most fault n m is = grind (arith, nat_tests, is)
