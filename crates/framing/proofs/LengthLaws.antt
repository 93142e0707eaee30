-- A length that has to be within bounds.
use Rattle.std.proofs.Common.{◌≡◌, ◌⊎◌, inl, inr, ℕ, ◌<◌, ◌≤◌, Ok, Err, arith}
use Rattle.std.proofs.lemmas.Bool.Decides.{nat_tests}
use Rattle.framing.specs.Lengths.{bounded}

-- the length of a result is one within the bounds
pub record Within (least most n m : ℕ) : Type 0 where
  pub same : m ≡ n
  pub low : least ≤ n
  pub high : n ≤ most

pub is_within : {E : Type 0} (least most : ℕ) (fault : E) (n m : ℕ) → bounded least most fault n ≡ Ok m → Within least most n m
is_within least most fault n m is = record { same = grind (arith, nat_tests, is); low = grind (arith, nat_tests, is); high = grind (arith, nat_tests, is) }

pub within_is : {E : Type 0} (least most : ℕ) (fault : E) (n : ℕ) → least ≤ n → n ≤ most → bounded least most fault n ≡ Ok n
within_is least most fault n low high = grind (arith, nat_tests, low, high)

-- a fault is that of a length outside of them
pub outside : {E : Type 0} (least most : ℕ) (fault other : E) (n : ℕ) → bounded least most fault n ≡ Err other → ((n < least) ⊎ (most < n)) × (other ≡ fault)
outside least most fault other n is = (grind (arith, nat_tests, is), grind (arith, nat_tests, is))

pub outside_is : {E : Type 0} (least most : ℕ) (fault : E) (n : ℕ) → (n < least) ⊎ (most < n) → bounded least most fault n ≡ Err fault
outside_is least most fault n (inl low) = grind (arith, nat_tests, low)
outside_is least most fault n (inr high) = grind (arith, nat_tests, high)
