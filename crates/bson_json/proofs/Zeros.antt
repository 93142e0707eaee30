-- Zeros, one after another.
use Rattle.std.proofs.Common.{◌≡◌, ◌+◌, ◌++◌, ◌∷◌, [], ℕ, List, Option, zero, suc, ap, refl, replicate, arith}
use Rattle.std.specs.Io.KnownBytes.{Appends}
use Rattle.std.proofs.KnownBytes.{Appends-trans}

one_more : (n : ℕ) → replicate {A = ℕ} (suc n) 48 ≡ replicate {A = ℕ} n 48 ++ 48 ∷ []
one_more zero = refl
one_more (suc n) = ap (λ (t : List ℕ). 48 ∷ t) (one_more n)

-- a zero after n of them
pub zero_written : (a b c : Option (List ℕ)) (n : ℕ) → Appends a b (replicate {A = ℕ} n 48) → Appends b c (48 ∷ []) → Appends a c (replicate {A = ℕ} (n + 1) 48)
zero_written a b c n p q =
    let next : n + 1 ≡ suc n = omega arith in
    rw (next, one_more n) (Appends-trans a b c _ _ p q)
