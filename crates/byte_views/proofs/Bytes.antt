-- Bytes with no 00 among them.
use Rattle.std.proofs.Common.{◌≡◌, ℕ, Bool, true, false, ◌||◌, List, [], ◌∷◌, refl, ap, arith}
use Rattle.std.specs.Prelude.{nat_eq, not}
use Rattle.std.specs.List.{list_any}
use Rattle.std.proofs.lemmas.Bool.{or_from}
use Rattle.std.proofs.lemmas.Bool.Decides.{nat_tests}
use Rattle.bson_elem.specs.Spelling.{HasNoZero}

-- where none is found, there is none
pub none_found : (bytes : List ℕ) → list_any (λ b. nat_eq b 0) bytes ≡ false → HasNoZero bytes
none_found [] e = tt
none_found (b ∷ bs) e = let s = neither (nat_eq b 0) (list_any (λ b. nat_eq b 0) bs) e in (λ is. zero_is b is s.0, none_found bs s.1)
  where
    neither : (p q : Bool) → (p || q) ≡ false → (p ≡ false) × (q ≡ false)
    neither true q e = absurd cc
    neither false q e = (refl, e)

    zero_is : (b : ℕ) → b ≡ 0 → nat_eq b 0 ≡ false → ⊥
    zero_is b is e = let t : nat_eq b 0 ≡ true = ap (λ (n : ℕ). nat_eq n 0) is in cc

-- where there is none, none is found
pub finds_none : (bytes : List ℕ) → HasNoZero bytes → list_any (λ b. nat_eq b 0) bytes ≡ false
finds_none [] h = refl
finds_none (b ∷ bs) h = or_from (nat_eq b 0) (list_any (λ b. nat_eq b 0) bs) (apart b h.0) (finds_none bs h.1)
  where
    apart : (b : ℕ) → (b ≡ 0 → ⊥) → nat_eq b 0 ≡ false
    apart b h = grind (arith, nat_tests)

pub found_one : (found : Bool) (bytes : List ℕ) → found ≡ list_any (λ b. nat_eq b 0) bytes → found ≡ true → HasNoZero bytes → ⊥
found_one found bytes is found-one none = let no = finds_none bytes none in cc

pub not_true : (b : Bool) → not b ≡ true → b ≡ false
not_true true e = absurd cc
not_true false e = refl

pub not_false : (b : Bool) → not b ≡ false → b ≡ true
not_false true e = refl
not_false false e = absurd cc
