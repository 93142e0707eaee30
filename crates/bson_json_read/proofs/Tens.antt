-- Coefficients times powers of ten.
use Rattle.std.proofs.Common.{◌≡◌, ◌≢◌, ℕ, ◌+◌, ◌-◌, ◌*◌, ◌%◌, ◌^◌, ◌<◌, ◌≤◌, List, [], ◌∷◌, ◌++◌, Bool, true, false, cond, ◌&&◌, ◌==◌, Some, None, refl, ap, sym, ◌∙◌, arith}
use Rattle.std.specs.Prelude.{nat_lt, option_and_then}
use Rattle.std.proofs.lemmas.Nat.{pow-add}
use Rattle.std.proofs.Math.Nat.{mul-lt-mul_of_pos_right, one-le-pow, pow-le-pow_right, mul-le-mul_right}
use Rattle.std.proofs.lemmas.Bool.Decides.{nat_tests}
use Rattle.bson_json_read.specs.DecimalText.{coefficient_of, finite_bits, lowered, raised}

some_power : (k : ℕ) → 1 ≤ 10 ^ k
some_power k = one-le-pow k 10 (omega arith)

far_power : (k : ℕ) → 34 ≤ k → 10 ^ 34 ≤ 10 ^ k
far_power k h = pow-le-pow_right {n = 10} (omega arith) h

-- a coefficient above 0 has no zeros to spare for so low an exponent, nor room for so high a one
pub lowered_far : (negative : Bool) (c k : ℕ) → c < 10 ^ 34 → c ≢ 0 → 34 ≤ k → None ≡ lowered negative c k
lowered_far negative c k small some far =
    let big : c < 10 ^ k = omega (arith, far_power k far) in
    let same : c % 10 ^ k ≡ c = grind (arith, big) in
    let test : (c % 10 ^ k == 0) ≡ false = rw same (grind (arith, nat_tests, some)) in
    rw test refl

pub raised_far : (negative : Bool) (c k : ℕ) → c < 10 ^ 34 → c ≢ 0 → 34 ≤ k → None ≡ raised negative c k
raised_far negative c k small some far =
    let one : 1 ≤ c = omega (arith, some) in
    let more : 1 * 10 ^ k ≤ c * 10 ^ k = mul-le-mul_right (10 ^ k) one in
    let high : 10 ^ 34 ≤ c * 10 ^ k = omega (arith, more, far_power k far) in
    let test : nat_lt (c * 10 ^ k) (10 ^ 34) ≡ false = grind (arith, nat_tests, high) in
    rw test refl

-- digits behind others
pub coefficient_append : (c z : ℕ) (xs ys : List ℕ) → coefficient_of c z (xs ++ ys) ≡ option_and_then (λ p. coefficient_of p.0 p.1 ys) (coefficient_of c z xs)
coefficient_append c z [] ys = refl
coefficient_append c z (x ∷ xs) ys =
    let next = c * 10 + (x - 48) in
    elim (z == 0 && nat_lt next (10 ^ 34)) as (λ b. cond b (coefficient_of next 0 (xs ++ ys)) (cond (x == 48) (coefficient_of c (z + 1) (xs ++ ys)) None)
    ≡ option_and_then (λ p. coefficient_of p.0 p.1 ys) (cond b (coefficient_of next 0 xs) (cond (x == 48) (coefficient_of c (z + 1) xs) None))) [
      | true ↦ coefficient_append next 0 xs ys
      | false ↦ elim (x == 48) as (λ b. cond b (coefficient_of c (z + 1) (xs ++ ys)) None ≡ option_and_then (λ p. coefficient_of p.0 p.1 ys) (cond b (coefficient_of c (z + 1) xs) None)) [
        | true ↦ coefficient_append c (z + 1) xs ys
        | false ↦ refl
      ]
    ]

power_below : (i : ℕ) → i < 38 → 10 ^ i ≤ 10 ^ 37
power_below i h = pow-le-pow_right {n = 10} (omega arith) {i = i} {j = 37} (omega arith)

-- a power that a factor of ten leaves below 10 ^ 38
pub power_fits : (p i k : ℕ) → p ≡ 10 ^ i → i < k → k < 38 → p * 10 < 2 ^ 128
power_fits p i k e h s = omega (arith, e, power_below i (omega arith))

pub power_some : (p k : ℕ) → p ≡ 10 ^ k → 1 ≤ p
power_some p k e = rw e (some_power k)

together : (k : ℕ) → k ≤ 34 → 10 ^ (34 - k) * 10 ^ k ≡ 10 ^ 34
together k h = let sum : 34 - k + k ≡ 34 = omega arith in sym (pow-add 10 (34 - k) k) ∙ ap (λ n. 10 ^ n) sum

-- c has room for k zeros
pub room_for : (c k p q : ℕ) → k < 34 → p ≡ 10 ^ (34 - k) → q ≡ 10 ^ k → c < p → c * q < 10 ^ 34
room_for c k p q h e f lt =
    let less : c * 10 ^ k < 10 ^ (34 - k) * 10 ^ k = mul-lt-mul_of_pos_right (rw e at lt) (some_power k) in
    rw f (rw (together k (omega arith)) at less)

pub no_room_for : (negative : Bool) (c k p : ℕ) → k < 34 → p ≡ 10 ^ (34 - k) → p ≤ c → None ≡ raised negative c k
no_room_for negative c k p h e le =
    let more : 10 ^ (34 - k) * 10 ^ k ≤ c * 10 ^ k = mul-le-mul_right (10 ^ k) (rw e at le) in
    let high : 10 ^ 34 ≤ c * 10 ^ k = rw (together k (omega arith)) at more in
    let test : nat_lt (c * 10 ^ k) (10 ^ 34) ≡ false = grind (arith, nat_tests, high) in
    rw test refl

pub raised_near : (negative : Bool) (c k q : ℕ) → q ≡ 10 ^ k → c * q < 10 ^ 34 → Some (finite_bits negative (c * q) 12287) ≡ raised negative c k
raised_near negative c k q e lt =
    let low : c * 10 ^ k < 10 ^ 34 = rw e at lt in
    let test : nat_lt (c * 10 ^ k) (10 ^ 34) ≡ true = grind (arith, nat_tests, low) in
    rw (e, test) refl
