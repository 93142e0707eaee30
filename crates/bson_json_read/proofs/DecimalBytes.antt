-- The bits of a decimal128, and its bytes.
use Rattle.std.proofs.Common.{◌≡◌, ℕ, zero, suc, ◌+◌, ◌*◌, ◌/◌, ◌%◌, ◌^◌, ◌<◌, ◌≤◌, true, false, cond, List, [], ◌∷◌, length, get_or, refl, sym, ap, ◌∙◌, subst, arith}
use Rattle.std.specs.Prelude.{nat_le, nat_lt}
use Rattle.std.specs.Int.{w128, bytes_low_first, byte_worth, sum_through, from_le_bytes, to_le_bytes}
use Rattle.std.proofs.Math.Nat.{div-div-eq-div-mul}
use Rattle.std.proofs.lemmas.Bool.Decides.{nat_tests}
use Rattle.bson_json.specs.Decimals.{biased_exponent, combination, coefficient, is_negative}
use Rattle.bson_json_read.specs.DecimalText.{finite_bits}

-- ---- bytes

-- the number that bytes write, the lowest first, and the lowest bytes of a number
abbrev worth : List ℕ → ℕ
worth [] = 0
worth (b ∷ bs) = b + worth bs * 256

abbrev lowest : ℕ → ℕ → List ℕ
lowest zero n = []
lowest (suc k) n = n % 256 ∷ lowest k (n / 256)

lowest_of_worth : (bs : List ℕ) → ((i : ℕ) → get_or bs i 0 < 256) → lowest (length bs) (worth bs) ≡ bs
lowest_of_worth [] h = refl
lowest_of_worth (b ∷ bs) h =
    let small : b < 256 = h 0 in
    let low : (b + worth bs * 256) % 256 ≡ b = omega arith in
    let high : (b + worth bs * 256) / 256 ≡ worth bs = omega arith in
    let rest = ap (lowest (length bs)) high ∙ lowest_of_worth bs (λ i. h (suc i)) in λ i. low i ∷ rest i

power_next : (i : ℕ) → 256 ^ i * 256 ≡ 256 ^ suc i
power_next i = omega arith

low_first : (i k n : ℕ) → bytes_low_first i k n ≡ lowest k (n / 256 ^ i)
low_first i zero n = refl
low_first zero (suc k) n =
    let all : n % 256 ≡ n / 256 ^ 0 % 256 = omega arith in
    let next : n / 256 ^ 1 ≡ n / 256 ^ 0 / 256 = omega arith in
    let rest = low_first 1 k n ∙ ap (lowest k) next in λ i. all i ∷ rest i
low_first (suc i) (suc k) n =
    let next : n / 256 ^ suc (suc i) ≡ n / 256 ^ suc i / 256 = ap (λ p. n / p) (sym (power_next (suc i))) ∙ sym (div-div-eq-div-mul n (256 ^ suc i) 256) in
    ap (λ l. n / 256 ^ suc i % 256 ∷ l) (low_first (suc (suc i)) k n ∙ ap (lowest k) next)

first_apart : (f : ℕ → ℕ) (k : ℕ) → sum_through f (suc k) ≡ f 0 + sum_through (λ i. f (suc i)) k
first_apart f zero = refl
first_apart f (suc k) = omega (arith, first_apart f k)

times_256 : (f g : ℕ → ℕ) (k : ℕ) → ((i : ℕ) → f i ≡ g i * 256) → sum_through f k ≡ sum_through g k * 256
times_256 f g zero h = h 0
times_256 f g (suc k) h = omega (arith, times_256 f g k h, h (suc k))

regrouped : (b p : ℕ) → b * (p * 256) ≡ b * p * 256
regrouped b p = omega arith

worth_next : (b i : ℕ) → byte_worth (suc i) b ≡ byte_worth i b * 256
worth_next b zero = omega arith
worth_next b (suc i) = ap (λ p. b * p) (sym (power_next (suc i))) ∙ regrouped b (256 ^ suc i)

summed : (b : ℕ) (bs : List ℕ) → sum_through (λ i. byte_worth i (get_or (b ∷ bs) i 0)) (length bs) ≡ worth (b ∷ bs)
summed b [] = omega arith
summed b (c ∷ cs) =
    first_apart (λ i. byte_worth i (get_or (b ∷ c ∷ cs) i 0)) (length cs)
    ∙ ap (λ n. b + n) (times_256 (λ i. byte_worth (suc i) (get_or (c ∷ cs) i 0)) (λ i. byte_worth i (get_or (c ∷ cs) i 0)) (length cs) (λ i. worth_next (get_or (c ∷ cs) i 0) i)
    ∙ ap (λ n. n * 256) (summed c cs))

number_is : (bs : List ℕ) → length bs ≡ 16 → from_le_bytes w128 bs ≡ worth bs
number_is [] e = absurd (omega arith)
number_is (b ∷ bs) e =
    let rest : length bs ≡ 15 = omega arith in
    subst (λ n. sum_through (λ i. byte_worth i (get_or (b ∷ bs) i 0)) n ≡ worth (b ∷ bs)) rest (summed b bs)

one_is_all : (n : ℕ) → n / 256 ^ 0 ≡ n
one_is_all n = omega arith

pub bytes_back : (bs : List ℕ) → length bs ≡ 16 → ((i : ℕ) → get_or bs i 0 < 256) → to_le_bytes w128 (from_le_bytes w128 bs) ≡ bs
bytes_back bs e h =
    low_first 0 16 (from_le_bytes w128 bs) ∙ ap (lowest 16) (one_is_all (from_le_bytes w128 bs) ∙ number_is bs e)
    ∙ subst (λ n. lowest n (worth bs) ≡ bs) e (lowest_of_worth bs h)

worth_small : (bs : List ℕ) → ((i : ℕ) → get_or bs i 0 < 256) → worth bs < 256 ^ length bs
worth_small [] h = omega arith
worth_small (b ∷ bs) h = let small : b < 256 = h 0 in omega (arith, worth_small bs (λ i. h (suc i)), power_next (length bs))

pub number_small : (bs : List ℕ) → length bs ≡ 16 → ((i : ℕ) → get_or bs i 0 < 256) → from_le_bytes w128 bs < 2 ^ 128
number_small bs e h = rw (number_is bs e) (subst (λ n. worth bs < 256 ^ n) e (worth_small bs h))

-- ---- bits

-- the sign, the exponent and the coefficient are the bits
parts_are : (bits q r : ℕ) → bits ≡ q * 2 ^ 113 + r → r < 2 ^ 113 → q < 2 ^ 15
    → (cond (nat_le (2 ^ 127) bits) (2 ^ 127) 0) + (q % 2 ^ 14) * 2 ^ 113 + r ≡ bits
parts_are bits q r is small low =
    elim (nat_le (2 ^ 127) bits) as (λ b. nat_le (2 ^ 127) bits ≡ b → (cond b (2 ^ 127) 0) + (q % 2 ^ 14) * 2 ^ 113 + r ≡ bits) [
      | true ↦ λ t. let high : 2 ^ 127 ≤ bits = grind (arith, nat_tests) in omega arith
      | false ↦ λ t. let less : bits < 2 ^ 127 = grind (arith, nat_tests) in omega arith
    ] refl

pub finite_is : (bits : ℕ) → bits < 2 ^ 128 → combination bits < 24 → bits % 2 ^ 113 < 10 ^ 34 → finite_bits (is_negative bits) (coefficient bits) (biased_exponent bits) ≡ bits
finite_is bits fits few small =
    let a : nat_le 24 (combination bits) ≡ false = grind (arith, nat_tests) in
    let b : nat_lt (bits % 2 ^ 113) (10 ^ 34) ≡ true = grind (arith, nat_tests) in
    rw (a, b) (parts_are bits (bits / 2 ^ 113) (bits % 2 ^ 113) (omega arith) (omega arith) (omega arith))

pub coefficient_small : (bits : ℕ) → coefficient bits < 10 ^ 34
coefficient_small bits =
    elim (nat_le 24 (combination bits)) as (λ b. (cond b 0 (cond (nat_lt (bits % 2 ^ 113) (10 ^ 34)) (bits % 2 ^ 113) 0)) < 10 ^ 34) [
      | true ↦ omega arith
      | false ↦ elim (nat_lt (bits % 2 ^ 113) (10 ^ 34)) as (λ b. nat_lt (bits % 2 ^ 113) (10 ^ 34) ≡ b → (cond b (bits % 2 ^ 113) 0) < 10 ^ 34) [
        | true ↦ λ t. grind (arith, nat_tests)
        | false ↦ λ t. omega arith
      ] refl
    ]

pub exponent_small : (bits : ℕ) → bits < 2 ^ 128 → combination bits < 24 → biased_exponent bits ≤ 12287
exponent_small bits fits few =
    let a : nat_le 24 (combination bits) ≡ false = grind (arith, nat_tests) in
    let q = bits / 2 ^ 113 in
    let high : bits / 2 ^ 122 ≡ bits / 2 ^ 113 / 512 = sym (div-div-eq-div-mul bits (2 ^ 113) 512) in
    rw a (omega (arith, high))
