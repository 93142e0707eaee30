-- What a mask of vector lanes tells of bytes, and how far a run of bytes goes.
use Rattle.std.proofs.Common.{◌≡◌, ◌∙◌, ℕ, zero, suc, ◌+◌, ◌*◌, ◌<◌, ◌≤◌, ◌^◌, ◌%◌, ◌⊎◌, inl, inr, Bool, true, false, not, ◌&&◌, cond, eqb, leb, ltb, List, [], ◌∷◌, map, length, drop, refl, sym, ap, ap₂, arith, subst, w8, Fits}
use Rattle.std.proofs.lemmas.Bool.{and_parts, cases_lt, eq-eqb, ne_eqb}
use Rattle.std.proofs.lemmas.List.{length-drop, length-map}
use Rattle.std.proofs.lemmas.List.Folds.{prefix_len-append}
use Rattle.std.proofs.lemmas.List.Sums.{prefix_len-le-length}
use Rattle.std.proofs.lemmas.Simd.{chunk-drop, leading_from_mask_l, length-chunk, mask_l-mod, trailing_mask_l}
use Rattle.std.specs.List.{prefix_len}
use lib.Bits.{bit_or}
use lib.Count.{count_trailing_zeros}
use lib.Lanes.{Each1, chunk, mask_l, top}
use Rattle.json.specs.Run.{is_plain, is_stop}
use Rattle.bson_json_read.specs.Places.{begins}

-- ---- a test of each byte, by all of them

abbrev same : Bool → Bool → Bool
same true b = b
same false b = not b

same_is : (a b : Bool) → same a b ≡ true → a ≡ b
same_is true true e = refl
same_is true false e = absurd cc
same_is false true e = absurd cc
same_is false false e = refl

abbrev all_below : (ℕ → Bool) → ℕ → Bool
all_below p zero = true
all_below p (suc n) = p n && all_below p n

below_holds : (p : ℕ → Bool) (n : ℕ) → all_below p n ≡ true → (x : ℕ) → x < n → p x ≡ true
below_holds p zero h x lt = absurd (omega arith)
below_holds p (suc n) h x lt = one (below_holds p n (and_parts _ _ h).1 x) (cases_lt x n)
  where
    one : (x < n → p x ≡ true) → (x < n) ⊎ (n ≤ x) → p x ≡ true
    one ih (inl low) = ih low
    one ih (inr high) = let e : n ≡ x = omega arith in subst (λ (y : ℕ). p y ≡ true) e (and_parts _ _ h).0

each_byte : (f : ℕ → ℕ) (p : ℕ → Bool) → all_below (λ x. same (top 7 (f x)) (p x)) 256 ≡ true → (v : List ℕ) → Each1 (Fits w8) v → map (top 7) (map f v) ≡ map p v
each_byte f p all [] fits = refl
each_byte f p all (x ∷ xs) fits = ap₂ (λ (a : Bool) (b : List Bool). a ∷ b) (same_is _ _ (below_holds (λ y. same (top 7 (f y)) (p y)) 256 all x fits.0.fits)) (each_byte f p all xs fits.1)

masked : (f : ℕ → ℕ) (p : ℕ → Bool) (v z : List ℕ) → length v ≤ 64 → Each1 (Fits w8) v → z ≡ map f v → all_below (λ x. same (top 7 (f x)) (p x)) 256 ≡ true
    → mask_l (map (top 7) z) % 2 ^ 64 ≡ mask_l (map p v)
masked f p v z short fits e all =
    ap (λ l. mask_l l % 2 ^ 64) (ap (map (top 7)) e ∙ each_byte f p all v fits) ∙ mask_l-mod (map p v) 64 (omega (arith, length-map v p))

abbrev pub hit : ℕ → ℕ → ℕ
hit a b = cond (eqb a b) 255 0

abbrev pub below : ℕ → ℕ → ℕ
below a b = cond (ltb a b) 255 0

abbrev pub up_to : ℕ → ℕ → ℕ
up_to a b = cond (leb a b) 255 0

-- the bytes of 16 at which a character begins
pub begin_mask : (v z : List ℕ) → length v ≡ 16 → Each1 (Fits w8) v → z ≡ map (λ x. bit_or (below x 128) (up_to 192 x)) v → mask_l (map (top 7) z) % 2 ^ 64 ≡ mask_l (map begins v)
begin_mask v z long fits e = masked (λ x. bit_or (below x 128) (up_to 192 x)) begins v z (omega arith) fits e refl

-- the bytes of 16 at which the plain part of a string stops
pub stop_mask : (v z : List ℕ) → length v ≡ 16 → Each1 (Fits w8) v
    → z ≡ map (λ x. bit_or (bit_or (hit x 34) (hit x 92)) (below x 32)) v → mask_l (map (top 7) z) % 2 ^ 64 ≡ mask_l (map is_stop v)
stop_mask v z long fits e = masked (λ x. bit_or (bit_or (hit x 34) (hit x 92)) (below x 32)) is_stop v z (omega arith) fits e refl

-- ---- runs

pub run_bound : (q : ℕ → Bool) (d : List ℕ) (i : ℕ) → i ≤ length d → i + prefix_len q (drop i d) ≤ length d
run_bound q d i h = omega (arith, prefix_len-le-length q (drop i d), length-drop i d)

none_fails : (b : Bool) (n l m : ℕ) → n ≤ l → cond (not b) (1 + n) 0 ≡ 1 + l → (n ≡ l → m ≡ 0) → cond b 1 0 + 2 * m ≡ 0
none_fails true n l m le e ih = let no : ⊥ = omega arith in absurd no
none_fails false n l m le e ih = let z = ih (omega arith) in omega arith

all_pass : (xs : List ℕ) → prefix_len is_plain xs ≡ length xs → mask_l (map is_stop xs) ≡ 0
all_pass [] e = refl
all_pass (x ∷ xs) e = none_fails (is_stop x) _ (length xs) _ (prefix_len-le-length is_plain xs) (omega arith) (all_pass xs)

split : (d : List ℕ) (i n : ℕ) → prefix_len is_plain (drop i d) ≡ cond (eqb (prefix_len is_plain (chunk i n d)) (length (chunk i n d))) (length (chunk i n d) + prefix_len is_plain (drop (i + n) d)) (prefix_len is_plain (chunk i n d))
split d i n = ap (prefix_len is_plain) (chunk-drop i n d) ∙ prefix_len-append is_plain (chunk i n d) (drop (i + n) d)

pub run_through : (d : List ℕ) (i n : ℕ) → i + n ≤ length d → mask_l (map is_stop (chunk i n d)) ≡ 0 → prefix_len is_plain (drop i d) ≡ n + prefix_len is_plain (drop (i + n) d)
run_through d i n room none =
    let c = chunk i n d in
    split d i n ∙ ap (λ b. cond b (length c + prefix_len is_plain (drop (i + n) d)) (prefix_len is_plain c)) (eq-eqb _ _ (leading_from_mask_l is_stop c none))
    ∙ ap (λ k. k + prefix_len is_plain (drop (i + n) d)) (length-chunk i n d room)

pub run_stops : (d : List ℕ) (i n : ℕ) → i + n ≤ length d → n ≤ 64 → 0 < mask_l (map is_stop (chunk i n d)) → prefix_len is_plain (drop i d) ≡ count_trailing_zeros 64 (mask_l (map is_stop (chunk i n d)))
run_stops d i n room short some =
    let c = chunk i n d in
    split d i n ∙ ap (λ b. cond b (length c + prefix_len is_plain (drop (i + n) d)) (prefix_len is_plain c)) (ne_eqb _ _ (λ (e : prefix_len is_plain c ≡ length c). omega (arith, all_pass c e)))
    ∙ sym (trailing_mask_l is_stop 64 c (omega (arith, length-chunk i n d room)) some)
