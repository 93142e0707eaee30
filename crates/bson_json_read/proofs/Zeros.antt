-- Bytes that are no 00, seen a vector at a time.
use Rattle.std.proofs.Common.{◌≡◌, ◌∙◌, ◌+◌, ◌-◌, ◌/◌, ◌%◌, ◌^◌, ◌<◌, ◌≤◌, ◌⊎◌, inl, inr, ℕ, Bool, true, false, cond, List, get_or, length, map, refl, sym, ap, arith, ltb, ltb-true, ltb-false}
use Rattle.std.specs.List.{list_any}
use Rattle.std.specs.Simd.Lanes.{mask_l}
use Rattle.std.proofs.Math.Nat.{zero-div}
use Rattle.std.proofs.lemmas.Grind.{get_or_default_zero}
use Rattle.std.proofs.lemmas.List.{get_or-map}
use Rattle.std.proofs.lemmas.List.Folds.{list_any_none}
use Rattle.std.proofs.lemmas.Simd.{bit_mask_l, get_or-chunk, length-chunk}
use lib.Lanes.{chunk}
use Rattle.bson_json_read.specs.Zeros.{is_zero}

no_bit : (b : Bool) → ◌≡◌ {A = ℕ} (cond b 1 0) 0 → b ≡ false
no_bit true e = absurd (omega (arith, e))
no_bit false e = refl

lane : (bytes : List ℕ) (at n i : ℕ) → at + n ≤ length bytes → i < n → mask_l (map is_zero (chunk at n bytes)) ≡ 0 → is_zero (get_or bytes (at + i) 0) ≡ false
lane bytes at n i room lt none =
    let c = chunk at n bytes in
    let bit : ◌≡◌ {A = ℕ} (cond (get_or (map is_zero c) i false) 1 0) 0 = sym (bit_mask_l (map is_zero c) i) ∙ ap (λ (m : ℕ). m / 2 ^ i % 2) none ∙ zero_bit i in
    let long : length c ≡ n = length-chunk at n bytes room in
    ap is_zero (sym (get_or-chunk at n bytes i 0 lt)) ∙ sym (get_or-map is_zero c i 0 false (omega (arith, long))) ∙ no_bit (get_or (map is_zero c) i false) bit
  where
    zero_bit : (i : ℕ) → 0 / 2 ^ i % 2 ≡ 0
    zero_bit i = ap (λ (m : ℕ). m % 2) (zero-div (2 ^ i))

below_or : (k n : ℕ) → (k < n) ⊎ (n ≤ k)
below_or k n = decided (ltb k n) refl
  where
    decided : (b : Bool) → ltb k n ≡ b → (k < n) ⊎ (n ≤ k)
    decided true e = inl (ltb-true k n e)
    decided false e = inr (ltb-false k n e)

pub none_free : (bytes : List ℕ) (n : ℕ) → n ≤ length bytes → length bytes ≤ n + n → mask_l (map is_zero (chunk 0 n bytes)) ≡ 0 → mask_l (map is_zero (chunk (length bytes - n) n bytes)) ≡ 0
    → list_any is_zero bytes ≡ false
none_free bytes n least most first last = list_any_none is_zero bytes each
  where
    placed : (k : ℕ) → k < length bytes → (k < n) ⊎ (n ≤ k) → is_zero (get_or bytes k 0) ≡ false
    placed k lt (inl low) =
        let here : 0 + k ≡ k = omega arith in
        ap (λ (i : ℕ). is_zero (get_or bytes i 0)) (sym here) ∙ lane bytes 0 n k (omega arith) low first
    placed k lt (inr high) =
        let at = length bytes - n in
        let behind : at + (k - at) ≡ k = omega arith in
        ap (λ (i : ℕ). is_zero (get_or bytes i 0)) (sym behind) ∙ lane bytes at n (k - at) (omega arith) (omega arith) last

    each : (k d : ℕ) → k < length bytes → is_zero (get_or bytes k d) ≡ false
    each k d lt = ap is_zero (get_or_default_zero bytes k d lt) ∙ placed k lt (below_or k n)
