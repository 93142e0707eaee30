-- The first 0 of some bytes, found by one look at 16 of them.
use Rattle.std.proofs.Common.{◌≡◌, ◌≢◌, ℕ, ◌%◌, ◌^◌, ◌<◌, ◌≤◌, Bool, true, false, not, ◌||◌, eqb, leb, List, map, length, get_or, Fits, w8, sym, ap, ◌∙◌, arith}
use Rattle.std.proofs.lemmas.Bool.{agree_below, agree_below_at}
use Rattle.std.proofs.lemmas.Bool.Decides.{nat_tests}
use Rattle.std.proofs.lemmas.List.{length-map}
use Rattle.std.proofs.lemmas.Simd.{map-map, mask_l-mod, length-chunk, trailing_mask_l, run_in_chunk_le, run_in_chunk_fails}
use Rattle.std.specs.List.{prefix_len}
use lib.Count.{count_trailing_zeros}
use lib.Lanes.{chunk, mask_l, top}
use Rattle.bson_elem.proofs.NameLaws.{IsNonzeroAsciiTo}

-- a 0, or a byte outside ASCII
abbrev pub is_stop : ℕ → Bool
is_stop b = eqb b 0 || leb 128 b

plain_byte : (b : ℕ) → is_stop b ≡ false → (b ≢ 0) × (b < 128)
plain_byte b e = (grind (arith, nat_tests), grind (arith, nat_tests))

-- If the lanes computed from 16 bytes have their top bits set exactly at the stops, the lowest bit of the mask is at the
-- first stop.
pub stop_offset : (d z : List ℕ) (f : ℕ → ℕ) → 16 ≤ length d → ((k : ℕ) → Fits w8 (get_or d k 0)) → z ≡ map f (chunk 0 16 d) → agree_below (λ x. top 7 (f x)) is_stop 256 ≡ true → mask_l (map (top 7) z) % 2 ^ 64 ≢ 0 → (count_trailing_zeros 64 (mask_l (map (top 7) z) % 2 ^ 64) ≤ 16) × IsNonzeroAsciiTo d (count_trailing_zeros 64 (mask_l (map (top 7) z) % 2 ^ 64))
stop_offset d z f room fits lanes all some =
    let v = chunk 0 16 d in
    let stops : ℕ → Bool = λ x. top 7 (f x) in
    let r : ℕ = count_trailing_zeros 64 (mask_l (map (top 7) z) % 2 ^ 64) in
    let long : length v ≡ 16 = length-chunk 0 16 d room in
    let mask : mask_l (map (top 7) z) % 2 ^ 64 ≡ mask_l (map stops v) = ap (λ (l : List Bool). mask_l l % 2 ^ 64) (ap (map (top 7)) lanes ∙ map-map (top 7) f v) ∙ mask_l-mod (map stops v) 64 (omega (arith, length-map v stops, long)) in
    let any : 0 < mask_l (map stops v) = omega (arith, mask, some) in
    let counted : r ≡ prefix_len (λ x. not (stops x)) v = ap (count_trailing_zeros 64) mask ∙ trailing_mask_l stops 64 v (omega (arith, long)) any in (
      run_in_chunk_le stops d 0 16 r 0 room counted,
      λ k lt. plain_byte (get_or d k 0) (sym (agree_below_at stops is_stop 256 (get_or d k 0) all (fits k).fits) ∙ run_in_chunk_fails stops d 0 16 r 0 room counted k (omega arith) (omega (arith, lt))),
    )
