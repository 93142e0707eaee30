-- The bytes that quoted text escapes, found by looks at several bytes at once.
use Rattle.std.proofs.Common.{◌≡◌, ◌≢◌, ℕ, ◌+◌, ◌*◌, ◌%◌, ◌^◌, ◌<◌, ◌≤◌, Bool, true, false, not, cond, eqb, ltb, List, [], ◌∷◌, map, length, get_or, replicate, Option, Some, None, Fits, w8, refl, sym, ap, subst, ◌∙◌, arith, inl, inr}
use Rattle.std.specs.Prelude.{MatchOption, position}
use Rattle.std.specs.List.{position_or_len, prefix_len}
use Rattle.std.proofs.lemmas.Bool.{agree_below_at, cases_lt, le-ltb, lt-ltb}
use Rattle.std.proofs.lemmas.List.{length-map}
use Rattle.std.proofs.lemmas.List.Sums.{position_or_len_is, prefix_len-le-length}
use Rattle.std.proofs.lemmas.Simd.{zip2_of_maps, zip2_splat, map-map, mask_l-mod, length-chunk, trailing_mask_l, none_from_empty_mask, run_in_chunk_le, run_in_chunk_fails, run_in_chunk_stops}
use lib.Bits.{bit_or}
use lib.Count.{count_trailing_zeros}
use lib.Lanes.{chunk, mask_l, top, zip2}
use Rattle.text_writer.specs.Escapes.{NeedsNoEscapeBefore, needs_escape}

-- a byte to escape after plain bytes is the first one
pub first_at : (d : List ℕ) (m : ℕ) → m < length d → NeedsNoEscapeBefore d m → needs_escape (get_or d m 0) ≡ true
    → position needs_escape d ≡ Some m
first_at d m lt plain stop =
    let here : position_or_len needs_escape d ≡ m = position_or_len_is needs_escape d m 0 (omega arith) plain (λ _. stop) in
    let below : ltb m (length d) ≡ true = lt-ltb _ _ lt in
    rw (here, below) refl

-- in bytes that are all plain there is none
pub none_at : (d : List ℕ) → NeedsNoEscapeBefore d (length d) → position needs_escape d ≡ None
none_at d plain =
    let past : position_or_len needs_escape d ≡ length d = position_or_len_is needs_escape d (length d) 0 (omega arith) plain (λ lt. absurd (omega (arith, lt))) in
    let over : ltb (length d) (length d) ≡ false = le-ltb _ _ (omega arith) in
    rw (past, over) refl

-- a look at the last bytes gives the offset, or there is none
pub last_look : (r : Option ℕ) (d : List ℕ) (n : ℕ) → n ≡ length d
    → MatchOption r (NeedsNoEscapeBefore d n) (λ m. position needs_escape d ≡ Some m) → r ≡ position needs_escape d
last_look None d n end h = sym (none_at d (subst (NeedsNoEscapeBefore d) end h))
last_look (Some m) d n end h = sym h

abbrev hit : ℕ → ℕ → ℕ
hit a b = cond (eqb a b) 255 0

abbrev below : ℕ → ℕ → ℕ
below a b = cond (ltb a b) 255 0

-- the lanes that are computed from n bytes
abbrev pub lanes_of : ℕ → List ℕ → List ℕ
lanes_of n v =
    zip2 bit_or (zip2 bit_or (zip2 bit_or (zip2 below v (replicate n 32)) (zip2 hit v (replicate n 127))) (zip2 hit v (replicate n 34))) (zip2 hit v (replicate n 92))

-- one of these lanes
abbrev lane : ℕ → ℕ
lane x = bit_or (bit_or (bit_or (below x 32) (hit x 127)) (hit x 34)) (hit x 92)

abbrev is_set : ℕ → Bool
is_set x = top 7 (lane x)

tells : (b : ℕ) → Fits w8 b → is_set b ≡ needs_escape b
tells b fits = agree_below_at is_set needs_escape 256 b refl fits.fits

mask_is : (n : ℕ) (v : List ℕ) → length v ≡ n → n ≤ 64 → mask_l (map (top 7) (lanes_of n v)) % 2 ^ 64 ≡ mask_l (map is_set v)
mask_is n v long few =
    let low = zip2_of_maps bit_or _ _ v (zip2_splat below v n 32 long) (zip2_splat hit v n 127 long) in
    let both = zip2_of_maps bit_or _ _ v low (zip2_splat hit v n 34 long) in
    let lanes : lanes_of n v ≡ map lane v = zip2_of_maps bit_or _ _ v both (zip2_splat hit v n 92 long) in
    ap (λ (l : List Bool). mask_l l % 2 ^ 64) (ap (map (top 7)) lanes ∙ map-map (top 7) lane v) ∙ mask_l-mod (map is_set v) 64 (omega (arith, length-map v is_set))

unset : (b : Bool) (n l m : ℕ) → n ≤ l → cond (not b) (1 + n) 0 ≡ 1 + l → (n ≡ l → m ≡ 0) → cond b 1 0 + 2 * m ≡ 0
unset true n l m le e rest = absurd (omega arith)
unset false n l m le e rest = omega (arith, rest (omega arith))

-- if p holds of no byte, no bit is set
empty_mask : (p : ℕ → Bool) (xs : List ℕ) → prefix_len (λ x. not (p x)) xs ≡ length xs → mask_l (map p xs) ≡ 0
empty_mask p [] e = refl
empty_mask p (x ∷ xs) e = unset (p x) _ (length xs) _ (prefix_len-le-length (λ y. not (p y)) xs) (omega arith) (empty_mask p xs)

-- if the mask of n bytes is empty, they are plain
pub none_in_lanes : (d : List ℕ) (i n : ℕ) → i + n ≤ length d → n ≤ 64 → ((k : ℕ) → Fits w8 (get_or d k 0)) → NeedsNoEscapeBefore d i
    → mask_l (map (top 7) (lanes_of n (chunk i n d))) % 2 ^ 64 ≡ 0 → NeedsNoEscapeBefore d (i + n)
none_in_lanes d i n room few fits plain none k lt =
    let mask = mask_is n (chunk i n d) (length-chunk i n d room) few in
    elim (cases_lt k i) [
      | inl early ↦ plain k early
      | inr late ↦ sym (tells (get_or d k 0) (fits k)) ∙ none_from_empty_mask is_set d i n 0 room (sym mask ∙ none) k late lt
    ]

-- if it isn't, its lowest bit is at the first byte to escape
pub first_in_lanes : (d : List ℕ) (i n : ℕ) → i + n ≤ length d → n ≤ 64 → ((k : ℕ) → Fits w8 (get_or d k 0)) → NeedsNoEscapeBefore d i
    → mask_l (map (top 7) (lanes_of n (chunk i n d))) % 2 ^ 64 ≢ 0
    → (count_trailing_zeros 64 (mask_l (map (top 7) (lanes_of n (chunk i n d))) % 2 ^ 64) < n)
    × (position needs_escape d ≡ Some (i + count_trailing_zeros 64 (mask_l (map (top 7) (lanes_of n (chunk i n d))) % 2 ^ 64)))
first_in_lanes d i n room few fits plain some =
    let v = chunk i n d in
    let r : ℕ = count_trailing_zeros 64 (mask_l (map (top 7) (lanes_of n v)) % 2 ^ 64) in
    let long : length v ≡ n = length-chunk i n d room in
    let mask = mask_is n v long few in
    let any : 0 < mask_l (map is_set v) = omega (arith, mask, some) in
    let counted : r ≡ prefix_len (λ x. not (is_set x)) v = ap (count_trailing_zeros 64) mask ∙ trailing_mask_l is_set 64 v (omega (arith, long)) any in
    let short : r ≢ n = λ e. omega (arith, any, empty_mask is_set v (sym counted ∙ e ∙ sym long)) in
    let within : r < n = omega (arith, short, run_in_chunk_le is_set d i n r 0 room counted) in
    let before : NeedsNoEscapeBefore d (i + r) = λ k lt.
    elim (cases_lt k i) [
      | inl early ↦ plain k early
      | inr late ↦ sym (tells (get_or d k 0) (fits k)) ∙ run_in_chunk_fails is_set d i n r 0 room counted k late lt
    ] in
    let stop = sym (tells (get_or d (i + r) 0) (fits (i + r))) ∙ run_in_chunk_stops is_set d i n r 0 room counted within in
    (within, first_at d (i + r) (omega (arith, within)) before stop)
