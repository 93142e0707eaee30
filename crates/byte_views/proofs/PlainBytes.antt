-- Bytes that are plain, seen by looks at several bytes at once.
use Rattle.std.proofs.Common.{◌≡◌, ◌≢◌, ℕ, suc, ◌+◌, ◌-◌, ◌%◌, ◌^◌, ◌<◌, ◌≤◌, Bool, false, ◌||◌, cond, eqb, leb, List, [], ◌∷◌, map, length, get_or, replicate, Fits, w8, refl, sym, ap, ◌∙◌, arith}
use Rattle.std.proofs.lemmas.Bool.{agree_below_at}
use Rattle.std.proofs.lemmas.Bool.Decides.{nat_tests}
use Rattle.std.proofs.lemmas.List.{length-map}
use Rattle.std.proofs.lemmas.Simd.{zip2_of_maps, zip2_splat, splat_is_map, map-map, mask_l-mod, length-chunk, none_from_empty_mask}
use Rattle.std.proofs.lemmas.Str.{IsUtf8-from_ascii}
use Rattle.std.proofs.lemmas.Str.Ascii.{IsAscii-from_reads}
use Rattle.std.specs.Prelude.{IsUtf8}
use lib.Lanes.{chunk, mask_l, top, zip2}
use Rattle.bson_elem.specs.Spelling.{HasNoZero, IsName}
use Rattle.byte_views.specs.Plain.{ArePlain}

-- a 00, or a byte outside ASCII
abbrev is_stop : ℕ → Bool
is_stop b = eqb b 0 || leb 128 b

plain_byte : (b : ℕ) → is_stop b ≡ false → (b ≢ 0) × (b < 128)
plain_byte b e = (grind (arith, nat_tests), grind (arith, nat_tests))

-- the lanes that are computed from n bytes
abbrev pub lanes_of : ℕ → List ℕ → List ℕ
lanes_of n v = zip2 (λ a b. cond (leb a b) 255 0) (replicate n 127) (zip2 (λ a b. (a + (256 - b)) % 256) v (replicate n 1))

-- one of these lanes
abbrev lane : ℕ → ℕ
lane x = cond (leb 127 ((x + (256 - 1)) % 256)) 255 0

-- where no lane's top bit is set, the bytes are plain
pub plain_lanes : (d : List ℕ) (i n : ℕ) → i + n ≤ length d → n ≤ 64 → ((k : ℕ) → Fits w8 (get_or d k 0)) → mask_l (map (top 7) (lanes_of n (chunk i n d))) % 2 ^ 64 ≡ 0 → ArePlain d i (i + n)
plain_lanes d i n room few fits none =
    let v = chunk i n d in
    let stops : ℕ → Bool = λ x. top 7 (lane x) in
    let long : length v ≡ n = length-chunk i n d room in
    let lanes : lanes_of n v ≡ map lane v = zip2_of_maps (λ a b. cond (leb a b) 255 0) _ _ v (splat_is_map v n 127 long) (zip2_splat (λ a b. (a + (256 - b)) % 256) v n 1 long) in
    let mask : mask_l (map (top 7) (lanes_of n v)) % 2 ^ 64 ≡ mask_l (map stops v) = ap (λ (l : List Bool). mask_l l % 2 ^ 64) (ap (map (top 7)) lanes ∙ map-map (top 7) lane v) ∙ mask_l-mod (map stops v) 64 (omega (arith, length-map v stops, long)) in
    λ k low high. plain_byte (get_or d k 0) (sym (agree_below_at stops is_stop 256 (get_or d k 0) refl (fits k).fits) ∙ none_from_empty_mask stops d i n 0 room (sym mask ∙ none) k low high)

no_zero_read : (d : List ℕ) → ((k : ℕ) → k < length d → get_or d k 0 ≢ 0) → HasNoZero d
no_zero_read [] h = tt
no_zero_read (b ∷ bs) h = (h 0 (omega arith), no_zero_read bs (λ k lt. h (suc k) (omega (arith, lt))))

pub plain_utf8 : (d : List ℕ) → ArePlain d 0 (length d) → IsUtf8 d
plain_utf8 d plain = IsUtf8-from_ascii d (IsAscii-from_reads d (length d) (omega arith) (λ k lt. (plain k (omega arith) lt).1))

pub plain_name : (d : List ℕ) → ArePlain d 0 (length d) → IsName d
plain_name d plain = record { is_text = plain_utf8 d plain; no_zero = no_zero_read d (λ k lt. (plain k (omega arith) lt).0) }
