-- The decimal128 that a text writes (BSON Decimal128 specification: "From String
-- Representation"). A number that would have to be rounded has none.
use Rattle.std.specs.Prelude.{ℕ, ◌+◌, ◌-◌, ◌*◌, ◌/◌, ◌%◌, ◌^◌, Bool, List, [], ◌∷◌, ◌++◌, length}
use Rattle.std.specs.Prelude.{nat_le, nat_lt, ◌==◌, ◌&&◌, if◌then◌else◌, Option, Some, None}
use Rattle.std.specs.Prelude.{◌||◌, codes, map, option_and_then, option_map, slice_index}
use Rattle.std.specs.Int.{w128, to_le_bytes}
use Rattle.std.specs.Float.Numeral.{Parts, has_digits, minus, scan_numeral, tens_down, tens_up}
use Rattle.std.specs.Float.Parse.{without_sign}
use Rattle.std.specs.Char.{to_ascii_lowercase}
use Rattle.std.specs.Str.{bytes_eq}

abbrev pub sign_bit : Bool → ℕ
sign_bit negative = if negative then 2 ^ 127 else 0

-- the bits of a coefficient and an exponent, which is given plus 6176
abbrev pub finite_bits : Bool → ℕ → ℕ → ℕ
finite_bits negative c exponent = sign_bit negative + exponent * 2 ^ 113 + c

-- The coefficient that digits write behind those of c, and how many zeros behind it are left out:
-- a coefficient has at most 34 digits.
abbrev pub coefficient_of : ℕ → ℕ → List ℕ → Option (ℕ × ℕ)
coefficient_of c left_out [] = Some (c, left_out)
coefficient_of c left_out (d ∷ ds) =
    if left_out == 0 && nat_lt (c * 10 + (d - 48)) (10 ^ 34)
    then coefficient_of (c * 10 + (d - 48)) 0 ds
    else if d == 48 then coefficient_of c (left_out + 1) ds
    else None

-- c times ten to an exponent that is this much below the least: c has to end in as many zeros
abbrev pub lowered : Bool → ℕ → ℕ → Option ℕ
lowered negative c k =
    if c % 10 ^ k == 0 then Some (finite_bits negative (c / 10 ^ k) 0) else None

-- c times ten to an exponent that is this much above the greatest: c has to have room for zeros
abbrev pub raised : Bool → ℕ → ℕ → Option ℕ
raised negative c k =
    if nat_lt (c * 10 ^ k) (10 ^ 34) then Some (finite_bits negative (c * 10 ^ k) 12287) else None

-- c times ten to up - down; exponents are given plus 6176
abbrev pub placed : Bool → ℕ → ℕ → ℕ → Option ℕ
placed negative c up down =
    if nat_lt up down then lowered negative c (down - up)
    else if nat_le (up - down) 12287 then Some (finite_bits negative c (up - down))
    else raised negative c (up - down - 12287)

abbrev pub placed_at : Bool → Parts → (ℕ × ℕ) → Option ℕ
placed_at negative p c = placed negative c.0 (tens_up p + c.1 + 6176) (tens_down p)

-- the bits of a numeral
abbrev pub numeral_bits : Bool → Parts → Option ℕ
numeral_bits negative p =
    option_and_then (placed_at negative p) (coefficient_of 0 0 (p.whole ++ p.fraction))

-- digits with at most one point, perhaps an exponent, and nothing else
abbrev pub is_numeral_text : List ℕ → Bool
is_numeral_text text =
    has_digits (scan_numeral text) && ((scan_numeral text).len == length text)

-- the word in small letters, capitals or both
abbrev pub is_word : List ℕ → List ℕ → Bool
is_word word text = bytes_eq (map to_ascii_lowercase text) word

abbrev pub is_infinity : List ℕ → Bool
is_infinity text = is_word (codes "infinity") text || is_word (codes "inf") text

-- the bits of a text without its sign
abbrev pub unsigned_bits : Bool → List ℕ → Option ℕ
unsigned_bits negative text =
    if is_word (codes "nan") text then Some (31 * 2 ^ 122)
    else if is_infinity text then Some (sign_bit negative + 30 * 2 ^ 122)
    else if is_numeral_text text then numeral_bits negative (scan_numeral text)
    else None

-- A sign may stand first.
abbrev pub decimal_bits : List ℕ → Option ℕ
decimal_bits text = unsigned_bits (slice_index text 0 == minus) (without_sign text)

-- the 16 bytes of a text that has less than 2 ^ 32 bytes
abbrev pub decimal128_of : List ℕ → Option (List ℕ)
decimal128_of text =
    if nat_lt (length text) (2 ^ 32) then option_map (to_le_bytes w128) (decimal_bits text)
    else None
