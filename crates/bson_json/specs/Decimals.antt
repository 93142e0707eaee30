-- The numbers of decimal128 (IEEE 754-2008, in its binary encoding), and their text (BSON
-- Decimal128 specification: "To String Representation").
use Rattle.std.specs.Prelude.{ℕ, zero, suc, ◌+◌, ◌-◌, ◌/◌, ◌%◌, ◌^◌, nat_le, nat_lt, ◌==◌}
use Rattle.std.specs.Prelude.{◌&&◌, if◌then◌else◌, List, ◌++◌, length, take, drop, replicate}
use Rattle.std.specs.Prelude.{Bool, codes, decimal}
use Rattle.std.specs.Int.{w128, from_le_bytes}
use Rattle.std.specs.Fmt.{sign_text}

-- ---- the number

-- the 128 bits of 16 bytes, the lowest first
abbrev pub bits_of : List ℕ → ℕ
bits_of bytes = from_le_bytes w128 bytes

-- the highest bit is the sign
abbrev pub is_negative : ℕ → Bool
is_negative bits = nat_le (2 ^ 127) bits

-- the five bits behind the sign: 31 for NaN, 30 for infinity, and from 24 on where the coefficient
-- would begin with the bits 100
abbrev pub combination : ℕ → ℕ
combination bits = bits / 2 ^ 122 % 32

-- The coefficient. One that would have more than 34 digits stands for 0, as each does that begins
-- with the bits 100.
abbrev pub coefficient : ℕ → ℕ
coefficient bits =
    if nat_le 24 (combination bits) then 0
    else if nat_lt (bits % 2 ^ 113) (10 ^ 34) then bits % 2 ^ 113
    else 0

-- the exponent, plus 6176
abbrev pub biased_exponent : ℕ → ℕ
biased_exponent bits =
    if nat_le 24 (combination bits) then bits / 2 ^ 111 % 2 ^ 14 else bits / 2 ^ 113 % 2 ^ 14

-- ---- its text

-- the digits with a point before the last of them, and zeros before them where they are fewer
abbrev pub pointed : List ℕ → ℕ → List ℕ
pointed digits zero = digits
pointed digits (suc n) =
    if nat_le (length digits) (suc n)
    then codes "0." ++ (replicate (suc n - length digits) 48 ++ digits)
    else take (length digits - suc n) digits ++ (codes "." ++ drop (length digits - suc n) digits)

-- the digits with a point behind the first, if there are others
abbrev pub behind_first : List ℕ → List ℕ
behind_first digits =
    if length digits == 1 then digits else take 1 digits ++ (codes "." ++ drop 1 digits)

-- an exponent with its sign; it is given plus 6176
abbrev pub signed_exponent : ℕ → List ℕ
signed_exponent adjusted =
    if nat_le 6176 adjusted then codes "+" ++ decimal (adjusted - 6176)
    else codes "-" ++ decimal (6176 - adjusted)

-- Digits times ten to the exponent, which is given plus 6176. The adjusted exponent is that of the
-- first digit. The form is scientific where the exponent is above 0, or the adjusted one below -6.
abbrev pub digits_text : List ℕ → ℕ → List ℕ
digits_text digits exponent =
    if nat_le exponent 6176 && nat_le 6170 (exponent + length digits - 1)
    then pointed digits (6176 - exponent)
    else behind_first digits ++ (codes "E" ++ signed_exponent (exponent + length digits - 1))

-- the text of a finite number, by its bits, without its sign
abbrev pub finite_text : ℕ → List ℕ
finite_text bits = digits_text (decimal (coefficient bits)) (biased_exponent bits)

-- the text of a number, by its bits
abbrev pub bits_text : ℕ → List ℕ
bits_text bits =
    if combination bits == 31 then codes "NaN"
    else if combination bits == 30 then sign_text (is_negative bits) ++ codes "Infinity"
    else sign_text (is_negative bits) ++ finite_text bits

-- the text of 16 bytes
abbrev pub decimal128_text : List ℕ → List ℕ
decimal128_text bytes = bits_text (bits_of bytes)
