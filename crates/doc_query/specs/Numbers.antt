-- Numbers of all kinds as whole numbers, so that they are compared by value: each is taken times
-- 2 ^ 1074, which makes every finite double whole.
use Rattle.std.specs.Prelude.{ℕ, ℤ, pos, neg_ℤ, ◌*ℤ◌, ◌+◌, ◌-◌, ◌/◌, ◌%◌, ◌^◌, ◌==◌, Bool, ◌&&◌}
use Rattle.std.specs.Prelude.{not, nat_lt, if◌then◌else◌}
use Rattle.doc_query.specs.declared.numbers.Number.{Number}

-- digits times a power of two
abbrev pub scaled : ℤ → ℕ → ℤ
scaled digits power = digits *ℤ pos (2 ^ power)

-- the whole number that the code's `Number` stands for: its digits times its power of two
abbrev pub number_value : Number → ℤ
number_value n = scaled n.digits n.power

-- a whole number, taken times 2 ^ 1074
abbrev pub whole_number : ℤ → ℤ
whole_number z = scaled z 1074

-- ---- doubles (IEEE 754, binary64: the sign, 11 bits of exponent, and 52 of fraction)

abbrev pub exponent_of : ℕ → ℕ
exponent_of bits = bits / 2 ^ 52 % 2 ^ 11

abbrev pub fraction_of : ℕ → ℕ
fraction_of bits = bits % 2 ^ 52

-- The significand: the fraction below a bit that is 1, unless the exponent is 0.
abbrev pub significand_of : ℕ → ℕ
significand_of bits =
    if exponent_of bits == 0 then fraction_of bits else fraction_of bits + 2 ^ 52

-- the significand with the sign
abbrev pub signed_significand : ℕ → ℤ
signed_significand bits =
    if nat_lt bits (2 ^ 63) then pos (significand_of bits) else neg_ℤ (pos (significand_of bits))

-- no number: the bits of the exponent are all 1, and the fraction isn't 0
abbrev pub is_nan : ℕ → Bool
is_nan bits = exponent_of bits == 2047 && not (fraction_of bits == 0)

-- The double with these bits, which isn't NaN. Infinity is above all that are finite.
abbrev pub double_number : ℕ → ℤ
double_number bits = scaled (signed_significand bits) (exponent_of bits - 1)
