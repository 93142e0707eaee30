-- The numbers of doubles (bsonspec.org, version 1.1: `double`, 8 bytes of IEEE 754-2008 binary64).
use Rattle.std.specs.Prelude.{ℕ, List, is_nan, to_bits, from_bits, if◌then◌else◌}
use Rattle.std.specs.Float.{Float, binary64}
use Rattle.std.specs.Int.{w64, to_le_bytes, from_le_bytes}

-- The number that 8 bytes stand for, the lowest first. The bytes of every NaN give the one number
-- NaN.
abbrev pub double_of : List ℕ → Float
double_of bytes = from_bits binary64 (from_le_bytes w64 bytes)

-- the bytes of a number; NaN has those of the quiet NaN without a payload
abbrev pub double_bytes : Float → List ℕ
double_bytes x =
    to_le_bytes w64 (if is_nan x then 0x7ff8_0000_0000_0000 else to_bits binary64 x)
