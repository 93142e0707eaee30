-- A number is NaN exactly if its bits are those of a NaN, and its bytes are read as that number.
use Rattle.std.proofs.Common.{◌≡◌, ℕ, ◌<◌, ◌%◌, ◌^◌, T, refl, sym, ap, ◌∙◌, arith}
use Rattle.std.specs.Prelude.{true, false, is_nan, to_bits, from_bits}
use Rattle.std.specs.Int.{w64, to_le_bytes, from_le_bytes}
use Rattle.std.proofs.lemmas.Nat.{from_le_bytes-to_le_bytes_8}
use Rattle.std.specs.Float.{Float, binary64}
use Rattle.std.proofs.lemmas.Bool.{lt-ltb}
use lib.Ieee.{nan, inf, fin, fits}
use lib.Ieee.Bits.{nan_bits_is, nan_bits_above, of_bits-to_bits, to_bits-lt}
use Rattle.bson_raw.specs.Doubles.{double_bytes, double_of}

nan_is : (x : Float) → is_nan x ≡ true → nan ≡ x
unfolding lib.Ieee.is_nan
nan_is nan p = refl
nan_is (inf s) p = absurd (let no : false ≡ true = p in cc)
nan_is (fin s m e) p = absurd (let no : false ≡ true = p in cc)

-- bits without a sign that are above infinity's are NaN's
pub nan_above : (bits : ℕ) → 0x7ff0_0000_0000_0000 < bits % 2 ^ 63 → nan ≡ from_bits binary64 bits
nan_above bits above =
    nan_is (from_bits binary64 bits)
    (sym (nan_bits_is binary64 bits) ∙ nan_bits_above binary64 bits ∙ lt-ltb _ _ above)

-- the bits of a number that is no NaN, as bytes and back
kept : (x : Float) → T (fits binary64 x)
    → from_bits binary64 (from_le_bytes w64 (to_le_bytes w64 (to_bits binary64 x))) ≡ x
kept x fit =
    ap (from_bits binary64)
    (from_le_bytes-to_le_bytes_8 (to_bits binary64 x) (to_bits-lt binary64 x fit))
    ∙ of_bits-to_bits binary64 x fit

pub number_kept : (x : Float) → T (fits binary64 x) → double_of (double_bytes x) ≡ x
unfolding lib.Ieee.is_nan lib.Ieee.of_bits
number_kept nan fit =
    ap (from_bits binary64) (from_le_bytes-to_le_bytes_8 0x7ff8_0000_0000_0000 (omega arith))
number_kept (inf s) fit = kept (inf s) fit
number_kept (fin s m e) fit = kept (fin s m e) fit
