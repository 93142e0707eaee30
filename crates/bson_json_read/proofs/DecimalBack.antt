-- The bytes of a decimal128 are read of its text.
use Rattle.std.proofs.Common.{◌≡◌, ℕ, ◌+◌, ◌*◌, ◌%◌, ◌^◌, ◌<◌, ◌≤◌, inl, inr, Bool, true, false, List, ◌++◌, length, Some, refl, sym, ap, ◌∙◌, subst, arith, codes, length-append}
use Rattle.std.specs.Prelude.{nat_lt, ◌==◌}
use Rattle.std.specs.Fmt.{sign_text}
use Rattle.std.proofs.lemmas.Bool.Decides.{nat_tests}
use Rattle.bson_elem.specs.Spelling.{AreBytes}
use Rattle.bson_json.specs.Decimals.{biased_exponent, bits_of, bits_text, coefficient, combination, decimal128_text, finite_text, is_negative}
use Rattle.bson_json_read.specs.DecimalText.{decimal128_of, decimal_bits, sign_bit}
use Rattle.bson_json_read.specs.Lossless.{IsCanonicalDecimal}
use Rattle.bson_json_read.proofs.Numerals.{decimal_text_is, signed_read}
use Rattle.bson_json_read.proofs.DecimalBytes.{bytes_back, coefficient_small, exponent_small, finite_is, number_small}
use Rattle.bson_json_read.proofs.PlainTexts.{IsPlain, plain-append, plain_all, plain_numeral, plain_sign}

-- the text of such bits, which are read of it
record Tells (bits : ℕ) (text : List ℕ) : Type 0 where
  plain : IsPlain text
  read : decimal_bits text ≡ Some bits
  short : length text < 2 ^ 32

nan_told : Tells (31 * 2 ^ 122) (bits_text (31 * 2 ^ 122))
nan_told = record { plain = plain_all (codes "NaN") refl; read = refl; short = omega arith }

infinity_told : (negative : Bool) → Tells (sign_bit negative + 30 * 2 ^ 122) (bits_text (sign_bit negative + 30 * 2 ^ 122))
infinity_told true = record { plain = plain_all (codes "-Infinity") refl; read = refl; short = omega arith }
infinity_told false = record { plain = plain_all (codes "Infinity") refl; read = refl; short = omega arith }

finite_told : (bits : ℕ) → bits < 2 ^ 128 → combination bits < 24 → bits % 2 ^ 113 < 10 ^ 34 → Tells bits (bits_text bits)
finite_told bits fits few small =
    let a : (combination bits == 31) ≡ false = grind (arith, nat_tests) in
    let b : (combination bits == 30) ≡ false = grind (arith, nat_tests) in
    let c = coefficient bits in
    let e = biased_exponent bits in
    let low = coefficient_small bits in
    let high = exponent_small bits fits few in
    let n = decimal_text_is c e low high in
    let sign = sign_text (is_negative bits) in
    let same : bits_text bits ≡ sign ++ finite_text bits = rw (a, b) refl in
    subst (Tells bits) (sym same)
    (record {
      plain = plain-append sign (finite_text bits) (plain_sign (is_negative bits)) (plain_numeral c e (finite_text bits) n);
      read = signed_read (is_negative bits) c e (finite_text bits) n low high ∙ ap Some (finite_is bits fits few small);
      short = omega (arith, length-append sign (finite_text bits), n.short, sign_short (is_negative bits));
    })
  where
    sign_short : (negative : Bool) → length (sign_text negative) ≤ 1
    sign_short true = omega arith
    sign_short false = omega arith

told : (bits : ℕ) → bits < 2 ^ 128 → IsCanonicalDecimal bits → Tells bits (bits_text bits)
told bits fits (inl e) = subst (λ n. Tells n (bits_text n)) (sym e) nan_told
told bits fits (inr (inl e)) = subst (λ n. Tells n (bits_text n)) (sym e.1) (infinity_told e.0)
told bits fits (inr (inr e)) = finite_told bits fits e.0 e.1

pub decimal128_back : (bytes : List ℕ) → AreBytes 16 bytes → IsCanonicalDecimal (bits_of bytes) → decimal128_of (decimal128_text bytes) ≡ Some bytes
decimal128_back bytes b is =
    let t = told (bits_of bytes) (number_small bytes b.count_is b.are_bytes) is in
    let short : nat_lt (length (decimal128_text bytes)) (2 ^ 32) ≡ true = let s = t.short in grind (arith, nat_tests) in
    rw (short, t.read) (ap Some (bytes_back bytes b.count_is b.are_bytes))

pub decimal128_plain : (bytes : List ℕ) → AreBytes 16 bytes → IsCanonicalDecimal (bits_of bytes) → IsPlain (decimal128_text bytes)
decimal128_plain bytes b is = (told (bits_of bytes) (number_small bytes b.count_is b.are_bytes) is).plain
