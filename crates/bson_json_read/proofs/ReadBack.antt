-- What is read of the texts that are written.
use Rattle.std.proofs.Common.{◌≡◌, ℕ, ℤ, ◌<◌, ◌≤◌, ◌^◌, List, [], ◌∷◌, length, Bool, true, false, cond, Option, Some, None, Ok, refl, ap, sym, ◌∙◌, append-nil, arith, codes}
use Rattle.std.specs.Prelude.{ok_or, option_and_then}
use Rattle.std.specs.Bool.{Decides}
use Rattle.std.specs.Result.{result_ok}
use Rattle.std.specs.Fmt.{signed_decimal}
use Rattle.std.specs.Str.{bytes_eq}
use Rattle.std.specs.Str.Parse.{ParsesSigned, signed_digits_value, without_leading_sign}
use Rattle.std.proofs.lemmas.Fmt.{parse-signed_decimal}
use Rattle.std.proofs.lemmas.Slice.Eq.{bytes_eq-Decides}
use Rattle.std.specs.Float.{Float, binary64, float_is_finite}
use Rattle.std.specs.Float.Ieee.{nan, inf, fin}
use Rattle.fast_float.proofs.OnLiterals.{fast_float_on_literals}
use Rattle.fast_float.specs.Parse.{parse_float}
use mir.Syntax.{Width, w32, w64}
use mir.Val.{hbits}
use lib.Signed.{mag}
use Rattle.hex.specs.Hex.{encode_lower}
use Rattle.hex.specs.Hex as hex
use Rattle.hex.proofs.HexLemmas.{decode_sized-encode_lower}
use Rattle.base64.specs.Engines.{standard}
use Rattle.base64.specs.GeneralPurpose.{IsBytes, encode_of}
use Rattle.base64.proofs.EngineFacts.{decode_of-encode_of}
use Rattle.bson_json.specs.Json.{IsNumberText}
use Rattle.json.specs.Json.{Json, if_last, value}
use Rattle.json.specs.Print.{print}
use Rattle.json.specs.Tree.{HasNumbers, depth, json_tokens}
use Rattle.json.proofs.Printed.Tokens.{tokens-print}
use Rattle.json.proofs.Printed.Trees.{ArePrintable-json_tokens, value-json_tokens}
use Rattle.bson_json_read.specs.Texts.{json_in}
use Rattle.bson_json_read.specs.Bytes.{base64_of, first_byte, hex_of, subtype_of, two_digits}
use Rattle.bson_json_read.specs.Numbers.{double_of_text, fits, if_finite, integer_of, is_integer, is_numeral}
use Rattle.bson_json_read.proofs.Integers.{both, fits_passes, parts, passes_fits, passes_numeral, numeral_passes}

-- ---- integers

parsed_by : (w : Width) (half : ℕ) (text : List ℕ) → half ≡ 2 ^ hbits w → (b : Bool) → is_integer half text ≡ b
    → ParsesSigned w 10 text (ok_or (cond b (Some (signed_digits_value 10 text)) None) (tt {0}))
parsed_by w half text e true t =
    let p = parts (is_numeral (without_leading_sign text)) (fits half (signed_digits_value 10 text)) t in
    ((passes_numeral (without_leading_sign text) p.0, passes_fits w half (signed_digits_value 10 text) e p.1), refl)
parsed_by w half text e false t = λ p.
    let b = both (is_numeral (without_leading_sign text)) (fits half (signed_digits_value 10 text)) (numeral_passes (without_leading_sign text) p.0) (fits_passes w half (signed_digits_value 10 text) e p.1) in
    let h : true ≡ false = sym b ∙ t in cc

ok_some : {A E : Type 0} (o : Option A) (e : E) (x : A) → ok_or o e ≡ Ok x → o ≡ Some x
ok_some (Some y) e x h = cc
ok_some None e x h = absurd cc

integer_back : (w : Width) (half : ℕ) (z : ℤ) → half ≡ 2 ^ hbits w → half ≤ 2 ^ 63 → fits half z ≡ true → integer_of half (signed_decimal z) ≡ Some z
integer_back w half z e small h =
    let f = passes_fits w half z e h in
    let text = signed_decimal z in
    let low : mag z < 2 ^ 63 = let lt = f.sfits in omega (arith, e) in
    ok_some (integer_of half text) (tt {0}) z (parse-signed_decimal w z text (ok_or (integer_of half text) (tt {0})) f low refl (parsed_by w half text e (is_integer half text) refl))

pub int32_back : (z : ℤ) → fits (2 ^ 31) z ≡ true → integer_of (2 ^ 31) (signed_decimal z) ≡ Some z
int32_back z h = integer_back w32 (2 ^ 31) z refl (omega arith) h

pub int64_back : (z : ℤ) → fits (2 ^ 63) z ≡ true → integer_of (2 ^ 63) (signed_decimal z) ≡ Some z
int64_back z h = integer_back w64 (2 ^ 63) z refl (omega arith) h

-- ---- bytes

pub hex_back : (count : ℕ) (bytes : List ℕ) → length bytes ≡ count → hex.IsBytes bytes → hex_of count (encode_lower bytes) ≡ Some bytes
hex_back count bytes e h = ap result_ok (decode_sized-encode_lower bytes count e h)

pub base64_back : (bytes : List ℕ) → IsBytes bytes → base64_of (encode_of standard bytes) ≡ Some bytes
base64_back bytes h = ap result_ok (decode_of-encode_of standard bytes refl h)

-- a subtype
same_digits : (s : ℕ) → two_digits (encode_lower (s ∷ [])) ≡ encode_lower (s ∷ [])
unfolding hex.encode_with
same_digits s = refl

pub subtype_back : (s : ℕ) → hex.IsBytes (s ∷ []) → subtype_of (encode_lower (s ∷ [])) ≡ Some s
subtype_back s h =
    ap (λ t. option_and_then first_byte (hex_of 1 t)) (same_digits s) ∙ ap (option_and_then first_byte) (hex_back 1 (s ∷ []) refl h)

-- ---- doubles

same_float : {x y : Float} → Some x ≡ Some y → x ≡ y
same_float e = cc

-- a text that reads as another float than a word is another text
apart : (text word : List ℕ) (x y : Float) → parse_float binary64 text ≡ Some x → parse_float binary64 word ≡ Some y → (x ≡ y → ⊥) → bytes_eq text word ≡ false
apart text word x y p q n =
    (elim (bytes_eq text word) as (λ b. Decides b (text ≡ word) → b ≡ false) [
      | true ↦ λ d. absurd (n (same_float (sym p ∙ ap (parse_float binary64) (d.0 refl) ∙ q)))
      | false ↦ λ _. refl
    ]) (bytes_eq-Decides text word)

nan_read : parse_float binary64 (codes "NaN") ≡ Some nan
unfolding fast_float_on_literals
nan_read = refl

infinity_read : parse_float binary64 (codes "Infinity") ≡ Some (inf false)
unfolding fast_float_on_literals
infinity_read = refl

negative_infinity_read : parse_float binary64 (codes "-Infinity") ≡ Some (inf true)
unfolding fast_float_on_literals
negative_infinity_read = refl

finite_is : (s : Bool) (m : ℕ) (e : ℤ) → if_finite (fin s m e) ≡ Some (fin s m e)
unfolding float_is_finite
finite_is s m e = refl

pub double_back : (x : Float) (text : List ℕ) → IsNumberText x text → double_of_text text ≡ Some x
double_back nan text h = rw h refl
double_back (inf true) text h = rw h refl
double_back (inf false) text h = rw h refl
double_back (fin s m e) text h =
    let a = apart text (codes "NaN") (fin s m e) nan h.0 nan_read (λ q. absurd cc) in
    let b = apart text (codes "Infinity") (fin s m e) (inf false) h.0 infinity_read (λ q. absurd cc) in
    let c = apart text (codes "-Infinity") (fin s m e) (inf true) h.0 negative_infinity_read (λ q. absurd cc) in
    rw (a, b, c, h.0) (finite_is s m e)

-- ---- JSON values

-- a value that is printed is read back, if it nests no deeper than is read
pub printed_back : (j : Json) → HasNumbers j → depth j ≤ 402 → json_in (print (json_tokens j)) ≡ Some j
printed_back j n h =
    ap (option_and_then (λ p. if_last p.0 p.1))
    (ap (value 402) (tokens-print (json_tokens j) (ArePrintable-json_tokens j n) ∙ sym (append-nil (json_tokens j))) ∙ value-json_tokens j 402 [] h)
