-- Text that stands in a JSON string as it is.
use Rattle.std.proofs.Common.{◌≡◌, ℕ, ℤ, pos, negsuc, zero, suc, ◌+◌, ◌*◌, ◌/◌, ◌%◌, ◌^◌, ◌<◌, ◌≤◌, Bool, true, false, cond, ◌&&◌, ◌==◌, List, [], ◌∷◌, ◌++◌, length, get_or, replicate, refl, sym, ap, ap₂, ◌∙◌, subst, arith, append_assoc, IsUtf8}
use Rattle.std.specs.Prelude.{decimal, nat_lt}
use Rattle.std.specs.List.{list_all}
use Rattle.std.specs.Fmt.{sign_text, signed_decimal}
use Rattle.std.specs.Str.Parse.{AllDigits}
use Rattle.std.proofs.lemmas.Bool.{and_parts, or_parts, not-true, eqb-false, ltb-false, lt-ltb, le-ltb, ne_eqb}
use Rattle.std.proofs.lemmas.Str.{IsUtf8-append, IsUtf8-nil}
use Rattle.std.proofs.lemmas.Str.Parse.{digit_from_value}
use Rattle.std.proofs.lemmas.Fmt.{decimal_is_IsNumeral_wide}
use lib.Signed.{mag}
use Rattle.hex.specs.Hex.{encode_lower, encode_with, lower_digits}
use Rattle.base64.specs.Engines.{standard}
use Rattle.base64.specs.GeneralPurpose.{encode_of, engine_symbols}
use Rattle.base64.specs.Rfc4648.{encode_symbols, padding_len}
use Rattle.json.specs.Print.{escape, escape_byte}
use Rattle.json.specs.Run.{is_plain}
use Rattle.json.proofs.Printed.Strings.{escape_byte_plain}
use Rattle.json.proofs.Printed.Utf8.{IsUtf8-are_ascii}
use Rattle.ryu.specs.Plain.{IsPlusNumber, exponent_with}
use Rattle.bson_json_read.proofs.Scanned.{Exponent, none, above, below, exponent_text, exponent_digits}
use Rattle.bson_json_read.proofs.Numerals.{IsNumeralOf}

-- the text is ASCII, and no byte of it needs an escape
pub record IsPlain (text : List ℕ) : Type 0 where
  pub escaped : escape text ≡ text
  pub utf8 : IsUtf8 text

escape-append : (xs ys : List ℕ) → escape (xs ++ ys) ≡ escape xs ++ escape ys
escape-append [] ys = refl
escape-append (x ∷ xs) ys = ap (λ l. escape_byte x ++ l) (escape-append xs ys) ∙ sym (append_assoc (escape_byte x) (escape xs) (escape ys))

pub plain-append : (xs ys : List ℕ) → IsPlain xs → IsPlain ys → IsPlain (xs ++ ys)
plain-append xs ys h k = record {
  escaped = escape-append xs ys ∙ ap₂ (λ (a b : List ℕ). a ++ b) h.escaped k.escaped;
  utf8 = IsUtf8-append xs ys h.utf8 k.utf8;
}

pub plain_none : IsPlain []
plain_none = record { escaped = refl; utf8 = IsUtf8-nil }

-- a byte that needs none, and others
abbrev is_one : ℕ → Bool
is_one x = is_plain x && nat_lt x 128

plain_byte : (x : ℕ) → is_one x ≡ true → IsPlain (x ∷ [])
plain_byte x e =
    let p = and_parts (is_plain x) (nat_lt x 128) e in
    let none = or_parts _ _ (not-true _ p.0) in
    let tests = or_parts (x == 34) _ none.0 in
    record {
      escaped = ap (λ l. l ++ []) (escape_byte_plain x (eqb-false x 34 tests.0) (eqb-false x 92 tests.1) (ltb-false x 32 none.1));
      utf8 = IsUtf8-are_ascii (x ∷ []) (rw p.1 refl);
    }

plain_more : (x : ℕ) (xs : List ℕ) → is_one x ≡ true → IsPlain xs → IsPlain (x ∷ xs)
plain_more x xs p h = plain-append (x ∷ []) xs (plain_byte x p) h

-- text of constants
pub plain_all : (xs : List ℕ) → list_all is_one xs ≡ true → IsPlain xs
plain_all [] e = plain_none
plain_all (x ∷ xs) e = let p = and_parts (is_one x) (list_all is_one xs) e in plain_more x xs p.0 (plain_all xs p.1)

-- an item of a table of such bytes
plain_at : (t : List ℕ) (k : ℕ) → list_all is_one t ≡ true → k < length t → is_one (get_or t k 0) ≡ true
plain_at [] k e lt = absurd (omega arith)
plain_at (x ∷ xs) zero e lt = (and_parts (is_one x) (list_all is_one xs) e).0
plain_at (x ∷ xs) (suc k) e lt = plain_at xs k (and_parts (is_one x) (list_all is_one xs) e).1 (omega arith)

-- ---- decimal digits

plain_digit : (d : ℕ) → 48 ≤ d → d ≤ 57 → is_one d ≡ true
plain_digit d low high = rw (ne_eqb d 34 (λ e. omega arith), ne_eqb d 92 (λ e. omega arith), le-ltb d 32 (omega arith), lt-ltb d 128 (omega arith)) refl

pub plain_digits : (ds : List ℕ) → AllDigits 10 ds → IsPlain ds
plain_digits [] h = plain_none
plain_digits (d ∷ ds) h = let r = digit_from_value d h.0 in plain_more d ds (plain_digit d r.0 r.1) (plain_digits ds h.1)

pub plain_decimal : (n : ℕ) → n < 10 ^ 64 → IsPlain (decimal n)
plain_decimal n h = plain_digits (decimal n) (decimal_is_IsNumeral_wide n h).0.1

pub plain_signed : (z : ℤ) → mag z < 2 ^ 64 → IsPlain (signed_decimal z)
plain_signed (pos n) h = plain_decimal n (omega arith)
plain_signed (negsuc n) h = plain-append (45 ∷ []) (decimal (suc n)) (plain_all (45 ∷ []) refl) (plain_decimal (suc n) (omega arith))

-- ---- numerals

plain_point : (point : Bool) (fraction : List ℕ) → AllDigits 10 fraction → IsPlain (cond point (46 ∷ fraction) [])
plain_point true fraction h = plain-append (46 ∷ []) fraction (plain_all (46 ∷ []) refl) (plain_digits fraction h)
plain_point false fraction h = plain_none

plain_exponent : (x : Exponent) → AllDigits 10 (exponent_digits x) → IsPlain (exponent_text x)
plain_exponent none h = plain_none
plain_exponent (above d ds) h = plain-append (69 ∷ 43 ∷ []) (d ∷ ds) (plain_all (69 ∷ 43 ∷ []) refl) (plain_digits (d ∷ ds) h)
plain_exponent (below d ds) h = plain-append (69 ∷ 45 ∷ []) (d ∷ ds) (plain_all (69 ∷ 45 ∷ []) refl) (plain_digits (d ∷ ds) h)

pub plain_sign : (negative : Bool) → IsPlain (sign_text negative)
plain_sign true = plain_all (45 ∷ []) refl
plain_sign false = plain_none

pub plain_numeral : (c e : ℕ) (text : List ℕ) → IsNumeralOf c e text → IsPlain text
plain_numeral c e text n =
    subst IsPlain (sym n.is_text)
    (plain-append n.whole (cond n.point (46 ∷ n.fraction) [] ++ exponent_text n.exponent) (plain_digits n.whole n.whole_digits)
    (plain-append (cond n.point (46 ∷ n.fraction) []) (exponent_text n.exponent) (plain_point n.point n.fraction n.fraction_digits) (plain_exponent n.exponent n.exponent_are_digits)))

plain_small_exponent : (negative : Bool) (ds : List ℕ) → AllDigits 10 ds → IsPlain (exponent_with true negative ds)
plain_small_exponent negative [] h = plain_none
plain_small_exponent true (d ∷ ds) h = plain-append (101 ∷ 45 ∷ []) (d ∷ ds) (plain_all (101 ∷ 45 ∷ []) refl) (plain_digits (d ∷ ds) h)
plain_small_exponent false (d ∷ ds) h = plain-append (101 ∷ 43 ∷ []) (d ∷ ds) (plain_all (101 ∷ 43 ∷ []) refl) (plain_digits (d ∷ ds) h)

-- the text of a double
pub plain_number : (text : List ℕ) → IsPlusNumber 16 4 text → IsPlain text
plain_number text (negative, p, is, plain, laid_out) =
    let w = plain.well_formed in
    let f = cond p.point (46 ∷ p.fraction) [] in
    let x = exponent_with true p.exponent_negative p.exponent in
    subst IsPlain (sym is)
    (plain-append (sign_text negative) (p.whole ++ (f ++ x)) (plain_sign negative)
    (plain-append p.whole (f ++ x) (plain_digits p.whole w.whole_digits)
    (plain-append f x (plain_point p.point p.fraction w.fraction_digits) (plain_small_exponent p.exponent_negative p.exponent w.exponent_digits))))

-- ---- bytes

pub plain_hex : (bytes : List ℕ) → ((i : ℕ) → get_or bytes i 0 < 256) → IsPlain (encode_lower bytes)
unfolding encode_with
plain_hex [] h = plain_none
plain_hex (b ∷ bytes) h =
    let small : b < 256 = h 0 in
    plain_more _ _ (plain_at lower_digits (b / 16) refl (omega arith)) (plain_more _ _ (plain_at lower_digits (b % 16) refl (omega arith)) (plain_hex bytes (λ i. h (suc i))))

symbol : (k : ℕ) → k < 64 → is_one (get_or (engine_symbols standard) k 0) ≡ true
symbol k lt = plain_at (engine_symbols standard) k refl lt

plain_symbols : (bytes : List ℕ) → ((i : ℕ) → get_or bytes i 0 < 256) → IsPlain (encode_symbols (engine_symbols standard) bytes)
unfolding encode_symbols
plain_symbols [] h = plain_none
plain_symbols (a ∷ []) h =
    let x : a < 256 = h 0 in
    plain_more _ _ (symbol (a / 4) (omega arith)) (plain_more _ _ (symbol (a % 4 * 16) (omega arith)) plain_none)
plain_symbols (a ∷ b ∷ []) h =
    let x : a < 256 = h 0 in
    let y : b < 256 = h 1 in
    plain_more _ _ (symbol (a / 4) (omega arith)) (plain_more _ _ (symbol (a % 4 * 16 + b / 16) (omega arith)) (plain_more _ _ (symbol (b % 16 * 4) (omega arith)) plain_none))
plain_symbols (a ∷ b ∷ c ∷ bytes) h =
    let x : a < 256 = h 0 in
    let y : b < 256 = h 1 in
    let z : c < 256 = h 2 in
    plain_more _ _ (symbol (a / 4) (omega arith)) (plain_more _ _ (symbol (a % 4 * 16 + b / 16) (omega arith))
    (plain_more _ _ (symbol (b % 16 * 4 + c / 64) (omega arith)) (plain_more _ _ (symbol (c % 64) (omega arith)) (plain_symbols bytes (λ i. h (suc (suc (suc i))))))))

plain_padding : (n : ℕ) → IsPlain (replicate n 61)
plain_padding zero = plain_none
plain_padding (suc n) = plain_more 61 (replicate n 61) refl (plain_padding n)

pub plain_base64 : (bytes : List ℕ) → ((i : ℕ) → get_or bytes i 0 < 256) → IsPlain (encode_of standard bytes)
plain_base64 bytes h = plain-append (encode_symbols (engine_symbols standard) bytes) (replicate (padding_len (length bytes)) 61) (plain_symbols bytes h) (plain_padding (padding_len (length bytes)))
