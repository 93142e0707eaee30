-- A decimal128 is read of its text.
use Rattle.std.proofs.Common.{◌≡◌, ℕ, zero, suc, ◌+◌, ◌-◌, ◌*◌, ◌^◌, ◌<◌, ◌≤◌, Bool, true, false, cond, ◌&&◌, eqb, List, [], ◌∷◌, ◌++◌, length, get_or, take, drop, replicate, Some, refl, sym, ap, ◌∙◌, subst, arith, append_assoc, append-nil, length-append, length-drop, ne_eqb, eq-eqb, lt-ltb, codes}
use Rattle.std.specs.Prelude.{nat_lt, nat_le, ◌==◌, option_and_then, decimal}
use Rattle.std.specs.Char.{digit_value, to_ascii_lowercase}
use Rattle.std.specs.Fmt.{sign_text}
use Rattle.std.specs.Str.Parse.{AllDigits, digits_value, digits_value_after}
use Rattle.std.specs.Float.Numeral.{tens_down, tens_up}
use Rattle.std.proofs.lemmas.Bool.Decides.{nat_tests}
use Rattle.std.proofs.lemmas.List.{length-replicate, length-take-le, take-append-drop}
use Rattle.std.proofs.lemmas.Str.{digit_value_digit}
use Rattle.std.proofs.lemmas.Str.Parse.{digit_from_value}
use Rattle.std.proofs.lemmas.Fmt.{decimal_is_IsNumeral_wide, length-decimal-le_wide}
use Rattle.bson_json.specs.Decimals.{behind_first, digits_text, pointed, signed_exponent}
use Rattle.bson_json_read.specs.DecimalText.{coefficient_of, decimal_bits, finite_bits, is_word, numeral_bits, placed, placed_at, unsigned_bits}
use Rattle.bson_json_read.proofs.Scanned.{Exponent, none, above, below, exponent_text, exponent_digits, is_below, numeral_parts, numeral_text, scanned}

-- ---- coefficients

le_after : (n : ℕ) (ds : List ℕ) → n ≤ digits_value_after 10 n ds
le_after n [] = omega arith
le_after n (d ∷ ds) = omega (arith, le_after (n * 10 + digit_value d) ds)

-- a digit more, where there is room for it
digit_more : (n d v : ℕ) (ds : List ℕ) → d - 48 ≡ v → n * 10 + v < 10 ^ 34 → coefficient_of n 0 (d ∷ ds) ≡ coefficient_of (n * 10 + v) 0 ds
digit_more n d v ds e fits = rw (e, lt-ltb (n * 10 + v) (10 ^ 34) fits) refl

-- digits write the coefficient that is their number
pub coefficient_read : (n : ℕ) (ds : List ℕ) → AllDigits 10 ds → digits_value_after 10 n ds < 10 ^ 34 → coefficient_of n 0 ds ≡ Some (digits_value_after 10 n ds, 0)
coefficient_read n [] h small = refl
coefficient_read n (d ∷ ds) h small =
    let same : d - 48 ≡ digit_value d = omega (arith, digit_value_digit d (digit_from_value d h.0)) in
    digit_more n d (digit_value d) ds same (omega (arith, le_after (n * 10 + digit_value d) ds)) ∙ coefficient_read (n * 10 + digit_value d) ds h.1 small

-- ---- numerals

-- the first byte of digits is no letter
letterless : (w : ℕ) (ws ds : List ℕ) → AllDigits 10 ds → 0 < length ds → 97 ≤ w → (rest : List ℕ) → is_word (w ∷ ws) (ds ++ rest) ≡ false
letterless w ws [] h some high rest = absurd (omega arith)
letterless w ws (d ∷ ds) h some high rest =
    let r = digit_from_value d h.0 in
    let small : nat_lt d 65 ≡ true = lt-ltb d 65 (omega arith) in
    let low : to_ascii_lowercase d ≡ d = rw small refl in
    let other : eqb d w ≡ false = ne_eqb d w (λ e. omega arith) in
    rw (low, other) refl

-- a numeral that begins with a digit is no word
pub read_as_numeral : (negative : Bool) (whole : List ℕ) (point : Bool) (fraction : List ℕ) (x : Exponent) → AllDigits 10 whole → 0 < length whole → AllDigits 10 fraction → AllDigits 10 (exponent_digits x)
    → (point ≡ false → fraction ≡ []) → unsigned_bits negative (numeral_text whole point fraction x) ≡ numeral_bits negative (numeral_parts whole point fraction x)
read_as_numeral negative whole point fraction x w some f e plain =
    let rest = cond point (46 ∷ fraction) [] ++ exponent_text x in
    let n = letterless 110 (97 ∷ 110 ∷ []) whole w some (omega arith) rest in
    let i = letterless 105 (110 ∷ 102 ∷ 105 ∷ 110 ∷ 105 ∷ 116 ∷ 121 ∷ []) whole w some (omega arith) rest in
    let s = letterless 105 (110 ∷ 102 ∷ []) whole w some (omega arith) rest in
    rw (n, i, s, scanned whole point fraction x w f e plain, lt-ltb 0 (length whole + length fraction) (omega arith), eq-eqb (length (numeral_text whole point fraction x)) (length (numeral_text whole point fraction x)) refl) refl

-- an exponent that needs no other place
placed_is : (negative : Bool) (c up down e : ℕ) → up ≡ down + e → e ≤ 12287 → placed negative c up down ≡ Some (finite_bits negative c e)
placed_is negative c up down e is small =
    let first : nat_lt up down ≡ false = grind (arith, nat_tests) in
    let same : up - down ≡ e = omega arith in
    let second : nat_le e 12287 ≡ true = grind (arith, nat_tests) in
    rw (first, same, second) refl

-- what the digits and the exponent of a numeral come to
pub numeral_is : (negative : Bool) (whole : List ℕ) (point : Bool) (fraction : List ℕ) (x : Exponent) (c e : ℕ) → AllDigits 10 (whole ++ fraction) → digits_value 10 (whole ++ fraction) ≡ c → c < 10 ^ 34
    → tens_up (numeral_parts whole point fraction x) + 6176 ≡ tens_down (numeral_parts whole point fraction x) + e → e ≤ 12287
    → numeral_bits negative (numeral_parts whole point fraction x) ≡ Some (finite_bits negative c e)
numeral_is negative whole point fraction x c e d is small at low =
    let p = numeral_parts whole point fraction x in
    ap (option_and_then (placed_at negative p)) (coefficient_read 0 (whole ++ fraction) d (rw is small)) ∙ rw is (placed_is negative c (tens_up p + 0 + 6176) (tens_down p) e (omega arith) low)

-- ---- the numerals that are written

AllDigits-append : (xs ys : List ℕ) → AllDigits 10 xs → AllDigits 10 ys → AllDigits 10 (xs ++ ys)
AllDigits-append [] ys h k = k
AllDigits-append (x ∷ xs) ys h k = (h.0, AllDigits-append xs ys h.1 k)

AllDigits-take : (n : ℕ) (xs : List ℕ) → AllDigits 10 xs → AllDigits 10 (take n xs)
AllDigits-take zero xs h = tt
AllDigits-take (suc n) [] h = tt
AllDigits-take (suc n) (x ∷ xs) h = (h.0, AllDigits-take n xs h.1)

AllDigits-drop : (n : ℕ) (xs : List ℕ) → AllDigits 10 xs → AllDigits 10 (drop n xs)
AllDigits-drop zero xs h = h
AllDigits-drop (suc n) [] h = tt
AllDigits-drop (suc n) (x ∷ xs) h = AllDigits-drop n xs h.1

zeros_are_digits : (n : ℕ) → AllDigits 10 (replicate n 48)
zeros_are_digits zero = tt
zeros_are_digits (suc n) = (omega arith, zeros_are_digits n)

-- zeros before digits change no number
zeros_before : (n : ℕ) (ds : List ℕ) → digits_value 10 (replicate n 48 ++ ds) ≡ digits_value 10 ds
zeros_before zero ds = refl
zeros_before (suc n) ds = zeros_before n ds

-- how far an exponent is above 0, and below
abbrev up : Exponent → ℕ
up x = cond (is_below x) 0 (digits_value 10 (exponent_digits x))

abbrev down : Exponent → ℕ
down x = cond (is_below x) (digits_value 10 (exponent_digits x)) 0

-- the text is a numeral with this coefficient, and this exponent, which is given plus 6176
pub record IsNumeralOf (c e : ℕ) (text : List ℕ) : Type 0 where
  pub whole : List ℕ
  pub point : Bool
  pub fraction : List ℕ
  pub exponent : Exponent
  pub is_text : text ≡ numeral_text whole point fraction exponent
  pub some : 0 < length whole
  pub whole_digits : AllDigits 10 whole
  pub fraction_digits : AllDigits 10 fraction
  pub exponent_are_digits : AllDigits 10 (exponent_digits exponent)
  pub no_point : point ≡ false → fraction ≡ []
  pub value_is : digits_value 10 (whole ++ fraction) ≡ c
  pub exponent_is : up exponent + 6176 ≡ length fraction + down exponent + e
  pub short : length text ≤ 10000

-- without an exponent the text ends behind the digits
ended : (whole : List ℕ) (point : Bool) (fraction : List ℕ) → numeral_text whole point fraction none ≡ whole ++ cond point (46 ∷ fraction) []
ended whole point fraction = ap (λ l. whole ++ l) (append-nil (cond point (46 ∷ fraction) []))

-- digits, of which the last n stand behind a point
pointed_is : (ds : List ℕ) (n c e : ℕ) → AllDigits 10 ds → 0 < length ds → length ds ≤ 34 → digits_value 10 ds ≡ c → n + e ≡ 6176 → IsNumeralOf c e (pointed ds n)
pointed_is ds zero c e h some few is at = record {
  whole = ds;
  point = false;
  fraction = [];
  exponent = none;
  is_text = sym (ended ds false [] ∙ append-nil ds);
  some = some;
  whole_digits = h;
  fraction_digits = tt;
  exponent_are_digits = tt;
  no_point = λ _. refl;
  value_is = rw append-nil is;
  exponent_is = omega arith;
  short = omega arith;
}
pointed_is ds (suc n) c e h some few is at =
    elim (nat_le (length ds) (suc n)) as (λ b. nat_le (length ds) (suc n) ≡ b
    → IsNumeralOf c e (cond b (codes "0." ++ (replicate (suc n - length ds) 48 ++ ds)) (take (length ds - suc n) ds ++ (codes "." ++ drop (length ds - suc n) ds)))) [
      | true ↦ λ t. zeros_first (suc n - length ds) (grind (arith, nat_tests))
      | false ↦ λ t. middle (length ds - suc n) (grind (arith, nat_tests)) (grind (arith, nat_tests))
    ] refl
  where
    zeros_first : (k : ℕ) → k + length ds ≡ suc n → IsNumeralOf c e (codes "0." ++ (replicate k 48 ++ ds))
    zeros_first k long = record {
      whole = 48 ∷ [];
      point = true;
      fraction = replicate k 48 ++ ds;
      exponent = none;
      is_text = sym (ended (48 ∷ []) true (replicate k 48 ++ ds));
      some = omega arith;
      whole_digits = (omega arith, tt);
      fraction_digits = AllDigits-append (replicate k 48) ds (zeros_are_digits k) h;
      exponent_are_digits = tt;
      no_point = λ p. absurd cc;
      value_is = zeros_before k ds ∙ is;
      exponent_is = omega (arith, length-append (replicate k 48) ds, length-replicate {A = ℕ} k 48);
      short = omega (arith, length-append (replicate k 48) ds, length-replicate {A = ℕ} k 48);
    }

    middle : (k : ℕ) → 0 < k → k + suc n ≡ length ds → IsNumeralOf c e (take k ds ++ (codes "." ++ drop k ds))
    middle k more long = record {
      whole = take k ds;
      point = true;
      fraction = drop k ds;
      exponent = none;
      is_text = sym (ended (take k ds) true (drop k ds));
      some = omega (arith, length-take-le k ds (omega arith));
      whole_digits = AllDigits-take k ds h;
      fraction_digits = AllDigits-drop k ds h;
      exponent_are_digits = tt;
      no_point = λ p. absurd cc;
      value_is = rw (take-append-drop k ds) is;
      exponent_is = omega (arith, length-drop k ds);
      short = omega (arith, length-append (take k ds) (codes "." ++ drop k ds), length-drop k ds, length-take-le k ds (omega arith));
    }

-- an exponent as it is written, behind `E`
record IsExponentOf (adjusted : ℕ) (text : List ℕ) : Type 0 where
  exponent : Exponent
  is_text : text ≡ exponent_text exponent
  digits : AllDigits 10 (exponent_digits exponent)
  exponent_is : up exponent + 6176 ≡ down exponent + adjusted
  short : length text ≤ 100

exponent_above : (n : ℕ) (ds : List ℕ) → 0 < length ds → length ds ≤ 90 → AllDigits 10 ds → digits_value 10 ds ≡ n → IsExponentOf (n + 6176) (codes "E" ++ (codes "+" ++ ds))
exponent_above n [] some few h is = absurd (omega arith)
exponent_above n (d ∷ ds) some few h is = record { exponent = above d ds; is_text = refl; digits = h; exponent_is = omega arith; short = omega arith }

exponent_below : (n adjusted : ℕ) (ds : List ℕ) → 0 < length ds → length ds ≤ 90 → AllDigits 10 ds → digits_value 10 ds ≡ n → n + adjusted ≡ 6176 → IsExponentOf adjusted (codes "E" ++ (codes "-" ++ ds))
exponent_below n adjusted [] some few h is at = absurd (omega arith)
exponent_below n adjusted (d ∷ ds) some few h is at = record { exponent = below d ds; is_text = refl; digits = h; exponent_is = omega arith; short = omega arith }

wide : (n : ℕ) → n < 2 ^ 20 → n < 10 ^ 64
wide n h = omega arith

few : (n : ℕ) → n < 2 ^ 20 → length (decimal n) ≤ 90
few n h = omega (arith, length-decimal-le_wide 7 n (omega arith) (omega arith) (omega arith))

exponent_written : (adjusted : ℕ) → adjusted < 2 ^ 20 → IsExponentOf adjusted (codes "E" ++ signed_exponent adjusted)
exponent_written adjusted small =
    elim (nat_le 6176 adjusted) as (λ b. nat_le 6176 adjusted ≡ b → IsExponentOf adjusted (codes "E" ++ cond b (codes "+" ++ decimal (adjusted - 6176)) (codes "-" ++ decimal (6176 - adjusted)))) [
      | true ↦ λ t.
          let n = adjusted - 6176 in
          let d = decimal_is_IsNumeral_wide n (wide n (omega arith)) in
          let back : n + 6176 ≡ adjusted = grind (arith, nat_tests) in
          subst (λ k. IsExponentOf k (codes "E" ++ (codes "+" ++ decimal n))) back (exponent_above n (decimal n) d.0.0 (few n (omega arith)) d.0.1 d.1)
      | false ↦ λ t.
          let n = 6176 - adjusted in
          let d = decimal_is_IsNumeral_wide n (wide n (omega arith)) in
          exponent_below n adjusted (decimal n) d.0.0 (few n (omega arith)) d.0.1 d.1 (grind (arith, nat_tests))
    ] refl

-- digits with a point behind the first, and an exponent
scientific_is : (ds text : List ℕ) (c e : ℕ) → AllDigits 10 ds → 0 < length ds → length ds ≤ 34 → digits_value 10 ds ≡ c → IsExponentOf (e + length ds - 1) text → IsNumeralOf c e (behind_first ds ++ text)
scientific_is ds text c e h some few is x =
    elim (length ds == 1) as (λ b. (length ds == 1) ≡ b → IsNumeralOf c e (cond b ds (take 1 ds ++ (codes "." ++ drop 1 ds)) ++ text)) [
      | true ↦ λ t. record {
        whole = ds;
        point = false;
        fraction = [];
        exponent = x.exponent;
        is_text = ap (λ l. ds ++ l) x.is_text;
        some = some;
        whole_digits = h;
        fraction_digits = tt;
        exponent_are_digits = x.digits;
        no_point = λ _. refl;
        value_is = rw append-nil is;
        exponent_is = let one : length ds ≡ 1 = grind (arith, nat_tests) in omega (arith, x.exponent_is);
        short = omega (arith, length-append ds text, x.short);
      }
      | false ↦ λ t.
          let more : 1 < length ds = grind (arith, nat_tests) in
          record {
            whole = take 1 ds;
            point = true;
            fraction = drop 1 ds;
            exponent = x.exponent;
            is_text = append_assoc (take 1 ds) (codes "." ++ drop 1 ds) text ∙ ap (λ l. take 1 ds ++ (46 ∷ (drop 1 ds ++ l))) x.is_text;
            some = omega (arith, length-take-le 1 ds (omega arith));
            whole_digits = AllDigits-take 1 ds h;
            fraction_digits = AllDigits-drop 1 ds h;
            exponent_are_digits = x.digits;
            no_point = λ p. absurd cc;
            value_is = rw (take-append-drop 1 ds) is;
            exponent_is = omega (arith, x.exponent_is, length-drop 1 ds);
            short = omega (arith, x.short, length-append (take 1 ds ++ (codes "." ++ drop 1 ds)) text, length-append (take 1 ds) (codes "." ++ drop 1 ds), length-drop 1 ds, length-take-le 1 ds (omega arith));
          }
    ] refl

digits_text_is : (ds : List ℕ) (c e : ℕ) → AllDigits 10 ds → 0 < length ds → length ds ≤ 34 → e ≤ 12287 → digits_value 10 ds ≡ c → IsNumeralOf c e (digits_text ds e)
digits_text_is ds c e h some few small is =
    elim (nat_le e 6176 && nat_le 6170 (e + length ds - 1)) as (λ b. (nat_le e 6176 && nat_le 6170 (e + length ds - 1)) ≡ b
    → IsNumeralOf c e (cond b (pointed ds (6176 - e)) (behind_first ds ++ (codes "E" ++ signed_exponent (e + length ds - 1))))) [
      | true ↦ λ t. pointed_is ds (6176 - e) c e h some few is (grind (arith, nat_tests))
      | false ↦ λ t. scientific_is ds (codes "E" ++ signed_exponent (e + length ds - 1)) c e h some few is (exponent_written (e + length ds - 1) (omega arith))
    ] refl

pub decimal_text_is : (c e : ℕ) → c < 10 ^ 34 → e ≤ 12287 → IsNumeralOf c e (digits_text (decimal c) e)
decimal_text_is c e small low =
    let wide_c : c < 10 ^ 64 = omega arith in
    let d = decimal_is_IsNumeral_wide c wide_c in
    digits_text_is (decimal c) c e d.0.1 d.0.0 (length-decimal-le_wide 34 c (omega arith) small wide_c) low d.1

-- ---- what is read of them

unsigned_read : (negative : Bool) (c e : ℕ) (text : List ℕ) → IsNumeralOf c e text → c < 10 ^ 34 → e ≤ 12287 → unsigned_bits negative text ≡ Some (finite_bits negative c e)
unsigned_read negative c e text n small low =
    ap (unsigned_bits negative) n.is_text ∙ read_as_numeral negative n.whole n.point n.fraction n.exponent n.whole_digits n.some n.fraction_digits n.exponent_are_digits n.no_point
    ∙ numeral_is negative n.whole n.point n.fraction n.exponent c e (AllDigits-append n.whole n.fraction n.whole_digits n.fraction_digits) n.value_is small (omega (arith, n.exponent_is)) low

first_is_digit : (ds rest : List ℕ) → AllDigits 10 ds → 0 < length ds → (eqb (get_or (ds ++ rest) 0 0) 45 ≡ false) × (eqb (get_or (ds ++ rest) 0 0) 43 ≡ false)
first_is_digit [] rest h l = absurd (omega arith)
first_is_digit (d ∷ ds) rest h l = let r = digit_from_value d h.0 in (ne_eqb d 45 (λ e. omega arith), ne_eqb d 43 (λ e. omega arith))

pub signed_read : (negative : Bool) (c e : ℕ) (text : List ℕ) → IsNumeralOf c e text → c < 10 ^ 34 → e ≤ 12287 → decimal_bits (sign_text negative ++ text) ≡ Some (finite_bits negative c e)
signed_read true c e text n small low = unsigned_read true c e text n small low
signed_read false c e text n small low =
    let t = first_is_digit n.whole (cond n.point (46 ∷ n.fraction) [] ++ exponent_text n.exponent) n.whole_digits n.some in
    let a : eqb (get_or text 0 0) 45 ≡ false = rw n.is_text t.0 in
    let b : eqb (get_or text 0 0) 43 ≡ false = rw n.is_text t.1 in
    rw (a, b) (unsigned_read false c e text n small low)
