-- Integers, as tests tell them and as std parses them.
use Rattle.std.proofs.Common.{◌≡◌, ℕ, ℤ, pos, negsuc, ◌<◌, ◌^◌, List, [], ◌∷◌, length, Bool, true, false, cond, ◌&&◌, Some, None, Result, Ok, Err, refl, ap, sym, ◌∙◌, arith}
use Rattle.std.specs.Prelude.{nat_lt}
use Rattle.std.specs.List.{list_all}
use Rattle.std.specs.Char.{digit_value}
use Rattle.std.specs.Result.{result_ok}
use Rattle.std.specs.Str.Parse.{AllDigits, IsNumeral, ParsesSigned, ParsesUnsigned, digits_value, signed_digits_value, without_leading_plus, without_leading_sign}
use Rattle.std.proofs.lemmas.Bool.Decides.{nat_tests}
use mir.Syntax.{Width}
use mir.Val.{SFits, hbits}
use Rattle.bson_json_read.specs.Numbers.{fits, integer_of, is_decimal, is_integer, is_numeral, is_unsigned, unsigned_of}

pub both : (p q : Bool) → p ≡ true → q ≡ true → (p && q) ≡ true
both p q e f = rw (e, f) refl

pub parts : (p q : Bool) → (p && q) ≡ true → (p ≡ true) × (q ≡ true)
parts true q e = (refl, e)
parts false q e = absurd cc

digits_pass : (ds : List ℕ) → AllDigits 10 ds → list_all is_decimal ds ≡ true
digits_pass [] h = refl
digits_pass (d ∷ ds) h = both (is_decimal d) (list_all is_decimal ds) (grind (arith, nat_tests)) (digits_pass ds h.1)

pass_digits : (ds : List ℕ) → list_all is_decimal ds ≡ true → AllDigits 10 ds
pass_digits [] h = tt
pass_digits (d ∷ ds) h =
    let p = parts (is_decimal d) (list_all is_decimal ds) h in
    let small : digit_value d < 10 = grind (arith, nat_tests) in (small, pass_digits ds p.1)

pub numeral_passes : (ds : List ℕ) → IsNumeral 10 ds → is_numeral ds ≡ true
numeral_passes ds h = both (nat_lt 0 (length ds)) (list_all is_decimal ds) (grind (arith, nat_tests)) (digits_pass ds h.1)

pub passes_numeral : (ds : List ℕ) → is_numeral ds ≡ true → IsNumeral 10 ds
passes_numeral ds h =
    let p = parts (nat_lt 0 (length ds)) (list_all is_decimal ds) h in
    let some : 0 < length ds = grind (arith, nat_tests) in (some, pass_digits ds p.1)

pub fits_passes : (w : Width) (half : ℕ) (z : ℤ) → half ≡ 2 ^ hbits w → SFits w z → fits half z ≡ true
fits_passes w half (pos n) e h = let lt = h.sfits in grind (arith, nat_tests)
fits_passes w half (negsuc n) e h = let lt = h.sfits in grind (arith, nat_tests)

pub passes_fits : (w : Width) (half : ℕ) (z : ℤ) → half ≡ 2 ^ hbits w → fits half z ≡ true → SFits w z
passes_fits w half (pos n) e h = let lt : n < 2 ^ hbits w = grind (arith, nat_tests) in record { sfits = lt }
passes_fits w half (negsuc n) e h = let lt : n < 2 ^ hbits w = grind (arith, nat_tests) in record { sfits = lt }

if_true : {A : Type 0} (b : Bool) (x : A) → b ≡ true → cond b (Some x) None ≡ Some x
if_true b x e = rw e refl

unless_true : {A : Type 0} (b : Bool) (x : A) → (b ≡ true → ⊥) → cond b (Some x) None ≡ None
unless_true true x h = absurd (h refl)
unless_true false x h = refl

-- what std parses as a signed integer
signed_parsed : {E : Type 0} (w : Width) (half : ℕ) (text : List ℕ) (r : Result ℤ E) → half ≡ 2 ^ hbits w → ParsesSigned w 10 text r → result_ok r ≡ integer_of half text
signed_parsed w half text (Ok z) e h =
    let ds = without_leading_sign text in
    let v = signed_digits_value 10 text in
    let t = both (is_numeral ds) (fits half v) (numeral_passes ds h.0.0) (fits_passes w half v e h.0.1) in
    ap Some h.1 ∙ sym (if_true (is_integer half text) v t)
signed_parsed w half text (Err d) e h =
    let ds = without_leading_sign text in
    let v = signed_digits_value 10 text in
    sym (unless_true (is_integer half text) v (λ t. let p = parts (is_numeral ds) (fits half v) t in h (passes_numeral ds p.0, passes_fits w half v e p.1)))

pub integer_read : {E : Type 0} (w : Width) (half : ℕ) (text : List ℕ) (r : Result ℤ E) → ParsesSigned w 10 text r → half ≡ 2 ^ hbits w → result_ok r ≡ integer_of half text
integer_read w half text r h e = signed_parsed w half text r e h

pub unsigned_read : {E : Type 0} (text : List ℕ) (r : Result ℕ E) → ParsesUnsigned 32 10 text r → result_ok r ≡ unsigned_of text
unsigned_read text (Ok n) h =
    let ds = without_leading_plus text in
    let v = digits_value 10 ds in
    let small : nat_lt v (2 ^ 32) ≡ true = let lt = h.0.1 in grind (arith, nat_tests) in
    ap Some h.1 ∙ sym (if_true (is_unsigned text) v (both (is_numeral ds) (nat_lt v (2 ^ 32)) (numeral_passes ds h.0.0) small))
unsigned_read text (Err d) h =
    let ds = without_leading_plus text in
    let v = digits_value 10 ds in
    sym (unless_true (is_unsigned text) v (λ t.
    let p = parts (is_numeral ds) (nat_lt v (2 ^ 32)) t in
    let small : v < 2 ^ 32 = grind (arith, nat_tests) in h (passes_numeral ds p.0, small)))
