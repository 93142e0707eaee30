-- The parts of a numeral, as they are scanned from its text where an exponent stands behind `E` and
-- its sign.
use Rattle.std.proofs.Common.{◌≡◌, ℕ, ◌+◌, ◌-◌, ◌≤◌, Bool, true, false, cond, ◌&&◌, eqb, List, [], ◌∷◌, ◌++◌, length, get_or, refl, sym, arith, append_assoc, append-nil, length-append}
use Rattle.std.specs.Prelude.{slice_range}
use Rattle.std.specs.Str.Parse.{AllDigits}
use Rattle.std.specs.Char.{is_ascii_digit}
use Rattle.std.proofs.lemmas.Str.Parse.{digit_from_value}
use lib.Seq.{get_or-append-add, drop_at, take_at}
use native.Mathlib.Nat.{add-zero}
use Rattle.std.specs.Float.Numeral.{Parts, digits_end, digits_len, exponent_start, has_exponent, scan_numeral}
use borrow.Author.Tests.{le-leb}

-- an exponent as it is written: none, or one behind its sign
pub data Exponent : Type 0 where
  none : Exponent
  above : ℕ → List ℕ → Exponent
  below : ℕ → List ℕ → Exponent

abbrev pub exponent_text : Exponent → List ℕ
exponent_text none = []
exponent_text (above d ds) = 69 ∷ 43 ∷ d ∷ ds
exponent_text (below d ds) = 69 ∷ 45 ∷ d ∷ ds

abbrev pub exponent_digits : Exponent → List ℕ
exponent_digits none = []
exponent_digits (above d ds) = d ∷ ds
exponent_digits (below d ds) = d ∷ ds

abbrev pub is_below : Exponent → Bool
is_below none = false
is_below (above d ds) = false
is_below (below d ds) = true

pub digit_is : (d : ℕ) → 48 ≤ d → d ≤ 57 → is_ascii_digit d ≡ true
digit_is d low high = rw (le-leb 48 d low, le-leb d 57 high) refl

digits_before : (ds rest : List ℕ) → AllDigits 10 ds → digits_len rest ≡ 0 → digits_len (ds ++ rest) ≡ length ds
digits_before [] rest h e = e
digits_before (d ∷ ds) rest h e =
    let r = digit_from_value d h.0 in rw (digit_is d r.0 r.1) (omega (arith, digits_before ds rest h.1 e))

-- digits that stand behind a front
run_end : (front ds rest : List ℕ) (i : ℕ) → length front ≡ i → AllDigits 10 ds → digits_len rest ≡ 0 → digits_end (front ++ (ds ++ rest)) i ≡ i + length ds
run_end front ds rest i at digits ends = rw (drop_at front _ i at, digits_before ds rest digits ends)

run_is : (front ds rest : List ℕ) (i : ℕ) → length front ≡ i → slice_range (front ++ (ds ++ rest)) i (i + length ds) ≡ ds
run_is front ds rest i at = rw (drop_at front _ i at) (take_at ds rest (i + length ds - i) (omega arith))

byte_behind : (front rest : List ℕ) (i k : ℕ) → length front ≡ i → get_or (front ++ rest) (i + k) 0 ≡ get_or rest k 0
byte_behind front rest i k e = rw (← e) (get_or-append-add front rest k 0)

byte_at : (front rest : List ℕ) (i : ℕ) → length front ≡ i → get_or (front ++ rest) i 0 ≡ get_or rest 0 0
byte_at front rest i e = rw add-zero at (byte_behind front rest i 0 e)

abbrev Tail : List ℕ → ℕ → Bool → List ℕ → Type 0
Tail bs b negative exponent =
    ((has_exponent bs b && eqb (get_or bs (b + 1) 0) 45) ≡ negative)
    × (cond (has_exponent bs b) (slice_range bs (exponent_start bs b) (digits_end bs (exponent_start bs b))) [] ≡ exponent)
    × (cond (has_exponent bs b) (digits_end bs (exponent_start bs b)) b ≡ length bs)

tail_of : (bs : List ℕ) (b c : ℕ) (negative : Bool) (exponent : List ℕ) → has_exponent bs b ≡ true → exponent_start bs b ≡ c → eqb (get_or bs (b + 1) 0) 45 ≡ negative
    → digits_end bs c ≡ c + length exponent → slice_range bs c (c + length exponent) ≡ exponent → c + length exponent ≡ length bs → Tail bs b negative exponent
tail_of bs b c negative exponent has start sign end is long = (rw has sign, rw (has, start, end) is, rw (has, start, end) long)

-- an `E`, a sign and digits
signed_tail : (front : List ℕ) (b s d : ℕ) (ds : List ℕ) (negative : Bool) → length front ≡ b → AllDigits 10 (d ∷ ds) → eqb s 45 ≡ negative
    → exponent_start (front ++ 69 ∷ s ∷ d ∷ ds) b ≡ b + 2 → Tail (front ++ 69 ∷ s ∷ d ∷ ds) b negative (d ∷ ds)
signed_tail front b s d ds negative at digits sign start =
    let r = digit_from_value d digits.0 in
    let bs = front ++ 69 ∷ s ∷ d ∷ ds in
    let next : get_or bs (b + 1) 0 ≡ s = byte_behind front _ b 1 at in
    let third : get_or bs (b + 2) 0 ≡ d = byte_behind front _ b 2 at in
    let cut : (front ++ 69 ∷ s ∷ []) ++ ((d ∷ ds) ++ []) ≡ bs = rw (append-nil, append_assoc) in
    let long : length (front ++ 69 ∷ s ∷ []) ≡ b + 2 = rw (length-append, at) in
    let has : has_exponent bs b ≡ true = rw (start, third, byte_at front _ b at) (digit_is d r.0 r.1) in
    tail_of bs b (b + 2) negative (d ∷ ds) has start (rw next sign)
    (rw cut at (run_end (front ++ 69 ∷ s ∷ []) (d ∷ ds) [] (b + 2) long digits refl)) (rw cut at (run_is (front ++ 69 ∷ s ∷ []) (d ∷ ds) [] (b + 2) long)) (omega (arith, length-append front (69 ∷ s ∷ d ∷ ds)))

tail : (front : List ℕ) (b : ℕ) (x : Exponent) → length front ≡ b → AllDigits 10 (exponent_digits x) → Tail (front ++ exponent_text x) b (is_below x) (exponent_digits x)
tail front b none at digits =
    let has : has_exponent (front ++ []) b ≡ false = rw (byte_at front [] b at) in
    (rw has, rw has, rw (has, append-nil) (sym at))
tail front b (above d ds) at digits =
    signed_tail front b 43 d ds false at digits refl (rw (byte_behind front (69 ∷ 43 ∷ d ∷ ds) b 1 at))
tail front b (below d ds) at digits =
    signed_tail front b 45 d ds true at digits refl (rw (byte_behind front (69 ∷ 45 ∷ d ∷ ds) b 1 at))

exponent_ends : (x : Exponent) → (digits_len (exponent_text x) ≡ 0) × (eqb (get_or (exponent_text x) 0 0) 46 ≡ false)
exponent_ends none = (refl, refl)
exponent_ends (above d ds) = (refl, refl)
exponent_ends (below d ds) = (refl, refl)

scan_is : (bs whole fraction exponent : List ℕ) (point negative : Bool) (a b : ℕ) → digits_end bs 0 ≡ a → eqb (get_or bs a 0) 46 ≡ point → cond point (digits_end bs (a + 1)) a ≡ b
    → slice_range bs 0 a ≡ whole → cond point (slice_range bs (a + 1) b) [] ≡ fraction → Tail bs b negative exponent
    → scan_numeral bs ≡ record { whole = whole; point = point; fraction = fraction; exponent_negative = negative; exponent = exponent; len = length bs }
unfolding scan_numeral
scan_is bs whole fraction exponent point negative a b ea ep eb ew ef t =
    rw (ea, ep, eb) (λ i. record { whole = ew i; point = point; fraction = ef i; exponent_negative = t.0 i; exponent = t.1 i; len = t.2 i })

-- the text of a numeral, and its parts
abbrev pub numeral_text : List ℕ → Bool → List ℕ → Exponent → List ℕ
numeral_text whole point fraction x = whole ++ (cond point (46 ∷ fraction) [] ++ exponent_text x)

abbrev pub numeral_parts : List ℕ → Bool → List ℕ → Exponent → Parts
numeral_parts whole point fraction x =
    record { whole = whole; point = point; fraction = fraction; exponent_negative = is_below x; exponent = exponent_digits x; len = length (numeral_text whole point fraction x) }

pub scanned : (whole : List ℕ) (point : Bool) (fraction : List ℕ) (x : Exponent) → AllDigits 10 whole → AllDigits 10 fraction → AllDigits 10 (exponent_digits x) → (point ≡ false → fraction ≡ [])
    → scan_numeral (numeral_text whole point fraction x) ≡ numeral_parts whole point fraction x
scanned whole false fraction x w f e plain =
    let t = exponent_text x in
    let ends = exponent_ends x in
    let a = 0 + length whole in
    let at : length whole ≡ a = omega arith in
    scan_is _ whole fraction (exponent_digits x) false (is_below x) a a (run_end [] whole t 0 refl w ends.0) (rw (byte_at whole t a at) ends.1) refl (run_is [] whole t 0 refl) (sym (plain refl))
    (tail whole a x at e)
scanned whole true fraction x w f e plain =
    let t = exponent_text x in
    let ends = exponent_ends x in
    let a = 0 + length whole in
    let at : length whole ≡ a = omega arith in
    let cut : (whole ++ 46 ∷ []) ++ (fraction ++ t) ≡ whole ++ 46 ∷ (fraction ++ t) = append_assoc whole (46 ∷ []) _ in
    let long : length (whole ++ 46 ∷ []) ≡ a + 1 = omega (arith, length-append whole (46 ∷ [])) in
    let front : (whole ++ 46 ∷ fraction) ++ t ≡ whole ++ 46 ∷ (fraction ++ t) = append_assoc whole (46 ∷ fraction) t in
    scan_is _ whole fraction (exponent_digits x) true (is_below x) a (a + 1 + length fraction) (run_end [] whole (46 ∷ (fraction ++ t)) 0 refl w refl) (rw (byte_at whole (46 ∷ (fraction ++ t)) a at)) (rw cut at (run_end (whole ++ 46 ∷ []) fraction t (a + 1) long f ends.0))
    (run_is [] whole (46 ∷ (fraction ++ t)) 0 refl) (rw cut at (run_is (whole ++ 46 ∷ []) fraction t (a + 1) long))
    (rw front at (tail (whole ++ 46 ∷ fraction) (a + 1 + length fraction) x (omega (arith, length-append whole (46 ∷ fraction))) e))
