-- Hexadecimal text, one byte after another.
use Rattle.std.proofs.Common.{◌≡◌, ◌<◌, ◌++◌, [], ◌∷◌, ◌+◌, ◌*◌, ◌⊎◌, inl, inr, ℕ, List, Option, Bool, IfSome, None, Some, Result, Ok, Err, OnOk, drop, get_or, not, take, true, false, if◌then◌else◌, is_some, length, refl, sym, ap, subst, ◌∙◌, append_assoc, append-nil, arith, length-append}
use Rattle.std.proofs.lemmas.Bool.{cases_Bool, le-ltb, lt-ltb}
use Rattle.std.proofs.lemmas.List.{drop_all, take_all, take_more}
use Rattle.std.proofs.lemmas.List.Elements.{filter-append}
use Rattle.std.specs.Char.{digit_value}
use Rattle.std.specs.List.{position_from}
use Rattle.file_commands.specs.declared.hex_input.HexText.{HexText}
use Rattle.file_commands.specs.Input.{IsDecoded, byte_behind, half_behind, half_of, is_other, is_space, packed, pairs}

-- ---- one digit more

pub pairs_more : (digits : List ℕ) (d : ℕ) → pairs (digits ++ d ∷ []) ≡ pairs digits ++ byte_behind (half_of digits) (digit_value d)
pairs_more [] d = refl
pairs_more (high ∷ []) d = refl
pairs_more (high ∷ (low ∷ digits)) d = ap (λ (x : List ℕ). (digit_value high * 16 + digit_value low) ∷ x) (pairs_more digits d)

pub half_more : (digits : List ℕ) (d : ℕ) → half_of (digits ++ d ∷ []) ≡ half_behind (half_of digits) (digit_value d)
half_more [] d = refl
half_more (high ∷ []) d = refl
half_more (high ∷ (low ∷ digits)) d = half_more digits d

-- ---- the first byte that is no digit

-- the search in front of one byte, and behind it
found_at : (i : ℕ) (x : ℕ) (text : List ℕ) → is_other x ≡ true → position_from is_other i (x ∷ text) ≡ Some i
found_at i x text e = rw e refl

found_behind : (i : ℕ) (x : ℕ) (text : List ℕ) → is_other x ≡ false → position_from is_other i (x ∷ text) ≡ position_from is_other (i + 1) text
found_behind i x text e = rw e refl

other_stays : (i p : ℕ) (text : List ℕ) (b : ℕ) → position_from is_other i text ≡ Some p → position_from is_other i (text ++ b ∷ []) ≡ Some p
other_stays i p [] b is = absurd cc
other_stays i p (x ∷ text) b is = by (cases_Bool (is_other x)) (other_stays (i + 1) p text b)
  where
    by : (is_other x ≡ true) ⊎ (is_other x ≡ false) → (position_from is_other (i + 1) text ≡ Some p → position_from is_other (i + 1) (text ++ b ∷ []) ≡ Some p) → position_from is_other i ((x ∷ text) ++ b ∷ []) ≡ Some p
    by (inl e) behind = found_at i x (text ++ b ∷ []) e ∙ sym (found_at i x text e) ∙ is
    by (inr e) behind = found_behind i x (text ++ b ∷ []) e ∙ behind (sym (found_behind i x text e) ∙ is)

-- what the search behind text without another byte finds of one byte more
abbrev found_last : ℕ → ℕ → Option ℕ
found_last n b = if is_other b then Some n else None

some_is_none : {A : Type 0} (x : A) → Some x ≡ None → ⊥
some_is_none x e = absurd cc

no_other_before : (i n : ℕ) (text : List ℕ) (b : ℕ) → n ≡ i + length text → position_from is_other i text ≡ None → position_from is_other i (text ++ b ∷ []) ≡ found_last n b
no_other_before i n [] b is none = ap (λ (k : ℕ). found_last k b) (omega (arith, is))
no_other_before i n (x ∷ text) b is none = by (cases_Bool (is_other x)) (no_other_before (i + 1) n text b (omega (arith, is)))
  where
    by : (is_other x ≡ true) ⊎ (is_other x ≡ false) → (position_from is_other (i + 1) text ≡ None → position_from is_other (i + 1) (text ++ b ∷ []) ≡ found_last n b) → position_from is_other i ((x ∷ text) ++ b ∷ []) ≡ found_last n b
    by (inl e) behind = absurd (some_is_none i (sym (found_at i x text e) ∙ none))
    by (inr e) behind = found_behind i x (text ++ b ∷ []) e ∙ behind (sym (found_behind i x text e) ∙ none)

-- ---- one byte more

one_longer : (text : List ℕ) (b : ℕ) → length (text ++ b ∷ []) ≡ length text + 1
one_longer text b = length-append text (b ∷ [])

is_there : {A : Type 0} (o : Option A) → is_some o ≡ true → (x : A) × (o ≡ Some x)
is_there None is = absurd cc
is_there (Some x) is = (x, refl)

pub is_absent : {A : Type 0} (o : Option A) → is_some o ≡ false → o ≡ None
is_absent None is = refl
is_absent (Some x) is = absurd cc

-- behind a byte that is no digit
pub takes_on : (old new : HexText) (text : List ℕ) (b : ℕ) → IsDecoded old text → is_some old.other ≡ true → new.other ≡ old.other → new.count ≡ old.count + 1 → new.high ≡ old.high → IsDecoded new (text ++ b ∷ [])
takes_on old new text b d some other count high =
    let at = is_there old.other some in
    let stays : position_from is_other 0 (text ++ b ∷ []) ≡ Some at.0 = other_stays 0 at.0 text b (sym d.other ∙ at.1) in
    let is : new.other ≡ Some at.0 = other ∙ at.1 in
    record {
      count = omega (arith, count, d.count, one_longer text b);
      other = is ∙ sym stays;
      bytes = λ none. absurd (some_is_none at.0 (sym is ∙ none));
      high = λ none. absurd (some_is_none at.0 (sym is ∙ none));
      half = subst (λ (h : Option ℕ). IfSome h (λ high. high < 16)) (sym high) d.half;
    }

-- the first byte that is no digit
pub takes_other : (old new : HexText) (text : List ℕ) (b : ℕ) → IsDecoded old text → old.other ≡ None → (digit_value b < 16 → ⊥) → new.other ≡ Some old.count → new.count ≡ old.count + 1 → new.high ≡ old.high
    → IsDecoded new (text ++ b ∷ [])
takes_other old new text b d none large other count high =
    let is : is_other b ≡ true = rw (le-ltb (digit_value b) 16 (let h = large in omega (arith, h))) refl in
    let stands : position_from is_other 0 (text ++ b ∷ []) ≡ Some old.count = no_other_before 0 old.count text b (omega (arith, d.count)) (sym d.other ∙ none) ∙ rw is refl in
    record {
      count = omega (arith, count, d.count, one_longer text b);
      other = other ∙ sym stands;
      bytes = λ none. absurd (some_is_none old.count (sym other ∙ none));
      high = λ none. absurd (some_is_none old.count (sym other ∙ none));
      half = subst (λ (h : Option ℕ). IfSome h (λ high. high < 16)) (sym high) d.half;
    }

small_behind : (high : Option ℕ) (digit : ℕ) → digit < 16 → IfSome (half_behind high digit) (λ high. high < 16)
small_behind None digit small = small
small_behind (Some high) digit small = tt

-- a digit
pub takes_digit : (old new : HexText) (text : List ℕ) (b digit : ℕ) → IsDecoded old text → old.other ≡ None → digit_value b < 16 → digit ≡ digit_value b → new.other ≡ old.other → new.count ≡ old.count + 1
    → new.bytes.items ≡ old.bytes.items ++ byte_behind old.high digit → new.high ≡ half_behind old.high digit → IsDecoded new (text ++ b ∷ [])
takes_digit old new text b digit d none small value other count bytes high =
    let is : is_other b ≡ false = rw (lt-ltb (digit_value b) 16 small) refl in
    let clear : position_from is_other 0 (text ++ b ∷ []) ≡ None = no_other_before 0 old.count text b (omega (arith, d.count)) (sym d.other ∙ none) ∙ rw is refl in
    let half : old.high ≡ half_of text = d.high none in
    record {
      count = omega (arith, count, d.count, one_longer text b);
      other = other ∙ none ∙ sym clear;
      bytes = λ any. bytes ∙ ap (λ (x : List ℕ). x ++ byte_behind old.high digit) (d.bytes none) ∙ ap (λ (x : ℕ). pairs text ++ byte_behind old.high x) value
          ∙ ap (λ (x : Option ℕ). pairs text ++ byte_behind x (digit_value b)) half ∙ sym (pairs_more text b);
      high = λ any. high ∙ ap (half_behind old.high) value ∙ ap (λ (x : Option ℕ). half_behind x (digit_value b)) half ∙ sym (half_more text b);
      half = subst (λ (h : Option ℕ). IfSome h (λ high. high < 16)) (sym high) (small_behind old.high digit (subst (λ (n : ℕ). n < 16) (sym value) small));
    }

-- ---- white space

packed_more : (text : List ℕ) (b : ℕ) (space : Bool) → is_space b ≡ space → packed (text ++ b ∷ []) ≡ packed text ++ (if space then [] else b ∷ [])
packed_more text b true is = filter-append (λ x. not (is_space x)) text (b ∷ []) ∙ rw is refl
packed_more text b false is = filter-append (λ x. not (is_space x)) text (b ∷ []) ∙ rw is refl

-- text, and white space
pub passes_space : (hex : HexText) (text : List ℕ) (b : ℕ) → IsDecoded hex (packed text) → is_space b ≡ true → IsDecoded hex (packed (text ++ b ∷ []))
passes_space hex text b d is = subst (IsDecoded hex) (sym (packed_more text b true is ∙ append-nil (packed text))) d

-- text, and another byte
pub passes_byte : (hex : HexText) (text : List ℕ) (b : ℕ) → IsDecoded hex (packed text ++ b ∷ []) → is_space b ≡ false → IsDecoded hex (packed (text ++ b ∷ []))
passes_byte hex text b d is = subst (IsDecoded hex) (sym (packed_more text b false is)) d

-- a piece, up to its next byte
pub piece_more : (text piece : List ℕ) (i : ℕ) → i < length piece → text ++ take (i + 1) piece ≡ (text ++ take i piece) ++ get_or piece i 0 ∷ []
piece_more text piece i there = ap (λ (x : List ℕ). text ++ x) (take_more piece i 0 there) ∙ sym (append_assoc text (take i piece) (get_or piece i 0 ∷ []))

-- what follows of three facts of a call that succeeded
pub all_ok : {A E P Q R T : Type 0} (r : Result A E) → OnOk r P → OnOk r Q → OnOk r R → (P → Q → R → T) → OnOk r T
all_ok (Ok x) p q r so = so p q r
all_ok (Err e) p q r so = tt

-- ---- the room for a piece

-- what was read stands in all of it
pub room_is : (n : ℕ) (new items : List ℕ) → length new ≡ length items → n ≡ length items → take n (new ++ drop (length new) items) ≡ new
room_is n new items size long =
    ap (λ (x : List ℕ). take n (new ++ x)) (drop_all (length new) items (omega (arith, size))) ∙ ap (take n) (append-nil new) ∙ take_all n new (omega (arith, size, long))
