-- Bytes as they appear in JSON strings.
use Rattle.std.proofs.Common.{◌≡◌, ◌≤◌, Option, Result, Ok, Err, OnOk, ◌∷◌, ◌/◌, ◌%◌, ◌<◌, [], ℕ, List, true, refl, arith, eqb, eqb-true, ne_eqb, get_or}
use Rattle.std.specs.Char.{digit_char}
use Rattle.std.proofs.lemmas.Bool.{agree_below_at, le-ltb, lt-ltb}
use Rattle.hex.specs.Hex.{encode_lower, encode_with, lower_digits}
use Rattle.std.specs.List.{flat_map}
use Rattle.std.specs.Io.KnownBytes.{Appends}
use Rattle.std.proofs.KnownBytes.{Appends-trans}
use Rattle.json.specs.Print.{escape_byte, escape_letter, quoted}
use Rattle.text_writer.proofs.Lemmas.{KeepsPlain}

-- a byte that needs no escape is written as it is
pub plain_kept : KeepsPlain escape_byte
unfolding escape_byte
plain_kept b h = grind (arith)

-- one that is 20 or above, and has no letter, too
pub high_kept : (b : ℕ) → escape_letter b ≡ 0 → 32 ≤ b → escape_byte b ≡ b ∷ []
unfolding escape_byte
high_kept b none l = rw (none, le-ltb b 32 l) refl

digit_is : (n : ℕ) → n < 16 → get_or lower_digits n 0 ≡ digit_char n
digit_is n lt =
    eqb-true _ _ (agree_below_at (λ k. eqb (get_or lower_digits k 0) (digit_char k)) (λ _. true) 16 n refl lt)

-- a control character without a letter
pub control_escaped : (b : ℕ) → escape_letter b ≡ 0 → b < 32 → escape_byte b ≡ 92 ∷ 117 ∷ 48 ∷ 48 ∷ encode_lower (b ∷ [])
unfolding escape_byte encode_with
control_escaped b none lt =
    rw (none, lt-ltb b 32 lt, digit_is (b / 16) (omega arith), digit_is (b % 16) (omega arith)) refl

-- the bytes that have letters
pub no_letter : (b : ℕ) → (b ≡ 34 → ⊥) → (b ≡ 92 → ⊥) → (b ≡ 8 → ⊥) → (b ≡ 12 → ⊥) → (b ≡ 10 → ⊥) → (b ≡ 13 → ⊥) → (b ≡ 9 → ⊥)
    → escape_letter b ≡ 0
no_letter b n34 n92 n8 n12 n10 n13 n9 =
    rw (ne_eqb b 34 n34, ne_eqb b 92 n92, ne_eqb b 8 n8, ne_eqb b 12 n12, ne_eqb b 10 n10, ne_eqb b 13 n13, ne_eqb b 9 n9) refl

-- the closing quote is written
pub quoted_end : {E : Type 0} (r : Result (Unit {0}) E) (a b c d : Option (List ℕ)) (text : List ℕ)
    → Appends a b (34 ∷ []) → Appends b c (flat_map escape_byte text) → OnOk r (Appends c d (34 ∷ []))
    → OnOk r (Appends a d (quoted text))
quoted_end (Err x) a b c d text opened inside closed = tt
quoted_end (Ok x) a b c d text opened inside closed =
    Appends-trans a b d (34 ∷ []) _ opened (Appends-trans b c d _ (34 ∷ []) inside closed)
