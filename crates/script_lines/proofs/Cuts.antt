-- The parts of a text, where it is cut at a byte that was searched for.
use Rattle.std.proofs.Common.{◌≡◌, ◌≢◌, ◌+◌, ◌<◌, ℕ, Bool, true, false, List, [], ◌∷◌, Some, None, length, take, drop, refl, ap, ◌∙◌, arith}
use Rattle.std.specs.Prelude.{if◌then◌else◌}
use Rattle.std.specs.List.{onto_first, position_or_len, slice_split}
use Rattle.std.proofs.lemmas.Bool.{false_from_ne_true}
use Rattle.std.proofs.lemmas.List.Elements.{All-from_get_or}
use Rattle.std.proofs.lemmas.List.Splits.{slice_split_first, slice_split_none}
use Rattle.std.proofs.lemmas.List.Sums.{position_or_len_is}
use Rattle.memchr.specs.Find.{IsFirstByte, is_byte}
use Rattle.script_lines.specs.Lines.{is_lf, lines_in, lines_of, without_cr}

-- the byte was found: the first part ends there
pub cut_at : (b : ℕ) (text : List ℕ) (k : ℕ) → IsFirstByte (is_byte b) text (Some k) → slice_split (is_byte b) text ≡ take k text ∷ slice_split (is_byte b) (drop (k + 1) text)
cut_at b text k first =
    let here : position_or_len (is_byte b) text ≡ k = position_or_len_is (is_byte b) text k 0 (omega (arith, first.0.high)) (λ i lt. false_from_ne_true _ (first.0.before i (omega arith) lt)) (λ lt. first.1) in
    let cut = slice_split_first (is_byte b) text 0 (omega (arith, here, first.0.high)) in
    rw here at cut

-- it wasn't: the text is the one part
pub uncut : (b : ℕ) (text : List ℕ) → IsFirstByte (is_byte b) text None → slice_split (is_byte b) text ≡ text ∷ []
uncut b text nowhere =
    slice_split_none (is_byte b) text (All-from_get_or (λ x. is_byte b x ≡ false) text 0 (λ i lt. false_from_ne_true _ (nowhere i (omega arith) lt)))

-- there is a part
pub some_part : (p : ℕ → Bool) (text : List ℕ) → slice_split p text ≢ []
some_part p [] e = cc
some_part p (b ∷ bs) e = by_test (p b) (slice_split p bs) e
  where
    put : (parts : List (List ℕ)) → onto_first b parts ≢ []
    put [] e = cc
    put (part ∷ parts) e = cc

    by_test : (t : Bool) (parts : List (List ℕ)) → (if t then [] ∷ parts else onto_first b parts) ≢ []
    by_test true parts e = cc
    by_test false parts e = put parts e

-- a part with others behind it is a line
pub line_before : (part : List ℕ) (parts : List (List ℕ)) → parts ≢ [] → lines_in (part ∷ parts) ≡ without_cr part ∷ lines_in parts
line_before part [] some = absurd (some refl)
line_before part (next ∷ parts) some = refl

-- the text up to an LF, without the CR before that, is the first line
pub line_at : (text : List ℕ) (k : ℕ) → IsFirstByte (is_byte 10) text (Some k) → lines_of text ≡ without_cr (take k text) ∷ lines_of (drop (k + 1) text)
line_at text k first = ap lines_in (cut_at 10 text k first) ∙ line_before (take k text) (slice_split is_lf (drop (k + 1) text)) (some_part is_lf (drop (k + 1) text))

-- a text without an LF is the only line
pub only_line : (text : List ℕ) → 0 < length text → IsFirstByte (is_byte 10) text None → lines_of text ≡ text ∷ []
only_line [] some nowhere = absurd (omega arith)
only_line (b ∷ bs) some nowhere = ap lines_in (uncut 10 (b ∷ bs) nowhere)
