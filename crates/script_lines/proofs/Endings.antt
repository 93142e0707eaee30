-- Lines, where an LF ends them and where none does.
use Rattle.std.proofs.Common.{◌≡◌, ◌≢◌, ◌∙◌, ℕ, List, [], ◌∷◌, ◌++◌, All, false, refl, ap}
use Rattle.std.specs.List.{slice_split}
use Rattle.std.proofs.lemmas.Bool.{ne_eqb}
use Rattle.std.proofs.lemmas.List.Elements.{All-weaker}
use Rattle.std.proofs.lemmas.List.Splits.{slice_split_at, slice_split_none}
use Rattle.script_lines.specs.Lines.{is_lf, lines_of, lines_in, without_cr}
use Rattle.script_lines.proofs.Cuts.{line_before, some_part}

pub line_ended : (line rest : List ℕ) → All (λ b. b ≢ 10) line → lines_of (line ++ 10 ∷ rest) ≡ without_cr line ∷ lines_of rest
line_ended line rest lacks =
    let none = All-weaker (λ b. b ≢ 10) (λ b. is_lf b ≡ false) (λ b. ne_eqb b 10) line lacks in
    ap lines_in (slice_split_at is_lf line 10 rest none refl) ∙ line_before line (slice_split is_lf rest) (some_part is_lf rest)

pub line_last : (line : List ℕ) → All (λ b. b ≢ 10) line → line ≢ [] → lines_of line ≡ line ∷ []
line_last [] lacks some = absurd (some refl)
line_last (b ∷ bs) lacks some = ap lines_in (slice_split_none is_lf (b ∷ bs) (All-weaker (λ b. b ≢ 10) (λ b. is_lf b ≡ false) (λ b. ne_eqb b 10) (b ∷ bs) lacks))
