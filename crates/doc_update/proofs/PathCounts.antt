-- How many steps a path has.
use Rattle.std.proofs.Common.{◌≡◌, ◌≤◌, ℕ, ◌+◌, List, length, take, ap, sym, ◌∙◌, arith}
use Rattle.std.specs.Prelude.{◌==◌, nat_le, nat_lt}
use Rattle.std.specs.List.{count_by}
use Rattle.std.proofs.lemmas.Bool.Decides.{nat_tests}
use Rattle.std.proofs.lemmas.List.{take_all}
use Rattle.std.proofs.lemmas.List.Splits.{length-slice_split}
use Rattle.doc_query.specs.{steps}

-- a step stands before each dot, and one behind them all
pub steps_count : (path : List ℕ) → length (steps path) ≡ count_by (λ b. b == 46) path + 1
steps_count path = length-slice_split (λ b. b == 46) path

above : (dots n : ℕ) → n ≡ dots + 1 → nat_le 200 dots ≡ nat_lt 200 n
above dots n e = grind (arith, nat_tests)

pub many_steps : (path : List ℕ) (i dots : ℕ) → length path ≤ i → count_by (λ b. b == 46) (take i path) ≡ dots → nat_le 200 dots ≡ nat_lt 200 (length (steps path))
many_steps path i dots past e =
    above dots (length (steps path))
    (steps_count path ∙ ap (λ (n : ℕ). n + 1) (ap (count_by (λ b. b == 46)) (sym (take_all i path past)) ∙ e))
