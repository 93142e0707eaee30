-- What an iterator over the lines of a script has left.
use Rattle.std.specs.Prelude.{◌≡◌, ℕ, ◌+◌, List, [], ◌∷◌, length, Option, Some, None}
use Rattle.script_lines.specs.declared.numbered_lines.Lines.{Lines}
use Rattle.script_lines.specs.declared.numbered_lines.NumberedLine.{NumberedLine}
use Rattle.script_lines.specs.Lines.{lines_from}

-- the lines that are left, each with its number
abbrev pub lines_left : Lines → List (ℕ × List ℕ)
lines_left s = lines_from (s.last + 1) s.rest.now

-- a bound on how many lines are left
abbrev pub lines_bound : Lines → ℕ
lines_bound s = length s.rest.now

-- the first of the lines left is returned, or `None` if none is left
abbrev pub GivesLine : Lines → Option NumberedLine → Lines → Type 0
GivesLine s None after = (lines_left s ≡ []) × (lines_left after ≡ [])
GivesLine s (Some line) after = lines_left s ≡ (line.number, line.text.now) ∷ lines_left after
