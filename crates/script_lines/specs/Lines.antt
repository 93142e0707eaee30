-- The lines of a script, and which of them are read.
use Rattle.std.specs.Prelude.{ℕ, ◌+◌, ◌-◌, ◌==◌, Bool, true, not, if◌then◌else◌, List, [], ◌∷◌}
use Rattle.std.specs.Prelude.{length, slice_index, take}
use Rattle.std.specs.List.{filter, slice_split}

-- ---- lines

abbrev pub is_lf : ℕ → Bool
is_lf b = b == 10

-- the bytes of a line before its LF, without the CR at their end, if there is one
abbrev pub without_cr : List ℕ → List ℕ
without_cr line =
    if slice_index line (length line - 1) == 13 then take (length line - 1) line else line

-- the last line, which has no LF; there is none if it is empty
abbrev pub last_line : List ℕ → List (List ℕ)
last_line [] = []
last_line (b ∷ bs) = (b ∷ bs) ∷ []

-- the lines of a text that its LFs cut into these parts
abbrev pub lines_in : List (List ℕ) → List (List ℕ)
lines_in [] = []
lines_in (part ∷ []) = last_line part
lines_in (part ∷ next ∷ parts) = without_cr part ∷ lines_in (next ∷ parts)

-- the lines of a text
abbrev pub lines_of : List ℕ → List (List ℕ)
lines_of text = lines_in (slice_split is_lf text)

-- ---- those that are read

-- an empty line, or one that begins with #
abbrev pub is_passed_over : List ℕ → Bool
is_passed_over [] = true
is_passed_over (b ∷ bs) = b == 35

-- each line with its number, where the first one has this number
abbrev pub numbered : ℕ → List (List ℕ) → List (ℕ × List ℕ)
numbered n [] = []
numbered n (line ∷ lines) = (n, line) ∷ numbered (n + 1) lines

-- the lines of a text that aren't passed over, each with its number among all lines, which count
-- from this number
abbrev pub lines_from : ℕ → List ℕ → List (ℕ × List ℕ)
lines_from n text = filter (λ x. not (is_passed_over x.1)) (numbered n (lines_of text))

-- the lines of a script that are read, each with its number among all lines, which count from 1
abbrev pub script_lines : List ℕ → List (ℕ × List ℕ)
script_lines text = lines_from 1 text
