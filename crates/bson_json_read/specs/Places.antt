-- Lines and columns of a text in UTF-8.
use Rattle.std.specs.Prelude.{◌≡◌, ℕ, suc, ◌+◌, ◌≤◌, List, [], ◌∷◌, length, take, Bool, nat_le}
use Rattle.std.specs.Prelude.{nat_lt, not, ◌==◌, ◌&&◌, if◌then◌else◌}

-- the byte goes on with a character
abbrev pub goes_on : ℕ → Bool
goes_on b = nat_le 128 b && nat_lt b 192

-- a character begins with the byte
abbrev pub begins : ℕ → Bool
begins b = not (goes_on b)

-- how many characters begin in these bytes
abbrev pub characters : List ℕ → ℕ
characters [] = 0
characters (b ∷ bs) = if goes_on b then characters bs else suc (characters bs)

-- The line and the column behind these bytes, which begin at this line and this column. A line ends
-- behind a line feed, and a column is a character.
abbrev pub place_behind : ℕ → ℕ → List ℕ → ℕ × ℕ
place_behind line column [] = (line, column)
place_behind line column (b ∷ bs) =
    if b == 10 then place_behind (line + 1) 1 bs
    else if goes_on b then place_behind line column bs
    else place_behind line (column + 1) bs

-- the place stands in the text, or behind its last byte
abbrev pub StandsIn : List ℕ → ℕ → ℕ → Type 0
StandsIn text line column =
    (offset : ℕ) × (offset ≤ length text)
    × ((line, column) ≡ place_behind 1 1 (take offset text))
