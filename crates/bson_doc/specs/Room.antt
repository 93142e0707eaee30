-- How much of a limit is left behind bytes.
use Rattle.std.specs.Prelude.{◌≡◌, ◌+◌, ◌<◌, ◌≤◌, ℕ, Option, Some, None}

-- what is left of the room behind bytes of this length: none where they are more
abbrev pub IsRoomLeft : ℕ → ℕ → Option ℕ → Type 0
IsRoomLeft room count None = room < count
IsRoomLeft room count (Some left) = left + count ≡ room

-- the length, where it is within the limit
abbrev pub IsLengthWithin : ℕ → ℕ → Option ℕ → Type 0
IsLengthWithin limit len None = limit < len
IsLengthWithin limit len (Some found) = (found ≡ len) × (len ≤ limit)
