-- Bytes that are put into the room of a caller.
use Rattle.std.specs.Prelude.{ℕ, ◌+◌, List, ◌++◌, drop, length, take}

-- the room with these bytes from an offset on, in place of as many
abbrev pub placed : ℕ → List ℕ → List ℕ → List ℕ
placed at part room = take at room ++ (part ++ drop (at + length part) room)
