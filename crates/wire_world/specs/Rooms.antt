-- The room of lists that grow.
use Rattle.std.specs.Prelude.{ℕ, ◌+◌, ◌≤◌, max}

-- a list of `count` elements has room for at most as many more, or for four more if it has fewer
abbrev pub IsFair : (count room : ℕ) → Type 0
IsFair count room = room ≤ count + max count 4
