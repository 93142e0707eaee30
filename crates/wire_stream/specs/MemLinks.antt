-- A link in memory.
use Rattle.std.specs.Prelude.{ℕ, zero, suc, List, min, Option, Some, None, Bool, true, false}

-- What a caller sees of a link in memory: the bytes that were received, those that are left to
-- receive, the bytes that were sent, how many more may be sent, how many bytes a call moves at
-- most, after how many more calls one fails, if one does, how many calls failed, and how many
-- returned the end.
pub record Memory : Type 0 where
  pub received : List ℕ
  pub left : List ℕ
  pub sent : List ℕ
  pub room : ℕ
  pub most : ℕ
  pub fails_after : Option ℕ
  pub failures : ℕ
  pub ends : ℕ

-- the number of bytes that a call moves: the least of how many it may move, how many are asked for,
-- and how many are there
abbrev pub moved : ℕ → ℕ → ℕ → ℕ
moved most wanted there = min (min wanted there) most

-- the call is the one that fails
abbrev pub is_due : Option ℕ → Bool
is_due None = false
is_due (Some zero) = true
is_due (Some (suc k)) = false

-- one call fewer comes before the one that fails
abbrev pub one_less : Option ℕ → Option ℕ
one_less None = None
one_less (Some zero) = None
one_less (Some (suc k)) = Some k
