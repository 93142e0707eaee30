-- The ids of requests (this project's profile: from 1 to 2,147,483,647, and then from 1 again).
use Rattle.std.specs.Prelude.{◌≡◌, ℕ, zero, suc, ◌-◌, ◌^◌, ◌<◌, ℤ, pos, ◌+ℤ◌, List, Contains}
use Rattle.std.specs.Prelude.{if◌then◌else◌}
use Rattle.std.specs.Ordering.{int_eq}

-- the greatest id
abbrev pub max_id : ℤ
max_id = pos (2 ^ 31 - 1)

-- the id after this one: 1 after the greatest
abbrev pub id_following : ℤ → ℤ
id_following id = if int_eq id max_id then pos 1 else id +ℤ pos 1

-- the id that is n places after this one
abbrev pub id_past : ℤ → ℕ → ℤ
id_past id zero = id
id_past id (suc k) = id_following (id_past id k)

-- The id is the first one from the next id on that isn't used.
pub record IsFirstFree (next : ℤ) (used : List ℤ) (id : ℤ) : Type 0 where
  pub places : ℕ
  pub is : id ≡ id_past next places
  pub free : Contains used id → ⊥
  pub before : (k : ℕ) → k < places → Contains used (id_past next k)
