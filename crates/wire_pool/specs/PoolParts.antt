-- How a pool keeps what it holds.
use Rattle.std.specs.Prelude.{◌≡◌, ℕ, ◌+◌, ◌≤◌, All, Bool, length, Option}
use Rattle.std.specs.Vec.{vec_capacity}
use Rattle.std.specs.VecDeque.{deque_capacity}
use Rattle.std.specs.declared.alloc.Global.{Global}
use Rattle.std.specs.declared.collections.VecDeque.{VecDeque}
use Rattle.std.specs.declared.vec.Vec.{Vec}
use Rattle.wire_pool.specs.declared.loans.Loan.{Loan}
use Rattle.wire_pool.specs.Pools.{IsGiven, PoolSeen}

-- what a caller sees of these parts
abbrev pub view_of : ℕ → VecDeque ℕ Global → Vec Loan Global → Option ℕ → Bool → PoolSeen
view_of max idle lent next closed =
    record { max = max; idle = idle.items; lent = lent.items; next = next; closed = closed }

-- The parts belong together: the pool has no more connections than allowed, each list has room for
-- exactly that many, and all ids were given.
pub record AreParts (max : ℕ) (idle : VecDeque ℕ Global) (lent : Vec Loan Global) (next : Option ℕ)
    (closed : Bool) : Type 0 where
  pub within : length idle.items + length lent.items ≤ max
  pub idle_room : deque_capacity idle ≡ max
  pub lent_room : vec_capacity lent ≡ max
  pub idle_given : All (IsGiven next) idle.items
  pub lent_given : All (λ loan. IsGiven next loan.id) lent.items
