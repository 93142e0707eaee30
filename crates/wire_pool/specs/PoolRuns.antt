-- The ids that a pool gives over many calls.
use Rattle.std.specs.Prelude.{ℕ, ◌+◌, ◌<◌, ◌==◌, ⊤, All, Bool, if◌then◌else◌, List, [], ◌∷◌, ◌++◌}
use Rattle.std.specs.Prelude.{Option, Some, None}
use Rattle.wire_pool.specs.declared.loans.Loan.{Loan}
use Rattle.wire_pool.specs.declared.pool_answers.CheckOut.{CheckOut}
use Rattle.wire_pool.specs.declared.pool_answers.CheckOut.TheVariants.{Use, Open, Full, PoolClosed}
use Rattle.wire_pool.specs.Pools.{PoolSeen, checked_in, checked_out, cleared_pool, closed_pool}
use Rattle.wire_pool.specs.Pools.{drawn, reset_pool}

-- a call of a pool
pub data PoolCall : Type 0 where
  check_out : PoolCall
  check_in : ℕ → Bool → PoolCall
  clear : PoolCall
  close : PoolCall
  reset : PoolCall
  draw : PoolCall

-- the pool after a call
abbrev pub after_call : PoolSeen → PoolCall → PoolSeen
after_call p check_out = (checked_out p).1
after_call p (check_in id healthy) = (checked_in p id healthy).1
after_call p clear = cleared_pool p
after_call p close = closed_pool p
after_call p reset = reset_pool p
after_call p draw = drawn p

-- the new id that a check out gives, if it gives one
abbrev pub opened : CheckOut → List ℕ
opened (Use id) = []
opened (Open id) = id ∷ []
opened Full = []
opened PoolClosed = []

-- the id that is drawn, if one is
abbrev pub drawn_id : Option ℕ → List ℕ
drawn_id None = []
drawn_id (Some id) = id ∷ []

-- the new id that a call gives, if it gives one
abbrev pub given : PoolSeen → PoolCall → List ℕ
given p check_out = opened (checked_out p).0
given p (check_in id healthy) = []
given p clear = []
given p close = []
given p reset = []
given p draw = drawn_id p.next

-- the new ids that the calls give, one after another
abbrev pub given_by : PoolSeen → List PoolCall → List ℕ
given_by p [] = []
given_by p (call ∷ calls) = given p call ++ given_by (after_call p call) calls

-- each id is greater than all before it
abbrev pub IsRising : List ℕ → Type 0
IsRising [] = ⊤
IsRising (id ∷ ids) = All (λ later. id < later) ids × IsRising ids

-- the pool after the calls, one after another
abbrev pub after_calls : PoolSeen → List PoolCall → PoolSeen
after_calls p [] = p
after_calls p (call ∷ calls) = after_calls (after_call p call) calls

-- how often the connection with this id is among the idle ones, and among the lent ones
abbrev pub times_idle : ℕ → List ℕ → ℕ
times_idle id [] = 0
times_idle id (known ∷ idle) = (if known == id then 1 else 0) + times_idle id idle

abbrev pub times_lent : ℕ → List Loan → ℕ
times_lent id [] = 0
times_lent id (loan ∷ lent) = (if loan.id == id then 1 else 0) + times_lent id lent

-- how often the connection with this id is idle or lent
abbrev pub times_known : ℕ → PoolSeen → ℕ
times_known id p = times_idle id p.idle + times_lent id p.lent
