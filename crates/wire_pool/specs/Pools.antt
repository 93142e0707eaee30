-- What a pool holds, and what its calls do to that.
use Rattle.std.specs.Prelude.{◌≡◌, ℕ, ◌+◌, ◌-◌, ◌^◌, ◌<◌, ◌≤◌, ◌⊎◌, ⊤, Bool, true, false, ◌&&◌, not}
use Rattle.std.specs.Prelude.{if◌then◌else◌, ◌==◌, nat_lt, List, [], ◌∷◌, ◌++◌, length, map, Option}
use Rattle.std.specs.Prelude.{Some, None, Result, Ok, Err}
use Rattle.wire_pool.specs.declared.loans.Loan.{Loan}
use Rattle.wire_pool.specs.declared.pool_answers.CheckIn.{CheckIn}
use Rattle.wire_pool.specs.declared.pool_answers.CheckIn.TheVariants.{Kept, Dropped, NotLent}
use Rattle.wire_pool.specs.declared.pool_answers.CheckOut.{CheckOut}
use Rattle.wire_pool.specs.declared.pool_answers.CheckOut.TheVariants.{Use, Open, Full, PoolClosed}
use Rattle.wire_pool.specs.declared.pool_answers.PoolRefusal.{PoolRefusal}
use Rattle.wire_pool.specs.declared.pool_answers.PoolRefusal.TheVariants.{BadMax, OutOfMemory}
use Rattle.wire_pool.specs.Loans.{cleared, lending, loan_of, without}

-- What a caller sees of a pool: how many connections it may have; the ids of the idle ones, the
-- most recently returned first; the lent ones, in the order in which they were lent; the next new
-- id, if one is left; and whether it is closed.
pub record PoolSeen : Type 0 where
  pub max : ℕ
  pub idle : List ℕ
  pub lent : List Loan
  pub next : Option ℕ
  pub closed : Bool

-- ---- a new pool

-- the most connections that a pool may have: 1 to 1,024
abbrev pub IsPoolMax : ℕ → Type 0
IsPoolMax max = (1 ≤ max) × (max ≤ 1024)

-- a pool that has lent nothing
abbrev pub new_pool : ℕ → PoolSeen
new_pool max = record { max = max; idle = []; lent = []; next = Some 1; closed = false }

-- the result of making a pool with this limit
abbrev pub IsNewPool : ℕ → Result PoolSeen PoolRefusal → Type 0
IsNewPool max (Ok p) = IsPoolMax max × (p ≡ new_pool max)
IsNewPool max (Err BadMax) = (max < 1) ⊎ (1024 < max)
IsNewPool max (Err OutOfMemory) = IsPoolMax max

-- ---- new ids

-- the id after this one; the greatest is 18,446,744,073,709,551,615
abbrev pub id_after : ℕ → Option ℕ
id_after id = if id == 2 ^ 64 - 1 then None else Some (id + 1)

-- the next id once this one is given
abbrev pub next_after : Option ℕ → Option ℕ
next_after None = None
next_after (Some id) = id_after id

-- the next id is given, and nothing is lent
abbrev pub drawn : PoolSeen → PoolSeen
drawn p = record p { next = next_after p.next }

-- ---- connections that are lent

-- a new connection is lent, if an id is left and fewer are lent than allowed
abbrev pub open_new : PoolSeen → Option ℕ → CheckOut × PoolSeen
open_new p None = (Full, p)
open_new p (Some id) =
    if nat_lt (length p.lent) p.max
    then (Open id, record p { lent = p.lent ++ lending id ∷ []; next = id_after id })
    else (Full, p)

-- the most recently returned idle connection is lent, if there is one, and otherwise a new one
abbrev pub lend : PoolSeen → List ℕ → CheckOut × PoolSeen
lend p [] = open_new p p.next
lend p (id ∷ idle) = (Use id, record p { idle = idle; lent = p.lent ++ lending id ∷ [] })

-- the answer to a check out, and the pool after it
abbrev pub checked_out : PoolSeen → CheckOut × PoolSeen
checked_out p = if p.closed then (PoolClosed, p) else lend p p.idle

-- ---- connections that come back

-- the loan ends; the connection becomes idle if it is healthy, the pool is open, and the pool
-- wasn't cleared since it was lent
abbrev pub take_back : PoolSeen → ℕ → Bool → Option Loan → CheckIn × PoolSeen
take_back p id healthy None = (NotLent, p)
take_back p id healthy (Some loan) =
    if healthy && (not p.closed && not loan.cleared)
    then (Kept, record p { idle = id ∷ p.idle; lent = without id p.lent })
    else (Dropped, record p { lent = without id p.lent })

-- the answer to a check in, and the pool after it
abbrev pub checked_in : PoolSeen → ℕ → Bool → CheckIn × PoolSeen
checked_in p id healthy = take_back p id healthy (loan_of id p.lent)

-- ---- the pool as a whole

-- the idle connections are dropped, and each lent one is dropped when it is returned
abbrev pub cleared_pool : PoolSeen → PoolSeen
cleared_pool p = record p { idle = []; lent = map cleared p.lent }

-- the idle connections are dropped, and none is lent from now on; those that are lent stay lent
abbrev pub closed_pool : PoolSeen → PoolSeen
closed_pool p = record p { idle = []; closed = true }

-- the idle and the lent connections are forgotten, and the next id stays the same
abbrev pub reset_pool : PoolSeen → PoolSeen
reset_pool p = record p { idle = []; lent = [] }

-- ---- ids that were given

-- the ids of the connections that the pool holds or has lent
abbrev pub known_ids : PoolSeen → List ℕ
known_ids p = p.idle ++ map (λ loan. loan.id) p.lent

-- the id was given before this next one
abbrev pub IsGiven : Option ℕ → ℕ → Type 0
IsGiven None id = ⊤
IsGiven (Some next) id = id < next
