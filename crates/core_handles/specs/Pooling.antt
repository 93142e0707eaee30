-- What is done with the pool of a handle, as a caller gets it.
use Rattle.std.specs.Prelude.{◌≡◌, ◌≢◌, ℕ, Bool, true, false, Option, None, Ok, Err}
use Rattle.wire_pool.specs.{IsNewPool, PoolSeen, checked_in, checked_out}
use Rattle.wire_pool.specs.declared.pool_answers.CheckIn.{CheckIn}
use Rattle.wire_pool.specs.declared.pool_answers.CheckIn.TheVariants.{Kept, Dropped, NotLent}
use Rattle.wire_pool.specs.declared.pool_answers.CheckOut.{CheckOut}
use Rattle.wire_pool.specs.declared.pool_answers.CheckOut.TheVariants.{Use, Open, Full, PoolClosed}
use Rattle.wire_pool.specs.declared.pool_answers.PoolRefusal.{PoolRefusal}
use Rattle.core_handles.specs.declared.cores.Core.{Core}
use Rattle.core_handles.specs.declared.cores.Core.TheVariants.{Pool}
use Rattle.core_handles.specs.declared.pool_answers.CheckedIn.{CheckedIn}
use Rattle.core_handles.specs.declared.pool_answers.CheckedOut.{CheckedOut}
use Rattle.core_handles.specs.Making.{IsPut}
use Rattle.core_handles.specs.Numbers.{pool_number}

-- A new pool is put into a handle of no core, or there is no memory for it; or the greatest number
-- of connections is out of range, or the handle has a core, and nothing changes.
pub data IsPoolMade (max : ℕ) (old new : Option Core) : ℕ → Type 0 where
  is_put : {w : ℕ} (p : PoolSeen) → old ≡ None → IsNewPool max (Ok p) → IsPut (Pool p) new w
      → IsPoolMade max old new w
  is_refused : {w : ℕ} (e : PoolRefusal) → old ≡ None → IsNewPool max (Err e) → new ≡ None
      → w ≡ pool_number e → IsPoolMade max old new w
  in_use : {w : ℕ} → old ≢ None → new ≡ old → w ≡ 9 → IsPoolMade max old new w

-- ---- connections that are lent

-- this connection is lent
abbrev pub lent : Bool → ℕ → CheckedOut
lent is_new id = record { refusal = 0; is_new = is_new; id = id }

-- the result of a check out that lends no connection, for the reason of this number
abbrev pub none_lent : ℕ → CheckedOut
none_lent n = record { refusal = n; is_new = false; id = 0 }

-- the answer to a check out, as a caller gets it
abbrev pub out_told : CheckOut → CheckedOut
out_told (Use id) = lent false id
out_told (Open id) = lent true id
out_told Full = none_lent 11
out_told PoolClosed = none_lent 1

-- what a caller is told of a check out, and the pool after it
abbrev pub IsCheckedOut : PoolSeen → PoolSeen → CheckedOut → Type 0
IsCheckedOut p after w = (w ≡ out_told (checked_out p).0) × (after ≡ (checked_out p).1)

-- ---- connections that come back

-- the connection is taken back, and kept or dropped
abbrev pub taken_back : Bool → CheckedIn
taken_back kept = record { refusal = 0; kept = kept }

-- the result of a check in that takes no connection back, for the reason of this number
abbrev pub none_back : ℕ → CheckedIn
none_back n = record { refusal = n; kept = false }

-- the answer to a check in, as a caller gets it
abbrev pub in_told : CheckIn → CheckedIn
in_told Kept = taken_back true
in_told Dropped = taken_back false
in_told NotLent = none_back 12

-- what a caller is told of a check in of this connection, healthy or not, and the pool after it
abbrev pub IsCheckedIn : PoolSeen → ℕ → Bool → PoolSeen → CheckedIn → Type 0
IsCheckedIn p id healthy after w =
    (w ≡ in_told (checked_in p id healthy).0) × (after ≡ (checked_in p id healthy).1)
