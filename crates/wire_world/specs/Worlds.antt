-- How a world keeps what it holds.
use Rattle.std.specs.Prelude.{◌≡◌, ◌≤◌, All, false, List, length, map}
use Rattle.wire_pool.specs.{PoolSeen, id_after}
use Rattle.wire_model.specs.{AreGood, Conn, Record, World, settled_record}
use Rattle.wire_model.specs.declared.limits.WorldLimits.{WorldLimits}

-- What a caller sees of a world: the limits with which it was made, and its state.
pub record WorldSeen (H : Type 0) : Type 0 where
  pub limits : WorldLimits
  pub state : World H

-- The parts belong together: the pool is open, as many connections were made as ids were given,
-- each call is over one of them, and no pending call has a closed client.
pub record AreParts (limits : WorldLimits) (pool : PoolSeen) (conns : List Conn)
    (calls : List Record) : Type 0 where
  pub limits_are : AreGood limits
  pub is_open : pool.closed ≡ false
  pub next_is : pool.next ≡ id_after (length conns)
  pub made : All (λ (x : Record). x.connection ≤ length conns) calls
  pub settled_are : map (settled_record conns) calls ≡ calls
