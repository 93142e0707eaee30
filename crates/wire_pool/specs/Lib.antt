pub mod Loans
pub mod Pools
pub mod PoolParts
pub mod PoolRuns
-- the words that clauses of other crates cite
pub use Rattle.wire_pool.specs.Loans.{cleared, lending, loan_of, without}
pub use Rattle.wire_pool.specs.PoolRuns.{PoolCall, IsRising, after_call, after_calls, drawn_id}
pub use Rattle.wire_pool.specs.PoolRuns.{given, given_by, opened, times_idle, times_known}
pub use Rattle.wire_pool.specs.PoolRuns.{times_lent}
pub use Rattle.wire_pool.specs.Pools.{IsGiven, IsNewPool, IsPoolMax, PoolSeen, checked_in}
pub use Rattle.wire_pool.specs.Pools.{checked_out, cleared_pool, closed_pool, drawn, id_after}
pub use Rattle.wire_pool.specs.Pools.{known_ids, new_pool, next_after, reset_pool}
