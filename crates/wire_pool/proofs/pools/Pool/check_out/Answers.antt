use Rattle.std.proofs.Common.{ℕ, ◌<◌, All, subst}
use Rattle.wire_pool.specs.Pools.{known_ids}
use Rattle.wire_pool.proofs.PoolLaws.{newer_than, same_id}
use Rattle.wire_pool.proofs.pools.Pool.check_out.Goals as goal

pub returns-clause-newer : goal.returns-clause-newer
returns-clause-newer c = λ id e.
    subst (λ (new : ℕ). All (λ (known : ℕ). known < new) (known_ids c.args.self.now)) (same_id c.in-Some-next.id id e)
    (rw (← c.self.view_is) (newer_than c.self.inside.next c.in-Some-next.id c.in-Some-next.is c.self.inside.idle.items c.self.inside.lent.items c.self.invariant.idle_given c.self.invariant.lent_given))
