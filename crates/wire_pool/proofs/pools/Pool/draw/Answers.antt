use Rattle.std.proofs.Common.{◌≡◌, Some, rules}
use Rattle.wire_pool.proofs.PoolLaws.{newer_than}
use Rattle.wire_pool.proofs.pools.Pool.draw.Goals as goal

pub returns-clause-newer : goal.returns-clause-newer
returns-clause-newer c =
    let is : c.self.inside.next ≡ Some c.in_ok-id.id = search rules in
    rw (← c.self.view_is) (newer_than c.self.inside.next c.in_ok-id.id is c.self.inside.idle.items c.self.inside.lent.items c.self.invariant.idle_given c.self.invariant.lent_given)
