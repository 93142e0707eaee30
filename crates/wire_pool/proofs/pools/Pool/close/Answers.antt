use Rattle.std.proofs.Common.{arith}
use Rattle.std.proofs.lemmas.List.Elements.{All-nil}
use Rattle.wire_pool.specs.Pools.{IsGiven}
use Rattle.wire_pool.proofs.pools.Pool.close.Goals as goal

pub invariant_of-self : goal.invariant_of-self
invariant_of-self c = record {
  within = rw c.clear.ensures.items (let old = c.self.invariant.within in omega (arith, old));
  idle_room = rw c.clear.ensures.capacity c.self.invariant.idle_room;
  lent_room = c.self.invariant.lent_room;
  idle_given = rw c.clear.ensures.items (All-nil (IsGiven c.self.inside.next));
  lent_given = c.self.invariant.lent_given;
}
