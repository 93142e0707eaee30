use Rattle.std.proofs.Common.{ap}
use Rattle.wire_pool.specs.{PoolSeen}
use Rattle.wire_world.proofs.Parts.{length-written, settling_parts}
use Rattle.wire_world.proofs.worlds.World.clear.Goals as goal

pub invariant_of-self : goal.invariant_of-self
invariant_of-self g c = record {
  parts = settling_parts _ c.self.inside.pool c.clear.new.self c.self.inside.connections.items _ c.deref.result.now _ c.self.inside.calls.items c.deref_mut-2.result.now c.settle.new.calls c.self.inside.calls.items
      c.self.invariant.parts (ap (λ (p : PoolSeen). p.next) c.clear.ensures, ap (λ (p : PoolSeen). p.closed) c.clear.ensures)
      (length-written _ c.self.inside.connections.items _ c.cut_all.new.connections c.self.inside.connections.items c.deref_mut.ensures.value c.deref_mut.ensures.len c.cut_all.auto.connections)
      c.deref.ensures.value c.deref_mut-2.ensures.value c.deref_mut-2.ensures.len c.settle.auto.calls c.settle.ensures;
  rooms = c.self.invariant.rooms;
}
