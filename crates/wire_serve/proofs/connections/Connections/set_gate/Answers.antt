use Rattle.std.proofs.Common.{◌≡◌, [], ◌∷◌, Some, refl, sym}
use Rattle.slab.specs.Slab.{get}
use Rattle.slab.proofs.SlabLemmas.{Updates-with_value}
use Rattle.wire_serve.specs.Connections.{Acts}
use Rattle.wire_serve.specs.Slots.{SetsGate}
use Rattle.wire_serve.proofs.connections.Connections.set_gate.Goals as goal

pub returns-clause-gated : goal.returns-clause-gated
returns-clause-gated g c =
    let slots = c.args.self.now.slots in
    let at : get slots c.args.key ≡ Some c.in-Some.gated.now = sym c.in-Some.ensures.value in (
      c.in-Some.gated.now,
      c.set_gate.new.self,
      at,
      Updates-with_value slots c.args.key c.set_gate.new.self (rw at refl),
      c.set_gate.ensures.idle,
      c.set_gate.ensures.gate,
    )

pub returns-clause-act : goal.returns-clause-act
returns-clause-act g c =
    let slots = c.args.self.now.slots in
    let slot = c.in-Some.gated.now in
    let at : get slots c.args.key ≡ Some slot = sym c.in-Some.ensures.value in (
      Acts c.args.key slot.conn.server.connection (SetsGate ∷ []),
      record {
        slot = slot;
        at = at;
        number = refl;
        after = c.set_gate.new.self;
        slots = Updates-with_value slots c.args.key c.set_gate.new.self (rw at refl);
        run = (c.set_gate.new.self, c.args.self.now.logged, (c.set_gate.ensures.idle, refl), (refl, refl));
        next = refl;
      },
    )
