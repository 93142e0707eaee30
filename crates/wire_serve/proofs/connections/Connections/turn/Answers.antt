use Rattle.std.proofs.Common.{◌≡◌, Some, refl, sym}
use Rattle.slab.specs.Slab.{get}
use Rattle.slab.proofs.SlabLemmas.{Updates-with_value}
use Rattle.wire_serve.specs.Connections.{Acts}
use Rattle.wire_serve.proofs.connections.Connections.turn.Goals as goal

pub returns-clause-turned : goal.returns-clause-turned
returns-clause-turned g c =
    let slots = c.args.self.now.slots in
    let at : get slots c.args.key ≡ Some c.in_ok-slot.slot.now = sym c.in_ok-slot.ensures.value in (
      c.in_ok-slot.slot.now,
      c.turn.new.self,
      at,
      Updates-with_value slots c.args.key c.turn.new.self (rw at refl),
      c.turn.ensures,
    )

pub returns-clause-act : goal.returns-clause-act
returns-clause-act g c =
    let slots = c.args.self.now.slots in
    let slot = c.in_ok-slot.slot.now in
    let at : get slots c.args.key ≡ Some slot = sym c.in_ok-slot.ensures.value in (
      Acts c.args.key slot.conn.server.connection c.turn.ensures.acts,
      record {
        slot = slot;
        at = at;
        number = refl;
        after = c.turn.new.self;
        slots = Updates-with_value slots c.args.key c.turn.new.self (rw at refl);
        run = c.turn.ensures.run;
        next = refl;
      },
    )
