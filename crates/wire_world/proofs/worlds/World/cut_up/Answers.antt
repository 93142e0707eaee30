use Rattle.std.proofs.Common.{◌≡◌, ap, refl, Some}
use Rattle.wire_model.specs.{Conn, conn_at, is_closed}
use Rattle.wire_model.specs.declared.events.Event.TheVariants as events
use Rattle.wire_world.proofs.Arms.{cuts_up}
use Rattle.wire_world.proofs.Found.{at_place, numbered, read_by}
use Rattle.wire_world.proofs.Numbered.{conn_set_place}
use Rattle.wire_world.proofs.StayParts.{parts_changed}
use Rattle.wire_world.proofs.worlds.World.cut_up.Goals as goal

pub invariant_of-self : goal.invariant_of-self
invariant_of-self g c =
    rw c.requires.place (record {
      parts = let k = c.index_mut-connection.result.now in
          let at : conn_at c.self.inside.connections.items c.args.number ≡ Some k = read_by (events.CutUp c.args.number) c.args.number k c.self.view_is refl c.requires.passes (at_place _ c.index_mut-connection.result.now c.requires.place c.index_mut-connection.ensures.value) in
          rw (← conn_set_place c.self.inside.connections.items c.args.number c.cut_up.new.self (numbered _ c.args.number k at).0)
          (parts_changed _ _ _ _ c.args.number k c.cut_up.new.self at (ap (λ (z : Conn). is_closed z.client.state) c.cut_up.ensures) c.self.invariant.parts);
      rooms = c.self.invariant.rooms;
    })

pub returns-clause-state : goal.returns-clause-state
returns-clause-state g c =
    rw c.requires.place (cuts_up c.args.number c.index_mut-connection.result.now c.cut_up.new.self c.self.view_is c.requires.passes (at_place _ c.index_mut-connection.result.now c.requires.place c.index_mut-connection.ensures.value) c.cut_up.ensures)
