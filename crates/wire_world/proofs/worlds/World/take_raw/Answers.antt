use Rattle.std.proofs.Common.{◌≡◌, ap, map, refl, Some}
use Rattle.wire_model.specs.{Conn, conn_at, is_closed}
use Rattle.wire_model.specs.declared.events.Event.TheVariants as events
use Rattle.wire_world.specs.Worlds.{WorldSeen}
use Rattle.wire_world.proofs.Found.{at_place, numbered, read_by}
use Rattle.wire_world.proofs.Moved.{gives_out, is_dropped, take_runs_out}
use Rattle.wire_world.proofs.Numbered.{conn_set_place}
use Rattle.wire_world.proofs.StayParts.{parts_changed}
use Rattle.wire_peer.specs.{log_of}
use Rattle.wire_world.specs.Records.{record_of}
use Rattle.wire_world.proofs.worlds.World.take_raw.Goals as goal

pub invariant_of-self : goal.invariant_of-self
invariant_of-self g c =
    rw c.requires.place (record {
      parts = let k = c.index_mut-connection.result.now in
          let at : conn_at c.self.inside.connections.items c.args.number ≡ Some k = read_by (events.RawTake c.args.number c.args.n) c.args.number k c.self.view_is refl c.requires.passes (at_place _ c.index_mut-connection.result.now c.requires.place c.index_mut-connection.ensures.value) in
          rw (← conn_set_place c.self.inside.connections.items c.args.number c.give_raw.new.self (numbered _ c.args.number k at).0)
          (parts_changed _ _ _ _ c.args.number k c.give_raw.new.self at (ap (λ (z : Conn). is_closed z.client.state) c.in-Ok.ensures.given.1) c.self.invariant.parts);
      rooms = c.self.invariant.rooms;
    })

pub returns-in-Ok-clause-state : goal.returns-in-Ok-clause-state
returns-in-Ok-clause-state g c =
    rw c.requires.place (gives_out c.self.view_is c.args.number c.index_mut-connection.result.now c.give_raw.new.self (at_place _ c.index_mut-connection.result.now c.requires.place c.index_mut-connection.ensures.value) g.H.Handler.does g.H.Handler.stops c.args.n c.in-Ok.bytes c.requires.passes
    c.in-Ok.ensures.given.0 c.in-Ok.ensures.given.1)

pub returns-in-Err-clause-state : goal.returns-in-Err-clause-state
returns-in-Err-clause-state g c =
    take_runs_out c.self.view_is c.args.number c.index_mut-connection.result.now c.give_raw.new.self (at_place _ c.index_mut-connection.result.now c.requires.place c.index_mut-connection.ensures.value) c.args.n _ c.requires.passes
    c.in-Err.ensures.unchanged c.in-Err.ensures.some (is_dropped (record { pool = c.self.inside.pool; conns = c.self.inside.connections.items; calls = map record_of c.self.inside.calls.items; log = log_of c.self.inside.logged.entries.items; handler = c.self.inside.logged.handler }) c.args.number c.args.at c.give_raw.new.self c.drop_connection.new.self.state c.requires.place (ap (λ (u : WorldSeen _). u.state) c.drop_connection.ensures))
