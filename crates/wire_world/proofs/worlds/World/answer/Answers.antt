use Rattle.std.proofs.Common.{◌≡◌, ◌∙◌, ap, map, refl, Some, inl, inr}
use Rattle.wire_model.specs.{Conn, conn_at, dropped, is_closed}
use Rattle.wire_model.specs.declared.events.Event.TheVariants as events
use Rattle.wire_world.specs.Worlds.{WorldSeen}
use Rattle.wire_world.proofs.Answered.{answer_passes, is_answered, is_unanswered, not_closed, not_missing}
use Rattle.wire_world.proofs.Found.{at_place, read_by}
use Rattle.wire_world.proofs.StayParts.{parts_placed}
use Rattle.wire_peer.specs.{log_of}
use Rattle.wire_world.specs.Records.{record_of}
use Rattle.wire_world.proofs.Moved.{is_dropped}
use Rattle.wire_world.proofs.worlds.World.answer.Goals as goal

pub invariant_of-self : goal.invariant_of-self
invariant_of-self g c =
    rw c.requires.place (record {
      parts = let k = c.index_mut-connection.result.now in
          let at : conn_at c.self.inside.connections.items c.args.number ≡ Some k = read_by (events.Answer c.args.number c.args.k) c.args.number k c.self.view_is refl c.requires.passes (at_place _ c.index_mut-connection.result.now c.requires.place c.index_mut-connection.ensures.value) in
          parts_placed c.self.inside.limits c.self.inside.pool c.self.inside.connections.items _ c.args.number k c.answer.new.self at (ap (λ (z : Conn). is_closed z.client.state) c.answer.ensures.others) c.self.invariant.parts;
      rooms = c.self.invariant.rooms;
    })

pub invariant_of-self-in-Err-NowClosed : goal.invariant_of-self-in-Err-NowClosed
invariant_of-self-in-Err-NowClosed g c =
    rw c.requires.place (record {
      parts = let k = c.index_mut-connection.result.now in
          let at : conn_at c.self.inside.connections.items c.args.number ≡ Some k = read_by (events.Answer c.args.number c.args.k) c.args.number k c.self.view_is refl c.requires.passes (at_place _ c.index_mut-connection.result.now c.requires.place c.index_mut-connection.ensures.value) in
          parts_placed c.self.inside.limits c.self.inside.pool c.self.inside.connections.items _ c.args.number k c.answer.new.self at (ap (λ (z : Conn). is_closed z.client.state) c.answer.ensures.others) c.self.invariant.parts;
      rooms = c.self.invariant.rooms;
    })

pub unreachable-requires : goal.unreachable-requires
unreachable-requires g c =
    let k = c.index_mut-connection.result.now in
    let at : conn_at c.self.inside.connections.items c.args.number ≡ Some k = read_by (events.Answer c.args.number c.args.k) c.args.number k c.self.view_is refl c.requires.passes (at_place _ c.index_mut-connection.result.now c.requires.place c.index_mut-connection.ensures.value) in
    let passes = answer_passes c.args.number c.args.k k c.self.view_is c.requires.passes at in
    not_closed g.H.Handler.does g.H.Handler.stops c.args.k k.server c.answer.new.self.server c.self.inside.logged.handler c.answer.new.logged.handler _ _ passes.0 (rw c.in-Err-Closed.field-0-is at c.in-Err-Closed.ensures.answered)

pub unreachable-requires-in-Err-NoSuchRequest : goal.unreachable-requires-in-Err-NoSuchRequest
unreachable-requires-in-Err-NoSuchRequest g c =
    let k = c.index_mut-connection.result.now in
    let at : conn_at c.self.inside.connections.items c.args.number ≡ Some k = read_by (events.Answer c.args.number c.args.k) c.args.number k c.self.view_is refl c.requires.passes (at_place _ c.index_mut-connection.result.now c.requires.place c.index_mut-connection.ensures.value) in
    let passes = answer_passes c.args.number c.args.k k c.self.view_is c.requires.passes at in
    not_missing g.H.Handler.does g.H.Handler.stops c.args.k k.server c.answer.new.self.server c.self.inside.logged.handler c.answer.new.logged.handler _ _ passes.1 (rw c.in-Err-NoSuchRequest.field-0-is at c.in-Err-NoSuchRequest.ensures.answered)

pub returns-in-Ok-clause-state : goal.returns-in-Ok-clause-state
returns-in-Ok-clause-state g c =
    rw c.requires.place (let k = c.index_mut-connection.result.now in
    let at : conn_at c.self.inside.connections.items c.args.number ≡ Some k = read_by (events.Answer c.args.number c.args.k) c.args.number k c.self.view_is refl c.requires.passes (at_place _ c.index_mut-connection.result.now c.requires.place c.index_mut-connection.ensures.value) in
    (c.requires.passes, inl (c.in-Ok.entry, refl, is_answered g.H.Handler.does g.H.Handler.stops c.args.number c.args.k k c.answer.new.self c.answer.new.logged.handler c.answer.new.logged.entries.items c.self.view_is at c.answer.ensures.others _ c.in-Ok.ensures.answered)))

pub returns-in-Err-NowClosed-clause-state : goal.returns-in-Err-NowClosed-clause-state
returns-in-Err-NowClosed-clause-state g c =
    rw c.requires.place (let k = c.index_mut-connection.result.now in
    let at : conn_at c.self.inside.connections.items c.args.number ≡ Some k = read_by (events.Answer c.args.number c.args.k) c.args.number k c.self.view_is refl c.requires.passes (at_place _ c.index_mut-connection.result.now c.requires.place c.index_mut-connection.ensures.value) in (
      c.requires.passes,
      inr (
        c.in-Err-NowClosed.cause,
        refl,
        is_answered g.H.Handler.does g.H.Handler.stops c.args.number c.args.k k c.answer.new.self c.answer.new.logged.handler c.answer.new.logged.entries.items c.self.view_is at c.answer.ensures.others _
            (rw c.in-Err-NowClosed.field-0-is at c.in-Err-NowClosed.ensures.answered),
      ),
    ))

pub returns-in-Err-OutOfMemory-clause-state : goal.returns-in-Err-OutOfMemory-clause-state
returns-in-Err-OutOfMemory-clause-state g c =
    let k = c.index_mut-connection.result.now in
    let at : conn_at c.self.inside.connections.items c.args.number ≡ Some k = read_by (events.Answer c.args.number c.args.k) c.args.number k c.self.view_is refl c.requires.passes (at_place _ c.index_mut-connection.result.now c.requires.place c.index_mut-connection.ensures.value) in
    let same = is_unanswered g.H.Handler.does g.H.Handler.stops c.args.number c.args.k k c.answer.new.self c.answer.new.logged.handler c.answer.new.logged.entries.items c.self.view_is at c.answer.ensures.others
    (rw c.in-Err-OutOfMemory.field-0-is at c.in-Err-OutOfMemory.ensures.answered) in (
      c.requires.passes,
      inr (record {
        c = c.args.number;
        is = refl;
        done = c.args.self.now.state;
        part = refl;
        after = is_dropped (record { pool = c.self.inside.pool; conns = c.self.inside.connections.items; calls = map record_of c.self.inside.calls.items; log = log_of c.answer.new.logged.entries.items; handler = c.answer.new.logged.handler }) c.args.number c.args.at c.answer.new.self c.drop_connection.new.self.state c.requires.place
            (ap (λ (v : WorldSeen _). v.state) c.drop_connection.ensures) ∙ ap (λ w. dropped w c.args.number) same;
      }),
    )
