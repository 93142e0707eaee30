use Rattle.std.specs.Prelude.{◌++◌, ◌∷◌, [], List, map, length}
use Rattle.std.proofs.Common.{◌≡◌, ◌∙◌, ap, arith, refl, subst, sym, Some}
use Rattle.std.proofs.lemmas.Grind.{common_steps}
use Rattle.std.proofs.lemmas.List.{length-map}
use Rattle.wire_peer.specs.{content_of}
use Rattle.wire_peer.specs.declared.client_state.ClientState.TheVariants.{Open}
use Rattle.wire_model.specs.{Conn, Record, asked_as, conn_at, conn_set, is_closed, new_record}
use Rattle.wire_model.specs.declared.events.Event.TheVariants as events
use Rattle.wire_world.specs.Records.{record_of}
use Rattle.wire_world.specs.Worlds.{AreParts}
use Rattle.wire_world.proofs.Arms.{calls_ours}
use Rattle.wire_world.proofs.CallMade.{call_made}
use Rattle.wire_world.proofs.FairRooms.{fair_added}
use Rattle.wire_world.proofs.Found.{at_place, numbered, read_by}
use Rattle.wire_world.proofs.Numbered.{conn_set_place}
use Rattle.wire_world.proofs.StayParts.{conn_at_set, map_push, parts_called, parts_changed}
use Rattle.wire_world.proofs.worlds.World.make_call.Goals as goal

pub call-requires : goal.call-requires
call-requires g c =
    calls_ours c.args.number c.args.kind c.args.payload c.index_mut-connection.result.now c.self.view_is c.requires.passes (at_place _ c.index_mut-connection.result.now c.requires.place c.index_mut-connection.ensures.value)

pub invariant_of-self-2 : goal.invariant_of-self-2
invariant_of-self-2 g c =
    rw c.requires.place (let event = events.Call c.args.number c.args.kind c.args.payload in
    let k = c.index_mut-connection.result.now in
    let k' = c.call.new.self in
    let ks = c.self.inside.connections.items in
    let xs = map record_of c.self.inside.calls.items in
    let x : Record = new_record c.args.number (asked_as c.args.kind (content_of c.args.payload)) in
    let at : conn_at ks c.args.number ≡ Some k = read_by event c.args.number k c.self.view_is refl c.requires.passes (at_place _ c.index_mut-connection.result.now c.requires.place c.index_mut-connection.ensures.value) in
    let done = c.in_ok-call.ensures.called in
    let same : is_closed k'.client.state ≡ is_closed k.client.state = ap (λ (z : Conn). is_closed z.client.state) done.1 in
    let live : k'.client.state ≡ Open = ap (λ (z : Conn). z.client.state) done.1 ∙ done.0.0 in
    let changed = parts_changed c.self.inside.limits c.self.inside.pool ks xs c.args.number k k' at same c.self.invariant.parts in
    let called : AreParts c.self.inside.limits c.self.inside.pool (conn_set ks c.args.number k') (xs ++ x ∷ []) = parts_called _ _ (conn_set ks c.args.number k') xs x k' (conn_at_set ks c.args.number k k' at) live changed in
    let items : map record_of c.push_reserved.new.self.items ≡ xs ++ x ∷ [] =
    ap (map record_of) c.push_reserved.ensures.items ∙ map_push record_of c.make_room.new.list.items c.in-Ok.record
    ∙ ap (λ is. map record_of is ++ record_of c.in-Ok.record ∷ []) c.make_room.ensures.items ∙ ap (λ (r : Record). xs ++ r ∷ []) c.in-Ok.ensures in
    record {
      parts = subst (λ (ys : List Conn). AreParts c.self.inside.limits c.self.inside.pool ys (map record_of c.push_reserved.new.self.items)) (conn_set_place ks c.args.number k' (numbered ks c.args.number k at).0)
          (subst (λ (ys : List Record). AreParts c.self.inside.limits c.self.inside.pool (conn_set ks c.args.number k') ys) (sym items) called);
      rooms = (
        c.self.invariant.rooms.0,
        fair_added c.self.inside.calls.len c.make_room.new.list.len c.push_reserved.new.self.len c.self.inside.calls.cap c.make_room.new.list.cap c.push_reserved.new.self.cap
            c.make_room.ensures.grown c.self.invariant.rooms.1 c.make_room.ensures.len c.push_reserved.ensures.len c.push_reserved.ensures.capacity,
      );
    })

pub returns-clause-called : goal.returns-clause-called
returns-clause-called g c =
    rw c.requires.place (let event = events.Call c.args.number c.args.kind c.args.payload in
    let k = c.index_mut-connection.result.now in
    let k' = c.call.new.self in
    let ks = c.self.inside.connections.items in
    let xs = map record_of c.self.inside.calls.items in
    let x : Record = new_record c.args.number (asked_as c.args.kind (content_of c.args.payload)) in
    let at : conn_at ks c.args.number ≡ Some k = read_by event c.args.number k c.self.view_is refl c.requires.passes (at_place _ c.index_mut-connection.result.now c.requires.place c.index_mut-connection.ensures.value) in
    let done = c.in_ok-call.ensures.called in
    let items : map record_of c.push_reserved.new.self.items ≡ xs ++ x ∷ [] =
    ap (map record_of) c.push_reserved.ensures.items ∙ map_push record_of c.make_room.new.list.items c.in-Ok.record
    ∙ ap (λ is. map record_of is ++ record_of c.in-Ok.record ∷ []) c.make_room.ensures.items ∙ ap (λ (r : Record). xs ++ r ∷ []) c.in-Ok.ensures in
    let count : c.len.result ≡ length xs = let mapped = length-map c.self.inside.calls.items record_of in grind (arith, common_steps, mapped) in
    rw (← c.self.view_is) (call_made _ c.args.number c.args.kind (content_of c.args.payload) c.in_ok-call.call k k' x c.len.result _ _ at done.0 done.1 count refl
    (sym (conn_set_place ks c.args.number k' (numbered ks c.args.number k at).0)) items))
