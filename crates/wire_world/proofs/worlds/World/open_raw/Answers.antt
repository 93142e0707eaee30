use Rattle.std.proofs.Common.{◌≡◌, ◌∙◌, ◌++◌, ◌∷◌, [], List, Some, ap, map, subst, sym}
use Rattle.wire_model.specs.{Conn}
use Rattle.wire_world.specs.Records.{record_of}
use Rattle.wire_world.specs.Worlds.{AreParts}
use Rattle.wire_world.proofs.FairRooms.{fair_added}
use Rattle.wire_world.proofs.Parts.{opened_parts}
use Rattle.wire_world.proofs.Pooled.{drawn_next}
use Rattle.wire_world.proofs.worlds.World.open_raw.Goals as goal

pub invariant_of-self-2 : goal.invariant_of-self-2
invariant_of-self-2 g c =
    let pool = c.self.inside.pool in
    let calls = map record_of c.self.inside.calls.items in
    let next : pool.next ≡ Some c.in-Some.number = sym c.next_id.ensures ∙ c.in-Some.is in
    let after = drawn_next pool c.draw.new.self c.in-Some.number next c.draw.ensures.step in
    let items : c.push_reserved.new.self.items ≡ c.self.inside.connections.items ++ c.in-Ok.connection ∷ [] =
    c.push_reserved.ensures.items ∙ ap (λ (ks : List Conn). ks ++ c.in-Ok.connection ∷ []) c.make_room.ensures.items in
    record {
      parts = subst (λ (ks : List Conn). AreParts c.self.inside.limits c.draw.new.self ks calls) (sym items) (opened_parts _ pool c.draw.new.self _ calls c.in-Some.number c.in-Ok.connection c.self.invariant.parts next after.0 after.1);
      rooms = (
        fair_added c.self.inside.connections.len c.make_room.new.list.len c.push_reserved.new.self.len c.self.inside.connections.cap c.make_room.new.list.cap c.push_reserved.new.self.cap
            c.make_room.ensures.grown c.self.invariant.rooms.0 c.make_room.ensures.len c.push_reserved.ensures.len c.push_reserved.ensures.capacity,
        c.self.invariant.rooms.1,
      );
    }
