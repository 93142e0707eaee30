use Rattle.std.proofs.Common.{◌≡◌, ◌∙◌, ◌++◌, ◌∷◌, [], List, ap, map, subst, sym}
use Rattle.wire_pool.specs.declared.pool_answers.CheckOut.TheVariants.{Open}
use Rattle.wire_model.specs.{Conn}
use Rattle.wire_world.specs.Records.{record_of}
use Rattle.wire_world.specs.Worlds.{AreParts}
use Rattle.wire_world.proofs.FairRooms.{fair_added}
use Rattle.wire_world.proofs.Parts.{opened_parts}
use Rattle.wire_world.proofs.Pooled.{Gave, gave, given_as}
use Rattle.wire_world.proofs.worlds.World.open.Goals as goal

pub invariant_of-self-in-Open : goal.invariant_of-self-in-Open
invariant_of-self-in-Open g c =
    let pool = c.self.inside.pool in
    let pool' = c.check_out-in-Open.new.self in
    let calls = map record_of c.self.inside.calls.items in
    let gives : Gave pool (Open c.in-Open.connection, pool') = subst (Gave pool) (given_as pool pool' c.peek.result c.check_out-in-Open.result (Open c.in-Open.connection) c.peek.ensures c.in-Open.is c.check_out-in-Open.ensures.step) (gave pool) in
    let items : c.push_reserved.new.self.items ≡ c.self.inside.connections.items ++ c.in-Ok.opened ∷ [] =
    c.push_reserved.ensures.items ∙ ap (λ (ks : List Conn). ks ++ c.in-Ok.opened ∷ []) c.make_room.ensures.items in
    record {
      parts = subst (λ (ks : List Conn). AreParts c.self.inside.limits pool' ks calls) (sym items) (opened_parts _ pool pool' _ calls c.in-Open.connection c.in-Ok.opened c.self.invariant.parts gives.0 gives.1 gives.2);
      rooms = (
        fair_added c.self.inside.connections.len c.make_room.new.list.len c.push_reserved.new.self.len c.self.inside.connections.cap c.make_room.new.list.cap c.push_reserved.new.self.cap
            c.make_room.ensures.grown c.self.invariant.rooms.0 c.make_room.ensures.len c.push_reserved.ensures.len c.push_reserved.ensures.capacity,
        c.self.invariant.rooms.1,
      );
    }
