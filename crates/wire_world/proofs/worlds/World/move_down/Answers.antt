use Rattle.std.specs.Prelude.{◌-◌, slice_set}
use Rattle.std.proofs.Common.{◌≡◌, ◌∙◌, ℕ, ap, map, refl, subst, sym, List, Some}
use Rattle.std.proofs.lemmas.List.{length-set}
use Rattle.wire_model.specs.{Conn, Record, World, conn_at, settled_record}
use Rattle.wire_model.specs.declared.events.Event.TheVariants as events
use Rattle.wire_peer.specs.{log_of}
use Rattle.wire_world.specs.Records.{record_of}
use Rattle.wire_world.specs.declared.records.CallRecord.{CallRecord}
use Rattle.wire_world.specs.Worlds.{AreParts}
use Rattle.wire_world.proofs.CopiedParts.{moved_parts, open_before}
use Rattle.wire_world.proofs.Found.{at_place, numbered, read_by}
use Rattle.wire_world.proofs.MovedDown.{changed, down_ends}
use Rattle.wire_world.proofs.Numbered.{conn_set_place}
use Rattle.wire_world.proofs.Parts.{settled_calls, settling_parts, written}
use Rattle.wire_world.proofs.StayParts.{parts_changed}
use Rattle.wire_world.proofs.worlds.World.move_down.Goals as goal

pub invariant_of-self : goal.invariant_of-self
invariant_of-self g c =
    record {
      parts = let xs = map record_of c.self.inside.calls.items in
          let calls : map record_of c.deref_mut.result.now ≡ xs = ap (map record_of) c.deref_mut.ensures.value in
          let was : AreParts c.self.inside.limits c.self.inside.pool c.self.inside.connections.items (map record_of c.deref_mut.result.now) = subst (λ (zs : List Record). AreParts c.self.inside.limits c.self.inside.pool c.self.inside.connections.items zs) (sym calls) c.self.invariant.parts in
          let moved = moved_parts c.self.inside.limits c.self.inside.pool c.self.inside.connections.items c.index_mut-connection.result.now c.move_down-moved.new.self c.args.n _ (map record_of c.move_down-moved.new.calls) c.move_down-moved.result c.move_down-moved.ensures was in
          let kept = written c.self.inside.calls.len c.move_down-moved.new.calls c.self.inside.calls.items (c.move_down-moved.auto.calls ∙ c.deref_mut.ensures.len) in
          settling_parts _ c.self.inside.pool c.self.inside.pool c.self.inside.connections.items _ c.deref.result.now _ _ c.deref_mut-then-is_closed.result.now c.settle.new.calls _
          (subst (λ (zs : List CallRecord). AreParts c.self.inside.limits c.self.inside.pool c.self.inside.connections.items (map record_of zs)) (sym kept) moved)
          (refl, refl) (length-set _ _ _) c.deref.ensures.value c.deref_mut-then-is_closed.ensures.value c.deref_mut-then-is_closed.ensures.len c.settle.auto.calls c.settle.ensures;
      rooms = c.self.invariant.rooms;
    }

pub invariant_of-self-else-is_closed : goal.invariant_of-self-else-is_closed
invariant_of-self-else-is_closed g c =
    rw c.requires.place (record {
      parts = let xs = map record_of c.self.inside.calls.items in
          let k = c.index_mut-connection.result.now in
          let at : conn_at c.self.inside.connections.items c.args.number ≡ Some k = read_by (events.Down c.args.number c.args.n) c.args.number k c.self.view_is refl c.requires.passes (at_place _ c.index_mut-connection.result.now c.requires.place c.index_mut-connection.ensures.value) in
          let calls : map record_of c.deref_mut.result.now ≡ xs = ap (map record_of) c.deref_mut.ensures.value in
          let was : AreParts c.self.inside.limits c.self.inside.pool c.self.inside.connections.items (map record_of c.deref_mut.result.now) = subst (λ (zs : List Record). AreParts c.self.inside.limits c.self.inside.pool c.self.inside.connections.items zs) (sym calls) c.self.invariant.parts in
          let moved = moved_parts c.self.inside.limits c.self.inside.pool c.self.inside.connections.items k c.move_down-moved.new.self c.args.n _ (map record_of c.move_down-moved.new.calls) c.move_down-moved.result c.move_down-moved.ensures was in
          let kept = written c.self.inside.calls.len c.move_down-moved.new.calls c.self.inside.calls.items (c.move_down-moved.auto.calls ∙ c.deref_mut.ensures.len) in
          let live = sym c.is_closed.ensures ∙ c.if-is_closed.false in
          rw (← conn_set_place c.self.inside.connections.items c.args.number c.move_down-moved.new.self (numbered _ c.args.number k at).0, kept)
          (parts_changed _ _ _ _ c.args.number k c.move_down-moved.new.self at (live ∙ sym (open_before k c.move_down-moved.new.self c.args.n _ _ c.move_down-moved.result c.move_down-moved.ensures live)) moved);
      rooms = c.self.invariant.rooms;
    })

pub returns-then-is_closed-clause-state : goal.returns-then-is_closed-clause-state
returns-then-is_closed-clause-state g c =
    rw c.requires.place (let ks = c.self.inside.connections.items in
    let ys = map record_of c.move_down-moved.new.calls in
    let k = c.index_mut-connection.result.now in
    let k' = c.move_down-moved.new.self in
    let before : World _ = record { pool = c.self.inside.pool; conns = ks; calls = map record_of c.self.inside.calls.items; log = log_of c.self.inside.logged.entries.items; handler = c.self.inside.logged.handler } in
    let calls : map record_of c.deref_mut.result.now ≡ map record_of c.self.inside.calls.items = ap (map record_of) c.deref_mut.ensures.value in
    let kept = written c.self.inside.calls.len c.move_down-moved.new.calls c.self.inside.calls.items (c.move_down-moved.auto.calls ∙ c.deref_mut.ensures.len) in
    down_ends c.self.view_is c.args.number c.args.n k k' (at_place _ c.index_mut-connection.result.now c.requires.place c.index_mut-connection.ensures.value) _ ys calls _
    (ap (λ (zs : List Record). changed before (slice_set ks (c.args.number - 1) k') zs)
    (settled_calls _ c.deref.result.now _ _ c.deref_mut-then-is_closed.result.now c.settle.new.calls _ (c.deref.ensures.value ∙ ap (λ (n : ℕ). slice_set ks n k') c.requires.place) c.deref_mut-then-is_closed.ensures.value c.deref_mut-then-is_closed.ensures.len c.settle.auto.calls c.settle.ensures
    ∙ ap (λ (zs : List CallRecord). map (settled_record (slice_set ks (c.args.number - 1) k')) (map record_of zs)) kept))
    g.H.Handler.does g.H.Handler.stops c.requires.passes c.move_down-moved.result c.move_down-moved.ensures)

pub returns-else-is_closed-clause-state : goal.returns-else-is_closed-clause-state
returns-else-is_closed-clause-state g c =
    rw c.requires.place (let ks = c.self.inside.connections.items in
    let ys = map record_of c.move_down-moved.new.calls in
    let k = c.index_mut-connection.result.now in
    let k' = c.move_down-moved.new.self in
    let before : World _ = record { pool = c.self.inside.pool; conns = ks; calls = map record_of c.self.inside.calls.items; log = log_of c.self.inside.logged.entries.items; handler = c.self.inside.logged.handler } in
    let calls : map record_of c.deref_mut.result.now ≡ map record_of c.self.inside.calls.items = ap (map record_of) c.deref_mut.ensures.value in
    let kept = written c.self.inside.calls.len c.move_down-moved.new.calls c.self.inside.calls.items (c.move_down-moved.auto.calls ∙ c.deref_mut.ensures.len) in
    let at : conn_at ks c.args.number ≡ Some k = read_by (events.Down c.args.number c.args.n) c.args.number k c.self.view_is refl c.requires.passes (at_place _ c.index_mut-connection.result.now c.requires.place c.index_mut-connection.ensures.value) in
    let was : AreParts c.self.inside.limits c.self.inside.pool ks (map record_of c.deref_mut.result.now) = subst (λ (zs : List Record). AreParts c.self.inside.limits c.self.inside.pool ks zs) (sym calls) c.self.invariant.parts in
    let moved = moved_parts c.self.inside.limits c.self.inside.pool ks k k' c.args.n _ ys c.move_down-moved.result c.move_down-moved.ensures was in
    let live = sym c.is_closed.ensures ∙ c.if-is_closed.false in
    let parts = parts_changed _ _ ks ys c.args.number k k' at (live ∙ sym (open_before k k' c.args.n _ ys c.move_down-moved.result c.move_down-moved.ensures live)) moved in
    down_ends c.self.view_is c.args.number c.args.n k k' (at_place _ c.index_mut-connection.result.now c.requires.place c.index_mut-connection.ensures.value) _ ys calls _
    (ap (λ (zs : List Record). changed before (slice_set ks (c.args.number - 1) k') zs)
    (ap (map record_of) kept ∙ sym (subst (λ (js : List Conn). map (settled_record js) ys ≡ ys) (conn_set_place ks c.args.number k' (numbered ks c.args.number k at).0) parts.settled_are)))
    g.H.Handler.does g.H.Handler.stops c.requires.passes c.move_down-moved.result c.move_down-moved.ensures)
