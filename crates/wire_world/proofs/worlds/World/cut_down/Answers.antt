use Rattle.std.specs.Prelude.{slice_set}
use Rattle.std.proofs.Common.{◌∙◌, ℕ, ap, refl}
use Rattle.std.proofs.lemmas.List.{length-set}
use Rattle.wire_world.proofs.Arms.{cuts_down}
use Rattle.wire_world.proofs.Parts.{settled_calls, settling_parts}
use Rattle.wire_world.proofs.Found.{at_place}
use Rattle.wire_world.proofs.worlds.World.cut_down.Goals as goal

pub invariant_of-self : goal.invariant_of-self
invariant_of-self g c =
    record {
      parts = settling_parts _ c.self.inside.pool c.self.inside.pool c.self.inside.connections.items _ c.deref.result.now _ c.self.inside.calls.items c.deref_mut.result.now c.settle.new.calls c.self.inside.calls.items
          c.self.invariant.parts (refl, refl) (length-set _ _ _) c.deref.ensures.value c.deref_mut.ensures.value c.deref_mut.ensures.len c.settle.auto.calls c.settle.ensures;
      rooms = c.self.invariant.rooms;
    }

pub returns-clause-state : goal.returns-clause-state
returns-clause-state g c =
    rw c.requires.place (cuts_down c.args.number c.index_mut-connection.result.now c.cut_down.new.self _ c.self.view_is c.requires.passes (at_place _ c.index_mut-connection.result.now c.requires.place c.index_mut-connection.ensures.value) c.cut_down.ensures
    (settled_calls _ c.deref.result.now _ c.self.inside.calls.items c.deref_mut.result.now c.settle.new.calls c.self.inside.calls.items (c.deref.ensures.value ∙ ap (λ (n : ℕ). slice_set c.self.inside.connections.items n c.cut_down.new.self) c.requires.place) c.deref_mut.ensures.value c.deref_mut.ensures.len c.settle.auto.calls c.settle.ensures))
