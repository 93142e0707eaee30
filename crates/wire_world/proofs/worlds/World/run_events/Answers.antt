use Rattle.std.specs.Prelude.{◌+◌, ◌++◌, ◌∷◌, []}
use Rattle.std.proofs.Common.{◌≡◌, ◌∙◌, ap, List, subst, sym, take}
use Rattle.std.proofs.lemmas.List.{take_more}
use Rattle.wire_model.specs.{Happens, Run, opening}
use Rattle.wire_model.specs.declared.events.Event.{Event}
use Rattle.wire_model.specs.declared.limits.WorldLimits.{WorldLimits}
use Rattle.wire_world.proofs.Running.{run_more}
use Rattle.wire_world.proofs.worlds.World.run_events.Goals as goal

pub loop-event-preserved : goal.loop-event-preserved
loop-event-preserved g c =
    let does = g.H.Handler.does in
    let stops = g.H.Handler.stops in
    let events = c.args.events.now in
    let i = c.loop-event.event-index in
    let event : Event = c.event-item.result in
    let before = c.loop-event.world.state in
    let after = c.step.new.self.state in
    let more : take i events ++ event ∷ [] ≡ take (i + 1) events = ap (λ (e : Event). take i events ++ e ∷ []) c.event-item.is ∙ sym (take_more events i event c.loop-event-test.true) in
    let happens : Happens does stops c.args.limits before event c.step.result after = subst (λ (l : WorldLimits). Happens does stops l before event c.step.result after) c.loop-event.invariant.limits c.step.ensures.state in
    record {
      limits = c.step.ensures.limits ∙ c.loop-event.invariant.limits;
      runs = subst (λ (es : List Event). Run does stops c.args.limits (opening c.args.limits c.args.handler) es after) more
          (run_more does stops c.args.limits (take i events) event c.step.result (opening c.args.limits c.args.handler) before after c.loop-event.invariant.runs happens);
    }
