use Rattle.std.proofs.Common.{◌∙◌, ap, refl, sym, Some}
use Rattle.wire_share.specs.Routing.{with_cursors, without_ids}
use Rattle.wire_share.proofs.Killing.{without_ids-first}
use Rattle.wire_share.proofs.routes.Routes.kill.Goals as goal

pub loop-id-preserved : goal.loop-id-preserved
loop-id-preserved c = (
  tt,
  tt,
  (λ t spells.
      let held = c.loop-id.self in
      let before = c.loop-id.invariant.2 t spells in
      let first = c.in-Some.ensures.steps.1.0 before.0 before.1 in
      let given = first.1 in
      let after = c.forget_id.ensures (Some given.tree_value) (given.tree_value, refl, given.shown) in (
        given.others,
        given.left,
        before.2 ∙ ap (λ r. with_cursors held (without_ids r held.cursors)) given.is_first
            ∙ ap (λ cursors. with_cursors held cursors) (without_ids-first first.0 given.tree_value given.others held.cursors)
            ∙ sym (ap (λ n. with_cursors n (without_ids given.others n.cursors)) after),
      )),
)
