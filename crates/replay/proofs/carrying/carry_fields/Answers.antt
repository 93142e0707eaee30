use Rattle.std.proofs.Common.{ℕ, ◌-◌, ◌∙◌, ap}
use Rattle.replay.specs.Carried.{field_ids}
use Rattle.replay.proofs.Writing.{pair_written}
use Rattle.replay.proofs.carrying.carry_fields.Goals as goal

pub loop-name-preserved : goal.loop-name-preserved
loop-name-preserved c = record {
  can_next = tt;
  is_finite = tt;
  so_far = λ t spelled.
      let left = c.loop-name.invariant.so_far t spelled in
      let first = c.in-Some.ensures.steps.1.0 left.0 left.1 in (
        first.others,
        first.left,
        pair_written field_ids _ c.args.end c.saturating_sub-behind.result c.in-Some.name.now first.tree_value left.0 first.others _ _ first.is_first
            (c.saturating_sub-behind.ensures ∙ ap (λ (k : ℕ). c.args.end - k) (c.bytes_left.ensures.pairs first.others first.left))
            (c.carry_field.ensures first.tree_value first.shown) ∙ left.2,
      );
}
