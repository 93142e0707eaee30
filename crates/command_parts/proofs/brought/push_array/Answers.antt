use Rattle.std.proofs.Common.{map, ap, ◌∙◌}
use Rattle.bson_doc.specs.Bson.{value_of}
use Rattle.command_parts.specs.Brought.{followed_by, in_array, kept_value}
use Rattle.command_parts.proofs.Bringing.{in_array-with_first, more}
use Rattle.command_parts.proofs.brought.push_array.Goals as goal

pub loop-value-preserved : goal.loop-value-preserved
loop-value-preserved c = (
  tt,
  tt,
  λ t spelled.
      let left = c.loop-value.invariant.2 t spelled in
      let named = c.in-Some.ensures.steps.1.0 left.0 left.1 in
      let step = named.1 in (
        step.others,
        step.left,
        left.2 ∙ ap (followed_by (map value_of c.loop-value.documents.items)) (ap in_array step.is_first ∙ in_array-with_first named.0 step.tree_value step.others)
            ∙ more (map value_of c.loop-value.documents.items) (map value_of c.push_value.new.documents.items) (kept_value step.tree_value) (in_array step.others)
            (c.in_ok-push_value.ensures step.tree_value step.shown),
      ),
)
