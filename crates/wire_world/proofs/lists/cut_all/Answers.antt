use Rattle.std.proofs.Common.{◌∙◌, ap}
use Rattle.wire_model.specs.{cut_at}
use Rattle.wire_world.proofs.Numbered.{all_cut_more}
use Rattle.wire_world.proofs.lists.cut_all.Goals as goal

pub loop-number-preserved : goal.loop-number-preserved
loop-number-preserved c =
    c.cut_at.ensures ∙ ap (cut_at c.in-Some.number.now) c.loop-number.invariant ∙ all_cut_more (λ n. n.now) c.loop-number.yielded c.in-Some.number c.args.connections.now
