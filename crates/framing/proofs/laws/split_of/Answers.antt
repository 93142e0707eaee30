use Rattle.std.proofs.Common.{[]}
use Rattle.framing.proofs.Splits.{cut_ends, cut_more, cut_smaller, nothing_cut, told_end}
use Rattle.framing.proofs.laws.split_of.Goals as goal

pub loop-after-init : goal.loop-after-init
loop-after-init g c = ([], nothing_cut _ _)

pub loop-after-preserved : goal.loop-after-preserved
loop-after-preserved g c = (_, cut_more _ _ _ _ _ _ c.loop-after.invariant.1 c.in-Whole.ensures.first)

pub loop-after-smaller : goal.loop-after-smaller
loop-after-smaller g c = cut_smaller (g.F.Framing.rule c.args.framing.now) _ _ _ (g.met.F.Framing.sound c.args.framing.now).some c.in-Whole.ensures.first

pub returns : goal.returns
returns g c =
    let ends = told_end _ _ _ c.read_item.ensures.first c.in_default.not-Whole in
    record { split = (_, cut_ends _ _ _ _ c.loop-after.invariant.1 ends); ends = ends }
