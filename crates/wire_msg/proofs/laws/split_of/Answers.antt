use Rattle.wire_msg.proofs.FrontLaws.{open_or_bad}
use Rattle.wire_msg.proofs.SplitLaws.{one_split, no_cut, cut_more, cut_smaller, cut_ends}
use Rattle.wire_msg.proofs.laws.split_of.Goals as goal

pub loop-after-init : goal.loop-after-init
loop-after-init c = no_cut c.args.limit c.args.bytes.now

pub loop-after-preserved : goal.loop-after-preserved
loop-after-preserved c = cut_more c.args.limit c.args.bytes.now c.loop-after.rest.now c.in-Whole.after.now _ c.loop-after.invariant c.in-Whole.ensures.front.0 c.in-Whole.ensures.front.1

pub loop-after-smaller : goal.loop-after-smaller
loop-after-smaller c = cut_smaller c.args.limit c.loop-after.rest.now c.in-Whole.after.now _ c.in-Whole.ensures.front.0 c.in-Whole.ensures.front.1

pub returns : goal.returns
returns c =
    let ends = open_or_bad c.args.limit c.loop-after.rest.now c.front.result c.front.ensures.front c.in_default.not-Whole in
    let found = cut_ends c.args.limit c.args.bytes.now c.loop-after.rest.now (λ i. (c.type_inv.bytes i).fits) c.loop-after.invariant ends in
    record { split = found; only = λ messages rest s. (one_split c.args.limit c.args.bytes.now messages found.0 rest c.loop-after.rest.now (λ i. (c.type_inv.bytes i).fits) s found.1).1; ends = ends }
