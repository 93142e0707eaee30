use Rattle.std.proofs.Common.{refl}
use Rattle.bson_json.proofs.Ordered.{all_in_order, ascii_or_kept, next_in_order, none_in_order}
use Rattle.bson_json.proofs.Rising.{moved_by, next_is_last}
use Rattle.bson_json.proofs.options.is_out_of_order.Goals as goal

pub loop-c-init : goal.loop-c-init
loop-c-init c = (none_in_order, refl)

pub returns-then-c-last-clause-cases : goal.returns-then-c-last-clause-cases
returns-then-c-last-clause-cases c = ascii_or_kept c.is_ascii.result c.args.options.now c.is_ascii.ensures.cases

pub returns-then-c-last-clause-moved : goal.returns-then-c-last-clause-moved
returns-then-c-last-clause-moved c = moved_by c.is_ascii.result c.args.options.now c.loop-c.c-index c.loop-c.last c.loop-c-test.true c.loop-c.invariant.1 c.if-c-last.true (ascii_or_kept c.is_ascii.result c.args.options.now c.is_ascii.ensures.cases)

pub loop-c-preserved : goal.loop-c-preserved
loop-c-preserved c =
    let seen = c.loop-c in
    (next_in_order c.args.options.now seen.c-index seen.last c.loop-c-test.true seen.invariant.0 c.if-c-last.false, next_is_last c.args.options.now seen.c-index)

pub returns-clause-cases : goal.returns-clause-cases
returns-clause-cases c = all_in_order c.args.options.now c.loop-c.c-index c.loop-c.last c.loop-c-test.false c.loop-c.invariant.0
