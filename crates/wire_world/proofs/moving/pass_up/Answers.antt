use Rattle.std.proofs.Common.{ap, arith, refl, take}
use Rattle.wire_world.proofs.Pieces.{length_take_within}
use Rattle.wire_world.proofs.UpLoops.{gone_more, gone_none, pass_up_err, pass_up_none}
use Rattle.wire_world.proofs.moving.pass_up.Goals as goal

pub loop-moved-init : goal.loop-moved-init
loop-moved-init c = record { gone = gone_none _ _ _ _ refl refl; at_most = omega arith }

pub returns-in_err-taken : goal.returns-in_err-taken
returns-in_err-taken c = pass_up_err c.args.n c.loop-moved.moved c.min.result _ _ _ _ _ _ _ c.from_residual.ensures.0 c.loop-moved.invariant.at_most (omega (arith, c.min.ensures)) (ap (take c.min.result) c.output-output.ensures) c.loop-moved.invariant.gone c.in_err-taken.ensures.fed c.in_err-taken.ensures.unchanged

pub returns-then-taken-eq0 : goal.returns-then-taken-eq0
returns-then-taken-eq0 c = pass_up_none c.args.n c.loop-moved.moved c.in_ok-taken.taken c.min.result _ _ _ _ _ _ (omega arith) (rw (← c.output-output.ensures) c.min.ensures) (ap (take c.min.result) c.output-output.ensures) c.if-taken-eq0.true c.loop-moved.invariant.gone c.in_ok-taken.ensures.fed

pub loop-moved-preserved : goal.loop-moved-preserved
loop-moved-preserved c =
    let within = c.in_ok-taken.ensures.fed.within in
    let fewer = length_take_within c.min.result c.output-output.result.now in
    record {
      gone = gone_more _ _ _ _ _ _ _ _ c.min.result c.in_ok-taken.taken (ap (take c.min.result) c.output-output.ensures) c.loop-moved.invariant.gone c.in_ok-taken.ensures.fed c.sent.ensures;
      at_most = omega (arith, within, fewer, c.min.ensures);
    }

pub returns : goal.returns
returns c = (c.loop-moved.moved, c.loop-moved.invariant.at_most, c.loop-moved.invariant.gone, (refl, λ lt. absurd (omega (arith, lt))))
