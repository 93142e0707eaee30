use Rattle.std.proofs.Common.{arith, inl, refl}
use Rattle.wire_world.proofs.RawLoops.{all_gone, pass_raw_err, pass_raw_none, raw_more, raw_none, raw_within, rest_piece}
use Rattle.wire_world.proofs.moving.pass_raw.Goals as goal

pub loop-moved-init : goal.loop-moved-init
loop-moved-init c = record { gone = raw_none _ _ _ refl; within = omega arith }

pub returns-in_err-taken : goal.returns-in_err-taken
returns-in_err-taken c = pass_raw_err c.loop-moved.moved _ _ _ c.args.bytes.now _ _ c.from_residual.ensures.0 (rest_piece c.loop-moved.moved _ c.args.bytes.now refl) c.loop-moved.invariant.gone c.in_err-taken.ensures.fed c.in_err-taken.ensures.unchanged

pub returns-then-taken-eq0 : goal.returns-then-taken-eq0
returns-then-taken-eq0 c = pass_raw_none c.loop-moved.moved c.in_ok-taken.taken _ _ _ c.args.bytes.now _ (rest_piece c.loop-moved.moved _ c.args.bytes.now refl) c.if-taken-eq0.true c.loop-moved.invariant.gone c.in_ok-taken.ensures.fed

pub loop-moved-preserved : goal.loop-moved-preserved
loop-moved-preserved c = record {
  gone = raw_more _ _ _ _ _ _ c.loop-moved.invariant.gone (rw (← rest_piece c.loop-moved.moved _ c.args.bytes.now refl) c.in_ok-taken.ensures.fed);
  within = raw_within c.loop-moved.moved c.in_ok-taken.taken _ _ c.args.bytes.now _ (rest_piece c.loop-moved.moved _ c.args.bytes.now refl) c.loop-moved.invariant.within c.in_ok-taken.ensures.fed;
}

pub returns : goal.returns
returns c = (c.loop-moved.moved, c.loop-moved.invariant.gone, (refl, inl (all_gone c.args.bytes.now c.loop-moved.moved (omega arith))))
