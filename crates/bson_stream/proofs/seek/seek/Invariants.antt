use Rattle.std.proofs.Common.{◌≤◌, ◌-◌, length}
use Rattle.bson_stream.specs.Salvagers.{IsGapBehind, NoneInFront}
use Rattle.bson_stream.proofs.seek.seek.Given as goal

-- no document begins at the bytes that were passed over, and the gap behind them is known
abbrev pub invariant-loop-passed : goal.invariant-loop-passed
invariant-loop-passed l = record {
  within : l.passed ≤ length l.held;
  none : NoneInFront l.limit l.ended l.passed l.held;
  gap_is : IsGapBehind l.limit l.ended l.start l.held l.passed l.fn.gap l.behind;
}

abbrev pub decreases-loop-passed : goal.decreases-loop-passed
decreases-loop-passed l = length l.held - l.passed
