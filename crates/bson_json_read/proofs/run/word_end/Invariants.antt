use Rattle.std.proofs.Common.{◌-◌, ◌≤◌, length}
use Rattle.bson_json_read.proofs.run.word_end.Given as goal

abbrev pub invariant-loop-at : goal.invariant-loop-at
invariant-loop-at l = (l.from ≤ l.at) × (l.at ≤ length l.text)

abbrev pub decreases-loop-at : goal.decreases-loop-at
decreases-loop-at l = length l.text - l.at
