use Rattle.std.proofs.Common.{◌≤◌, length}
use Rattle.bson_json_read.proofs.misfit.Nesting.misfit.Given as goal

abbrev pub invariant-loop-token : goal.invariant-loop-token
invariant-loop-token l = l.start ≤ length l.text

abbrev pub decreases-loop-token : goal.decreases-loop-token
decreases-loop-token l = length l.reader
