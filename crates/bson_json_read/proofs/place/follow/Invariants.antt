use Rattle.std.proofs.Common.{◌≤◌, length}
use Rattle.bson_json_read.proofs.place.follow.Given as goal

abbrev pub invariant-loop-left : goal.invariant-loop-left
invariant-loop-left l = l.left ≤ length l.path

abbrev pub decreases-loop-left : goal.decreases-loop-left
decreases-loop-left l = l.left
