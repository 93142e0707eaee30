use Rattle.std.proofs.Common.{◌-◌, length}
use Rattle.bson_json_read.specs.Extents.{HasPassed}
use Rattle.bson_json_read.proofs.extent.scan_on.Given as goal

abbrev pub invariant-loop-at : goal.invariant-loop-at
invariant-loop-at l = HasPassed l.at l.text

abbrev pub decreases-loop-at : goal.decreases-loop-at
decreases-loop-at l = length l.text - l.at.len
