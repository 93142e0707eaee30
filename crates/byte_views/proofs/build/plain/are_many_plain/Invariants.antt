use Rattle.std.proofs.Common.{◌-◌, ◌<◌, length}
use Rattle.byte_views.specs.Plain.{ArePlain}
use Rattle.byte_views.proofs.build.plain.are_many_plain.Given as goal

abbrev pub invariant-loop-at : goal.invariant-loop-at
invariant-loop-at l = (l.at < length l.bytes) × ArePlain l.bytes 0 l.at

abbrev pub decreases-loop-at : goal.decreases-loop-at
decreases-loop-at l = length l.bytes - l.at
