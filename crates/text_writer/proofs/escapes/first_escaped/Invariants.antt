use Rattle.std.proofs.Common.{◌-◌, ◌<◌, length}
use Rattle.text_writer.specs.Escapes.{NeedsNoEscapeBefore}
use Rattle.text_writer.proofs.escapes.first_escaped.Given as goal

abbrev pub invariant-loop-at : goal.invariant-loop-at
invariant-loop-at l = (l.at < length l.bytes) × NeedsNoEscapeBefore l.bytes l.at

abbrev pub decreases-loop-at : goal.decreases-loop-at
decreases-loop-at l = length l.bytes - l.at
