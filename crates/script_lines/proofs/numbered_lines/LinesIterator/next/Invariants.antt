use Rattle.std.proofs.Common.{◌≡◌, ◌+◌, ◌<◌, ◌≤◌, ◌^◌, length}
use Rattle.script_lines.specs.Left.{lines_left}
use Rattle.script_lines.proofs.numbered_lines.LinesIterator.next.Given as goal

abbrev pub invariant-loop-text : goal.invariant-loop-text
invariant-loop-text l = (lines_left l.self ≡ lines_left l.initial.self) × (length l.self.rest.now ≤ length l.initial.self.rest.now) × (l.self.last + length l.self.rest.now < 2 ^ 64)

abbrev pub decreases-loop-text : goal.decreases-loop-text
decreases-loop-text l = length l.self.rest.now
