use Rattle.std.proofs.Common.{◌≡◌, ◌++◌, length}
use Rattle.replay.specs.Matchings.{left_over, seen}
use Rattle.replay.proofs.matching.Matching.finish.Given as goal

abbrev pub invariant-loop-answer : goal.invariant-loop-answer
invariant-loop-answer l =
    l.findings.items ++ left_over (seen l.self).open_ids (seen l.self).early
    ≡ l.fn.findings.items ++ left_over (seen l.fn.self).open_ids (seen l.fn.self).early

abbrev pub decreases-loop-answer : goal.decreases-loop-answer
decreases-loop-answer l = length l.self.early.list.items
