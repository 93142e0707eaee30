use Rattle.std.proofs.Common.{◌≡◌, ◌++◌, length, map}
use Rattle.replay.specs.declared.answers.Answer.{Answer}
use Rattle.replay.specs.declared.finding.Finding.TheVariants.{Unexpected}
use Rattle.replay.specs.Matchings.{beyond, count_of, seen, within}
use Rattle.replay.proofs.matching.Matching.sort_out.Given as goal

abbrev pub invariant-loop-answer : goal.invariant-loop-answer
invariant-loop-answer l =
    (seen l.self ≡ record (seen l.fn.self) { early = (seen l.self).early })
    × ((seen l.self).early ++ within l.left l.id l.came.list.items ≡ within (count_of l.id (seen l.fn.self).open_ids) l.id (seen l.fn.self).early)
    × (l.findings.items ++ map (λ (a : Answer). Unexpected a) (beyond l.left l.id l.came.list.items)
    ≡ l.fn.findings.items ++ map (λ (a : Answer). Unexpected a) (beyond (count_of l.id (seen l.fn.self).open_ids) l.id (seen l.fn.self).early))

abbrev pub decreases-loop-answer : goal.decreases-loop-answer
decreases-loop-answer l = length l.came.list.items
