use Rattle.std.proofs.Common.{◌≡◌, ◌++◌, length, map}
use Rattle.replay.specs.declared.answers.Answer.{Answer}
use Rattle.replay.specs.declared.finding.Finding.TheVariants.{Missing}
use Rattle.replay.specs.Matchings.{not_past, past, seen}
use Rattle.replay.proofs.matching.Matching.give_up.Given as goal

abbrev pub invariant-loop-answer : goal.invariant-loop-answer
invariant-loop-answer l =
    (seen l.self ≡ record (seen l.fn.self) { awaited = (seen l.self).awaited; given_up_ids = (seen l.self).given_up_ids })
    × (not_past l.now (seen l.self).awaited ≡ not_past l.now (seen l.fn.self).awaited)
    × ((seen l.self).given_up_ids ++ map (λ (a : Answer). a.request) (past l.now (seen l.self).awaited)
    ≡ (seen l.fn.self).given_up_ids ++ map (λ (a : Answer). a.request) (past l.now (seen l.fn.self).awaited))
    × (l.findings.items ++ map (λ (a : Answer). Missing a) (past l.now (seen l.self).awaited)
    ≡ l.fn.findings.items ++ map (λ (a : Answer). Missing a) (past l.now (seen l.fn.self).awaited))

abbrev pub decreases-loop-answer : goal.decreases-loop-answer
decreases-loop-answer l = length l.self.awaited.list.items
