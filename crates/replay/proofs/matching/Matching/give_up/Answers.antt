use Rattle.std.proofs.Common.{◌≡◌, ◌++◌, ◌∙◌, [], ℕ, List, map, ap}
use Rattle.replay.specs.declared.answers.Answer.{Answer}
use Rattle.replay.specs.Matchings.{Seen, not_past, past, seen}
use Rattle.replay.proofs.MatchingSteps.{ended, not_past_end, past_end}
use Rattle.replay.proofs.matching.Matching.give_up.Goals as goal

pub returns-clause-state : goal.returns-clause-state
returns-clause-state c =
    let first : Seen = seen c.args.self.now in
    let now : ℕ = c.args.now in
    let s : Seen = seen c.loop-answer.self in
    let new : List Answer = c.take_due.new.self.list.items in
    let t : (past now s.awaited ≡ []) × (new ≡ s.awaited) = ended now s.awaited new c.take_due.result c.take_due.ensures c.in_default.not-Some in
    let gone : List ℕ = first.given_up_ids ++ map (λ (a : Answer). a.request) (past now first.awaited) in
    let left : new ≡ not_past now first.awaited = t.1 ∙ not_past_end now s.awaited (not_past now first.awaited) t.0 c.loop-answer.invariant.1 in
    let ids : s.given_up_ids ≡ gone = past_end (λ (a : Answer). a.request) now s.awaited s.given_up_ids gone t.0 c.loop-answer.invariant.2 in
    ap (λ (u : Seen). record u { awaited = new }) c.loop-answer.invariant.0
    ∙ ap (λ (x : List Answer). record first { awaited = x; given_up_ids = s.given_up_ids }) left
    ∙ ap (λ (g : List ℕ). record first { awaited = not_past now first.awaited; given_up_ids = g }) ids
