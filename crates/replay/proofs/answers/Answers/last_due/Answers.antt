use Rattle.std.proofs.Common.{◌<◌, ◌-◌, ◌∙◌, ℕ, ap, arith, get_or, refl}
use Rattle.replay.proofs.MatchingSteps.{last_at}
use Rattle.replay.proofs.answers.Answers.last_due.Goals as goal

pub returns-in-Some : goal.returns-in-Some
returns-in-Some c =
    let some : 0 < c.args.self.now.list.len = c.in-Some.ensures.variant.0 refl in
    last_at c.args.self.now.list.items c.in-Some.answer.now (omega (arith, some, c.args.self.now.list.ok.0))
    (c.in-Some.ensures.lookup ∙ ap (λ (n : ℕ). get_or c.args.self.now.list.items (n - 1) c.in-Some.answer.now) c.args.self.now.list.ok.0)
