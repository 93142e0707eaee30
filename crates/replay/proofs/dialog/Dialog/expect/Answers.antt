use Rattle.std.proofs.Common.{[], ◌∷◌, subst}
use Rattle.replay.specs.MatchingRuns.{Does, expect}
use Rattle.replay.specs.Matchings.{seen}
use Rattle.replay.specs.declared.matching.Matching.{Matching}
use Rattle.replay.proofs.Doing.{does_one}
use Rattle.replay.proofs.dialog.Dialog.expect.Goals as goal

pub returns-clause-does : goal.returns-clause-does
returns-clause-does c = (
  c.in_ok-answer.answer,
  c.in_ok-answer.ensures.answer,
  subst (λ (m : Matching). Does (expect c.in_ok-answer.answer ∷ []) (seen m) (seen c.expect.new.self) c.args.findings.now.items c.expect.new.findings.items) c.in_ok-answer.ensures.others.1
      (does_one (expect c.in_ok-answer.answer) _ _ _ _ c.in_ok-expect.ensures.state c.in_ok-expect.ensures.found),
)
