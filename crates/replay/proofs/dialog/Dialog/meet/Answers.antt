use Rattle.std.proofs.Common.{[], ◌∷◌, ap, subst}
use Rattle.replay.specs.MatchingRuns.{Does, meet}
use Rattle.replay.specs.Matchings.{seen}
use Rattle.replay.specs.declared.dialog.Dialog.{Dialog}
use Rattle.replay.specs.declared.matching.Matching.{Matching}
use Rattle.replay.proofs.Doing.{does_one}
use Rattle.replay.proofs.dialog.Dialog.meet.Goals as goal

pub returns-clause-does : goal.returns-clause-does
returns-clause-does c = (
  c.in_ok-answer.answer,
  c.in_ok-answer.ensures.answer,
  subst (λ (m : Matching). Does (meet c.in_ok-answer.answer ∷ []) (seen m) (seen c.meet.new.self) c.args.findings.now.items c.meet.new.findings.items)
      (ap (λ (d : Dialog). d.matching) c.in_ok-answer.ensures.others) (does_one (meet c.in_ok-answer.answer) _ _ _ _ c.in_ok-meet.ensures.state c.in_ok-meet.ensures.found),
)
