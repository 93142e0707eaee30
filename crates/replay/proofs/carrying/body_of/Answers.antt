use Rattle.std.proofs.Common.{◌≡◌, ◌++◌, ◌∙◌, List, ℕ, subst, sym}
use Rattle.bson_elem.specs.{Spells}
use Rattle.replay.proofs.carrying.body_of.Goals as goal

pub returns-in-Ok-clause-some : goal.returns-in-Ok-clause-some
returns-in-Ok-clause-some c = λ t rest has.
    let only = c.in-Ok.ensures.only t has.body rest has.spelled (c.tail_of.ensures ∙ has.parts) in
    (subst (λ (b : List ℕ). Spells t b) (sym only.0) has.spelled, only.1)

pub returns-in-Ok-clause-only : goal.returns-in-Ok-clause-only
returns-in-Ok-clause-only c =
    let found = c.in-Ok.ensures.found in
    (found.1.0, record { body = _; begins = sym c.begins_body.ensures ∙ c.if-not-begins_body.false; spelled = found.1.1; parts = sym c.tail_of.ensures ∙ found.0 })

pub returns-in-Err-clause-some : goal.returns-in-Err-clause-some
returns-in-Err-clause-some c = λ t rest has.
    absurd (c.in-Err.ensures.only t has.body rest has.spelled (c.tail_of.ensures ∙ has.parts))
