use Rattle.std.proofs.Common.{◌∙◌, inl, inr, sym, true≢false}
use Rattle.replay.proofs.Replies.{counted}
use Rattle.replay.proofs.teller.Teller.compare.Goals as goal

pub returns-then-branch-clause-recorded_alone : goal.returns-then-branch-clause-recorded_alone
returns-then-branch-clause-recorded_alone g c = λ m spelled short no.
    absurd (true≢false (sym c.if-branch.true ∙ c.in_ok-are_same_answers.ensures.recorded_alone m spelled short no))

pub returns-then-branch-clause-received_alone : goal.returns-then-branch-clause-received_alone
returns-then-branch-clause-received_alone g c = λ n no spells within.
    absurd (true≢false (sym c.if-branch.true ∙ c.in_ok-are_same_answers.ensures.received_alone n no spells within))

pub returns-then-branch-clause-replies : goal.returns-then-branch-clause-replies
returns-then-branch-clause-replies g c = λ ts us rest other a b s t.
    let told = c.in_ok-are_same_answers.ensures.replies ts us rest other a b s t in
    ((λ same. c.count_same.ensures.counted), (λ differ. absurd (differ (told.0 c.if-branch.true))))

pub returns-clause-replies : goal.returns-clause-replies
returns-clause-replies g c = λ ts us rest other a b s t.
    let told = c.in_ok-are_same_answers.ensures.replies ts us rest other a b s t in
    counted c.tell_different.result (
      (λ same. absurd (true≢false (sym (told.1 same) ∙ c.if-branch.false))),
      (λ differ. c.tell_different.ensures.counted),
    )

pub returns-then-branch-clause-one : goal.returns-then-branch-clause-one
returns-then-branch-clause-one g c = inl c.count_same.ensures.counted

pub returns-clause-one : goal.returns-clause-one
returns-clause-one g c = counted c.tell_different.result (inr c.tell_different.ensures.counted)
