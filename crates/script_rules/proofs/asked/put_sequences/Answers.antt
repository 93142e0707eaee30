use Rattle.std.proofs.Common.{Bool, List, None, Some, refl, ap, ◌∙◌}
use Rattle.std.specs.Prelude.{if◌then◌else◌}
use Rattle.wire_msg.specs.{Sequence}
use Rattle.script_rules.specs.Asked.{with_sequences}
use Rattle.script_rules.proofs.WholeBody.{none_left}
use Rattle.script_rules.proofs.asked.put_sequences.Goals as goal

pub loop-identifier-init : goal.loop-identifier-init
loop-identifier-init c = (tt, tt, λ k carries. (k.sequences, rw c.into_iter-identifier-iterator.ensures.into_iter_gives (c.sequences-identifier-items.ensures k carries), refl))

pub loop-identifier-preserved : goal.loop-identifier-preserved
loop-identifier-preserved c = (
  tt,
  tt,
  λ k carries.
      let left = c.loop-identifier.invariant.2 k carries in
      let step = c.in-Some.ensures.steps left.0 left.1 in (
        step.others,
        step.left,
        left.2 ∙ ap (λ (qs : List Sequence). with_sequences qs (Some c.loop-identifier.body)) step.is_first
            ∙ ap (with_sequences step.others)
            (c.in_ok-put_sequence.ensures step.sequence step.identifier_is step.documents_are
            ∙ ap (λ (fits : Bool). if fits then Some c.put_sequence.new.body else None) c.if-not-branch.false),
      ),
)

pub returns-then-not-branch : goal.returns-then-not-branch
returns-then-not-branch c = λ k carries.
    let left = c.loop-identifier.invariant.2 k carries in
    let step = c.in-Some.ensures.steps left.0 left.1 in
    left.2 ∙ ap (λ (qs : List Sequence). with_sequences qs (Some c.loop-identifier.body)) step.is_first
    ∙ ap (with_sequences step.others)
    (c.in_ok-put_sequence.ensures step.sequence step.identifier_is step.documents_are
    ∙ ap (λ (fits : Bool). if fits then Some c.put_sequence.new.body else None) c.if-not-branch.true)
    ∙ none_left step.others

pub returns : goal.returns
returns c = λ k carries.
    let left = c.loop-identifier.invariant.2 k carries in
    left.2 ∙ ap (λ (qs : List Sequence). with_sequences qs (Some c.loop-identifier.body)) (c.in-None.ensures.steps left.0 left.1).0
