use Rattle.std.proofs.Common.{List, map, refl, ap, ◌∙◌}
use Rattle.std.proofs.lemmas.Result.{err_from_is_err_and}
use Rattle.wire_msg.specs.{Sequence}
use Rattle.bson_doc.specs.Bson.{value_of}
use Rattle.command_parts.specs.Brought.{followed_by, in_sequences, sequence_documents}
use Rattle.command_parts.proofs.Bringing.{all_appended, more_joined, stops_joined}
use Rattle.command_parts.proofs.brought.push_sequences.Goals as goal

pub loop-identifier-init : goal.loop-identifier-init
loop-identifier-init c = (tt, tt, λ k carries. (k.sequences, rw c.into_iter-identifier-iterator.ensures.into_iter_gives (c.sequences-identifier-items.ensures k carries), refl))

pub loop-identifier-preserved : goal.loop-identifier-preserved
loop-identifier-preserved c = (
  tt,
  tt,
  λ k carries.
      let left = c.loop-identifier.invariant.2 k carries in
      let step = c.in-Some.ensures.steps left.0 left.1 in (
        step.others,
        step.left,
        left.2 ∙ ap (λ (qs : List Sequence). followed_by (map value_of c.loop-identifier.documents.items) (in_sequences c.args.name.now qs)) step.is_first
            ∙ more_joined (map value_of c.loop-identifier.documents.items) (map value_of c.push_brought.new.documents.items) (sequence_documents c.args.name.now step.sequence) (in_sequences c.args.name.now step.others)
            (c.in_ok-push_brought.ensures step.sequence step.identifier_is step.documents_are),
      ),
)

pub returns-in_err-push_brought : goal.returns-in_err-push_brought
returns-in_err-push_brought c = λ k carries.
    let left = c.loop-identifier.invariant.2 k carries in
    let step = c.in-Some.ensures.steps left.0 left.1 in
    let told = err_from_is_err_and c.from_residual.result c.from_residual.ensures.1 in
    rw (told.1, told.2)
    (stops_joined (map value_of c.args.documents.now.items) (map value_of c.loop-identifier.documents.items) (map value_of c.push_brought.new.documents.items) (map value_of c.push_brought.new.documents.items)
    (in_sequences c.args.name.now k.sequences) (sequence_documents c.args.name.now step.sequence) (in_sequences c.args.name.now step.others) c.in_err-push_brought.field-0.0
    (left.2 ∙ ap (λ (qs : List Sequence). followed_by (map value_of c.loop-identifier.documents.items) (in_sequences c.args.name.now qs)) step.is_first)
    (c.in_err-push_brought.ensures step.sequence step.identifier_is step.documents_are))

pub returns : goal.returns
returns c = λ k carries.
    let left = c.loop-identifier.invariant.2 k carries in
    let none = (c.in-None.ensures.steps left.0 left.1).0 in
    all_appended (map value_of c.args.documents.now.items) (map value_of c.loop-identifier.documents.items) (in_sequences c.args.name.now k.sequences)
    (left.2 ∙ ap (λ (qs : List Sequence). followed_by (map value_of c.loop-identifier.documents.items) (in_sequences c.args.name.now qs)) none)
