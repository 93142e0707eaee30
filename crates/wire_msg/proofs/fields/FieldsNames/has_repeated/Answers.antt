use Rattle.std.proofs.Common.{rules, subst}
use Rattle.std.proofs.lemmas.List.Sorted.{answers_always}
use Rattle.wire_msg.specs.Fields.{AreFields}
use Rattle.wire_msg.proofs.FieldLaws.{is_below, neighbours}
use Rattle.wire_msg.proofs.fields.FieldsNames.has_repeated.Goals as goal

pub returns-in-Sorted : goal.returns-in-Sorted
returns-in-Sorted c = λ t are.
    let sorted = subst (λ f. AreFields f t) c.in-Sorted.is are in
    let answer = c.is_sorted_by.ensures.cases is_below (answers_always _ _ _ (λ f a r g called. search rules)) in
    neighbours t c.in-Sorted.names.items c.is_sorted_by.result sorted (rw c.deref.ensures.value at answer)
