use Rattle.std.proofs.Common.{subst, ◌∙◌}
use Rattle.wire_msg.specs.Fields.{AreFields}
use Rattle.wire_msg.proofs.FieldLaws.{searched}
use Rattle.wire_msg.proofs.fields.FieldsNames.contains.Goals as goal

pub returns-in-Pairs : goal.returns-in-Pairs
returns-in-Pairs c = λ t are. c.contains.ensures t (subst (λ f. AreFields f t) c.in-Pairs.is are)

pub returns-in-Sorted : goal.returns-in-Sorted
returns-in-Sorted c = λ t are.
    let sorted = subst (λ f. AreFields f t) c.in-Sorted.is are in
    let names = rw c.deref.ensures.value at c.binary_search.ensures.position in
    let range = rw c.deref.ensures.value at c.binary_search.ensures.bound in
    c.is_ok.ensures.value ∙ searched c.args.name.now t c.in-Sorted.names.items c.binary_search.result sorted range names
