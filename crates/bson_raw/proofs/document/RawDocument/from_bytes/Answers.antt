use Rattle.std.proofs.Common.{refl, ap, Err}
use Rattle.std.proofs.lemmas.Bool.{iff_false}
use Rattle.bson_raw.specs.Spelled.{IsLengthOf, unlike, as_front}
use Rattle.bson_elem.proofs.Lemmas.{one_front}
use Rattle.bson_raw.proofs.Fronts.{front_no_fault, whole_only, fault_front}
use Rattle.bson_raw.proofs.document.RawDocument.from_bytes.Goals as goal

pub returns-then-not-is_length_of-clause-fault : goal.returns-then-not-is_length_of-clause-fault
returns-then-not-is_length_of-clause-fault c = unlike (iff_false c.is_length_of.ensures c.if-not-is_length_of.true) refl

pub returns-in-Ok-clause-exact : goal.returns-in-Ok-clause-exact
returns-in-Ok-clause-exact c = λ f w.
    let is : IsLengthOf c.args.bytes.now = c.is_length_of.ensures.0 c.if-not-is_length_of.false in
    absurd (front_no_fault c.args.bytes.now c.in-Ok.whole.now c.in-Ok.field-0-2.now f (λ i. (c.type_inv.bytes i).fits) c.in-Ok.ensures.parts (fault_front c.args.bytes.now f is w))

pub returns-in-Err-clause-only : goal.returns-in-Err-clause-only
returns-in-Err-clause-only c = λ s. absurd (whole_only c.args.bytes.now c.in-Err.fault (λ i. (c.type_inv.bytes i).fits) s c.in-Err.ensures.parts)

pub returns-in-Err-clause-fault : goal.returns-in-Err-clause-fault
returns-in-Err-clause-fault c =
    let is : IsLengthOf c.args.bytes.now = c.is_length_of.ensures.0 c.if-not-is_length_of.false in
    as_front is c.in-Err.ensures.parts

pub returns-in-Err-clause-exact : goal.returns-in-Err-clause-exact
returns-in-Err-clause-exact c = λ f w.
    let is : IsLengthOf c.args.bytes.now = c.is_length_of.ensures.0 c.if-not-is_length_of.false in
    ap Err (one_front c.args.bytes.now c.in-Err.fault f (λ i. (c.type_inv.bytes i).fits) c.in-Err.ensures.parts (fault_front c.args.bytes.now f is w))
