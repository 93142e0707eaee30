use Rattle.std.proofs.Common.{ap, Err}
use Rattle.bson_elem.proofs.Lemmas.{no_front, one_front}
use Rattle.bson_raw.proofs.Fronts.{front_only, front_no_fault}
use Rattle.bson_raw.proofs.document.RawDocument.front_with_form.Goals as goal

pub returns-in-Ok-clause-only : goal.returns-in-Ok-clause-only
returns-in-Ok-clause-only c = λ t b rest s is. front_only c.args.bytes.now c.in-Ok.whole.now c.in-Ok.rest.now t b rest (λ i. (c.type_inv.bytes i).fits) c.in-Ok.ensures.parts s is

pub returns-in-Ok-clause-exact : goal.returns-in-Ok-clause-exact
returns-in-Ok-clause-exact c = λ f fault. absurd (front_no_fault c.args.bytes.now c.in-Ok.whole.now c.in-Ok.rest.now f (λ i. (c.type_inv.bytes i).fits) c.in-Ok.ensures.parts fault)

pub returns-in-Err-clause-only : goal.returns-in-Err-clause-only
returns-in-Err-clause-only c = λ t b rest s is. no_front c.args.bytes.now t b rest c.in-Err.fault (λ i. (c.type_inv.bytes i).fits) s is c.in-Err.ensures.parts

pub returns-in-Err-clause-exact : goal.returns-in-Err-clause-exact
returns-in-Err-clause-exact c = λ f fault. ap Err (one_front c.args.bytes.now c.in-Err.fault f (λ i. (c.type_inv.bytes i).fits) c.in-Err.ensures.parts fault)
