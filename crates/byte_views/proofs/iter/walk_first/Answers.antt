use Rattle.std.proofs.Common.{Some, ap, refl, ◌∙◌}
use Rattle.bson_elem.specs.declared.fault.BsonFault.{BsonFault}
use Rattle.byte_views.specs.Fault.{first_fault}
use Rattle.byte_views.specs.Iters.{first_fails, has_fault, other_length}
use Rattle.byte_views.proofs.Begins.{begins_with, spelled_begins}
use Rattle.byte_views.proofs.Told.{counted_from_0}
use Rattle.byte_views.proofs.iter.walk_first.Goals as goal

pub returns-then-not-is_length_of-clause-first : goal.returns-then-not-is_length_of-clause-first
returns-then-not-is_length_of-clause-first c =
    other_length (λ is. absurd (let no = c.if-not-is_length_of.ensures.1 is in cc))
    (c.of_fault.ensures ∙ ap first_fails (c.of_document-fault.ensures ∙ counted_from_0 c.fault_at.result ∙ ap (λ (f : BsonFault). first_fault (Some f)) c.fault_at.ensures))

pub returns-in-Ok-clause-first : goal.returns-in-Ok-clause-first
returns-in-Ok-clause-first c = begins_with c.args.bytes.now _ _ _ (λ j. (c.type_inv.bytes j).fits) (c.if-not-is_length_of.ensures.0 refl) c.in-Ok.ensures.read (let h = c.none.ensures in rw h refl)

pub returns-in-Err-clause-first : goal.returns-in-Err-clause-first
returns-in-Err-clause-first c = has_fault c.in-Err.fault (c.if-not-is_length_of.ensures.0 refl) c.in-Err.ensures.read (c.of_fault-in-Err.ensures ∙ ap first_fails (c.of_document.ensures ∙ counted_from_0 c.in-Err.fault))

pub returns-in-Err-clause-pairs : goal.returns-in-Err-clause-pairs
returns-in-Err-clause-pairs c = λ t s. absurd (let ok = spelled_begins c.args.bytes.now t s in let no = c.in-Err.ensures.read in cc)
