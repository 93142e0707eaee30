use Rattle.std.proofs.Common.{◌≡◌, ℕ, sym, ap, ◌∙◌}
use Rattle.std.specs.Prelude.{slice_range}
use Rattle.std.proofs.lemmas.Result.{err_from_is_err_and}
use Rattle.bson_elem.specs.Checks.{cstring_at}
use Rattle.wire_msg.specs.Faults.{of_size, of_identifier, of_documents, sequence_rest}
use Rattle.wire_msg.proofs.SequenceLaws.{sequence_at}
use Rattle.wire_msg.proofs.sequence.check_sequence.Goals as goal

pub returns-in_default : goal.returns-in_default
returns-in_default c = of_size c.in_default.ensures c.fault_at.ensures

pub returns-in-Err : goal.returns-in-Err
returns-in-Err c =
    let size : cstring_at (sequence_rest c.args.bytes.now) ≡ cstring_at (slice_range c.args.bytes.now 4 c.in-Some.size) = ap (λ (n : ℕ). cstring_at (slice_range c.args.bytes.now 4 n)) (sym c.in-Some.ensures.0) in
    of_identifier c.in-Err.field-0 c.in-Some.ensures.1 (size ∙ c.in-Err.ensures.read) c.fault_at-in-Err.ensures

pub returns-in_err-check_documents-in-Ok : goal.returns-in_err-check_documents-in-Ok
returns-in_err-check_documents-in-Ok c =
    let p = err_from_is_err_and c.from_residual.result c.from_residual.ensures.1 in
    let size : cstring_at (sequence_rest c.args.bytes.now) ≡ cstring_at (slice_range c.args.bytes.now 4 c.in-Some.size) = ap (λ (n : ℕ). cstring_at (slice_range c.args.bytes.now 4 n)) (sym c.in-Some.ensures.0) in
    rw (p.1, p.2) (of_documents c.in-Ok.identifier.now c.in-Ok.documents.now c.in-Some.ensures.1 (size ∙ c.in-Ok.ensures.read) c.in_err-check_documents-in-Ok.ensures)

pub returns-in_ok-check_documents-in-Ok : goal.returns-in_ok-check_documents-in-Ok
returns-in_ok-check_documents-in-Ok c = sequence_at c.args.bytes.now c.in-Some.size c.in-Ok.identifier.now c.in-Ok.documents.now (λ i. (c.type_inv.bytes i).fits) c.in-Some.ensures.1 c.in-Some.ensures.0 c.requires.short c.in-Ok.ensures.read c.in_ok-check_documents-in-Ok.ensures
