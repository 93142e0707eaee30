use Rattle.std.proofs.Common.{◌≡◌, ◌≢◌, ℕ, ◌+◌, ◌<◌, List, length, drop, sym, subst, arith, ◌∙◌}
use Rattle.std.proofs.lemmas.List.{take_rest}
use Rattle.std.proofs.lemmas.Result.{err_from_is_err_and}
use Rattle.bson_elem.specs.Faults.{FrontFault}
use Rattle.bson_raw.specs.RawDocument.{document_bytes}
use Rattle.wire_msg.specs.declared.fault.MsgFault.{MsgFault}
use Rattle.wire_msg.specs.Faults.{SectionsFault}
use Rattle.wire_msg.specs.Checks.{IsRun}
use Rattle.wire_msg.proofs.SectionLaws.{bad_run_before, no_body_at, kind_before, body_fails, body_at, bad_run_after, split, second_body, kind_after}
use Rattle.wire_msg.proofs.sections.split_sections.Goals as goal

-- a fault that was made is told
told : (bytes : List ℕ) (f g : MsgFault) → f ≡ g → SectionsFault (drop 20 bytes) g → SectionsFault (drop 20 bytes) f
told bytes f g e fault = subst (λ (x : MsgFault). SectionsFault (drop 20 bytes) x) (sym e) fault

-- the run before the body doesn't reach the end
inside : (bytes : List ℕ) (start at : ℕ) → IsRun bytes start at → at ≢ length bytes → at < length bytes
inside bytes start at r ne = omega (arith, r.within)

pub returns-in_err-at : goal.returns-in_err-at
returns-in_err-at c =
    let p = err_from_is_err_and c.from_residual.result c.from_residual.ensures.1 in
    rw (p.1, p.2) (bad_run_before c.args.bytes.now _ c.in_err-at.ensures)

pub returns-then-at-bytes : goal.returns-then-at-bytes
returns-then-at-bytes c = told c.args.bytes.now _ _ c.fault_at.ensures (no_body_at c.args.bytes.now c.in_ok-at.at c.in_ok-at.ensures c.if-at-bytes.true)

pub returns-then-bytes-at-ne-BODY : goal.returns-then-bytes-at-ne-BODY
returns-then-bytes-at-ne-BODY c =
    told c.args.bytes.now _ _ c.fault_at-then-bytes-at-ne-BODY.ensures
    (kind_before c.args.bytes.now c.in_ok-at.at c.in_ok-at.ensures (inside c.args.bytes.now 20 c.in_ok-at.at c.in_ok-at.ensures c.if-at-bytes.false) c.if-bytes-at-ne-BODY.true)

pub returns-in-Err : goal.returns-in-Err
returns-in-Err c =
    let front = subst (λ (x : List ℕ). FrontFault x c.in-Err.inner) (take_rest c.args.bytes.now (c.in_ok-at.at + 1)) c.in-Err.ensures.fault in
    told c.args.bytes.now _ _ c.fault_at-in-Err.ensures
    (body_fails c.args.bytes.now c.in_ok-at.at c.in-Err.inner c.in_ok-at.ensures (inside c.args.bytes.now 20 c.in_ok-at.at c.in_ok-at.ensures c.if-at-bytes.false) c.if-bytes-at-ne-BODY.false front)

pub returns-in_err-end : goal.returns-in_err-end
returns-in_err-end c =
    let p = err_from_is_err_and c.from_residual-in_err-end.result c.from_residual-in_err-end.ensures.1 in
    let b = body_at c.args.bytes.now c.in_ok-at.at (document_bytes c.in-Ok.read.0) c.in-Ok.read.1.now c.in_ok-at.ensures (inside c.args.bytes.now 20 c.in_ok-at.at c.in_ok-at.ensures c.if-at-bytes.false) c.if-bytes-at-ne-BODY.false (sym (take_rest c.args.bytes.now (c.in_ok-at.at + 1)) ∙ c.in-Ok.ensures.found.0) c.in-Ok.ensures.found.1 in
    rw (p.1, p.2) (bad_run_after c.args.bytes.now c.in_ok-at.at _ _ _ b c.in_err-end.ensures)

pub returns-then-end-bytes : goal.returns-then-end-bytes
returns-then-end-bytes c =
    let b = body_at c.args.bytes.now c.in_ok-at.at (document_bytes c.in-Ok.read.0) c.in-Ok.read.1.now c.in_ok-at.ensures (inside c.args.bytes.now 20 c.in_ok-at.at c.in_ok-at.ensures c.if-at-bytes.false) c.if-bytes-at-ne-BODY.false (sym (take_rest c.args.bytes.now (c.in_ok-at.at + 1)) ∙ c.in-Ok.ensures.found.0) c.in-Ok.ensures.found.1 in
    split c.args.bytes.now c.in_ok-at.at _ c.in_ok-end.end _ b c.in_ok-end.ensures c.if-end-bytes.true

pub returns-then-bytes-end-eq-BODY : goal.returns-then-bytes-end-eq-BODY
returns-then-bytes-end-eq-BODY c =
    let b = body_at c.args.bytes.now c.in_ok-at.at (document_bytes c.in-Ok.read.0) c.in-Ok.read.1.now c.in_ok-at.ensures (inside c.args.bytes.now 20 c.in_ok-at.at c.in_ok-at.ensures c.if-at-bytes.false) c.if-bytes-at-ne-BODY.false (sym (take_rest c.args.bytes.now (c.in_ok-at.at + 1)) ∙ c.in-Ok.ensures.found.0) c.in-Ok.ensures.found.1 in
    told c.args.bytes.now _ _ c.fault_at-then-bytes-end-eq-BODY.ensures
    (second_body c.args.bytes.now c.in_ok-at.at _ c.in_ok-end.end _ b c.in_ok-end.ensures (inside c.args.bytes.now _ c.in_ok-end.end c.in_ok-end.ensures c.if-end-bytes.false) c.if-bytes-end-eq-BODY.true)

pub returns-else-bytes-end-eq-BODY : goal.returns-else-bytes-end-eq-BODY
returns-else-bytes-end-eq-BODY c =
    let b = body_at c.args.bytes.now c.in_ok-at.at (document_bytes c.in-Ok.read.0) c.in-Ok.read.1.now c.in_ok-at.ensures (inside c.args.bytes.now 20 c.in_ok-at.at c.in_ok-at.ensures c.if-at-bytes.false) c.if-bytes-at-ne-BODY.false (sym (take_rest c.args.bytes.now (c.in_ok-at.at + 1)) ∙ c.in-Ok.ensures.found.0) c.in-Ok.ensures.found.1 in
    told c.args.bytes.now _ _ c.fault_at-else-bytes-end-eq-BODY.ensures
    (kind_after c.args.bytes.now c.in_ok-at.at _ c.in_ok-end.end _ b c.in_ok-end.ensures (inside c.args.bytes.now _ c.in_ok-end.end c.in_ok-end.ensures c.if-end-bytes.false) c.if-bytes-end-eq-BODY.false)
