use Rattle.std.proofs.Common.{◌≡◌, ◌≤◌, ℕ, List, take, length, sym, ap, subst, ◌∙◌, arith}
use Rattle.std.proofs.lemmas.Result.{err_from_is_err_and}
use Rattle.wire_msg.specs.declared.header.MsgHeader.{MsgHeader}
use Rattle.wire_msg.specs.declared.fault.MsgFault.{MsgFault}
use Rattle.wire_msg.specs.Header.{header_of, IsGoodHeader, HeaderFault}
use Rattle.wire_msg.specs.Faults.{FaultMsg, of_frame, no_header, of_header, unlike}
use Rattle.wire_msg.proofs.FrameLaws.{header_of-take}
use Rattle.wire_msg.proofs.msg.check_framed.Goals as goal

-- the header that was read is that of the bytes
is_header : (bytes chunk : List ℕ) (h : MsgHeader) → h ≡ header_of chunk → chunk ≡ take 16 bytes → h ≡ header_of bytes
is_header bytes chunk h read is = read ∙ ap header_of is ∙ header_of-take bytes

told : (bytes : List ℕ) (limit : ℕ) (h : MsgHeader) (f : MsgFault) → 16 ≤ length bytes → h ≡ header_of bytes → HeaderFault limit h f → FaultMsg bytes limit f
told bytes limit h f room is fault = of_frame (of_header room (subst (λ (x : MsgHeader). HeaderFault limit x f) is fault))

pub returns-in_default : goal.returns-in_default
returns-in_default c = of_frame (no_header c.in_default.ensures.cases c.fault_at.ensures)

pub returns-in_err-check : goal.returns-in_err-check
returns-in_err-check c =
    let p = err_from_is_err_and c.from_residual.result c.from_residual.ensures.1 in
    let is = is_header c.args.bytes.now c.in-Some.header.now c.read-header.result c.read-header.ensures c.in-Some.ensures.cases.0 in
    rw (p.1, p.2) (told c.args.bytes.now c.args.limit c.read-header.result _ (omega (arith, c.in-Some.ensures.cases.2)) is c.in_err-check.ensures)

pub returns-then-header-bytes : goal.returns-then-header-bytes
returns-then-header-bytes c =
    let is = is_header c.args.bytes.now c.in-Some.header.now c.read-header.result c.read-header.ensures c.in-Some.ensures.cases.0 in
    of_frame (unlike (omega (arith, c.in-Some.ensures.cases.2)) (subst (IsGoodHeader c.args.limit) is c.in_ok-check.ensures) (λ e. c.if-header-bytes.true (ap (λ (h : MsgHeader). h.length) is ∙ e)) c.fault_at-then-header-bytes.ensures)

pub returns : goal.returns
returns c =
    let is = is_header c.args.bytes.now c.in-Some.header.now c.read-header.result c.read-header.ensures c.in-Some.ensures.cases.0 in
    record { header = omega (arith, c.in-Some.ensures.cases.2); good = subst (IsGoodHeader c.args.limit) is c.in_ok-check.ensures; whole = sym (ap (λ (h : MsgHeader). h.length) is) ∙ c.if-header-bytes.false }
