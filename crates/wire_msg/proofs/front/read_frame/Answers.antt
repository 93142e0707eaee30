use Rattle.std.proofs.Common.{◌≡◌, ℕ, List, take, ap, subst, ◌∙◌, arith}
use Rattle.wire_msg.specs.declared.header.MsgHeader.{MsgHeader}
use Rattle.wire_msg.specs.Header.{header_of, IsGoodHeader, HeaderFault, number_at}
use Rattle.wire_msg.specs.Standing.{in_header, in_message}
use Rattle.wire_msg.proofs.FrameLaws.{header_of-take}
use Rattle.wire_msg.proofs.FrontLaws.{framed_front}
use Rattle.wire_msg.proofs.front.read_frame.Goals as goal

-- the header that was read is that of the bytes
is_header : (bytes chunk : List ℕ) (h : MsgHeader) → h ≡ header_of chunk → chunk ≡ take 16 bytes → h ≡ header_of bytes
is_header bytes chunk h read is = read ∙ ap header_of is ∙ header_of-take bytes

pub returns-in_default : goal.returns-in_default
returns-in_default c = in_header c.in_default.ensures.cases

pub returns-in-Err : goal.returns-in-Err
returns-in-Err c =
    let is = is_header c.args.bytes.now c.in-Some.header.now c.read-header.result c.read-header.ensures c.in-Some.ensures.cases.0 in
    (omega (arith, c.in-Some.ensures.cases.2), subst (λ (h : MsgHeader). HeaderFault c.args.limit h c.in-Err.fault) is c.in-Err.ensures)

pub returns-then-bytes-len : goal.returns-then-bytes-len
returns-then-bytes-len c =
    let is = is_header c.args.bytes.now c.in-Some.header.now c.read-header.result c.read-header.ensures c.in-Some.ensures.cases.0 in
    in_message (omega (arith, c.in-Some.ensures.cases.2)) (subst (IsGoodHeader c.args.limit) is c.in_default-check.ensures) (omega (arith, c.if-bytes-len.true, ap (λ (h : MsgHeader). h.length) is))

pub returns : goal.returns
returns c =
    let is = is_header c.args.bytes.now c.in-Some.header.now c.read-header.result c.read-header.ensures c.in-Some.ensures.cases.0 in
    let size : c.read-header.result.length ≡ number_at c.args.bytes.now 0 = ap (λ (h : MsgHeader). h.length) is in
    framed_front c.args.limit c.args.bytes.now c.split_at.result.0.now c.split_at.result.1.now c.read-header.result.length
    (subst (IsGoodHeader c.args.limit) is c.in_default-check.ensures) size c.if-bytes-len.false c.split_at.ensures.front c.split_at.ensures.back
