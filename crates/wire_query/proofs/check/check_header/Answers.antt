use Rattle.std.proofs.Common.{◌≡◌, ◌≤◌, ℕ, ℤ, List, take, length, sym, ap, ◌∙◌, arith, Fits, w32, to_z, of_z}
use Rattle.std.proofs.Math.Facts.{sfits_to_z}
use Rattle.std.proofs.lemmas.Int.{to_z-of_z}
use Rattle.bson_elem.specs.Spelling.{IsBytes}
use Rattle.wire_msg.specs.declared.header.MsgHeader.{MsgHeader}
use Rattle.wire_msg.specs.Header.{header_of, number_at}
use Rattle.wire_msg.proofs.Lemmas.{header_of-take, number_fits}
use Rattle.wire_query.specs.declared.fault.QueryCause.TheVariants.{Opcode}
use Rattle.wire_query.specs.Causes.{query_fault}
use Rattle.wire_query.specs.Faults.{IsWholeLength, opcode_of, fails, holds}
use Rattle.wire_query.proofs.check.check_header.Goals as goal

-- the header that was read is that of the bytes
is_header : (bytes chunk : List ℕ) (h : MsgHeader) → h ≡ header_of chunk → chunk ≡ take 16 bytes → h ≡ header_of bytes
is_header bytes chunk h read is = read ∙ ap header_of is ∙ header_of-take bytes

-- an opcode as an unsigned number, and back
same_opcode : (bytes : List ℕ) (h : MsgHeader) → IsBytes bytes → h ≡ header_of bytes → to_z w32 (of_z w32 h.opcode) ≡ opcode_of bytes
same_opcode bytes h fits is =
    let number : Fits w32 (number_at bytes 12) = record { fits = number_fits bytes 12 fits } in
    ap (λ (x : MsgHeader). to_z w32 (of_z w32 x.opcode)) is ∙ to_z-of_z w32 (opcode_of bytes) (sfits_to_z number)

whole_length : (limit : ℕ) (bytes : List ℕ) (h : MsgHeader) → h ≡ header_of bytes → 16 ≤ length bytes → h.length ≡ length bytes → h.length ≤ limit → IsWholeLength limit bytes
whole_length limit bytes h is header whole most = record { header = header; whole = sym (ap (λ (x : MsgHeader). x.length) is) ∙ whole; most = omega (arith, whole, most) }

pub returns-then-header-ne-OP_QUERY : goal.returns-then-header-ne-OP_QUERY
returns-then-header-ne-OP_QUERY c =
    let bytes : List ℕ = c.args.bytes.now in
    let h : MsgHeader = c.read-header.result in
    let is = is_header bytes c.in-Some.header.now h c.read-header.ensures c.in-Some.ensures.cases.0 in
    holds (whole_length c.args.limit bytes h is (omega (arith, c.in-Some.ensures.cases.2)) c.if-header-bytes.false c.if-header-limit.false)
    (fails (λ e. c.if-header-ne-OP_QUERY.true (ap (λ (x : MsgHeader). of_z w32 x.opcode) is ∙ ap (of_z w32) e)) (c.fault_at-then-header-ne-OP_QUERY.ensures ∙ ap (λ (z : ℤ). query_fault 12 (Opcode z)) (same_opcode bytes h (λ i. (c.type_inv.bytes i).fits) is)))

pub returns : goal.returns
returns c =
    let bytes : List ℕ = c.args.bytes.now in
    let h : MsgHeader = c.read-header.result in
    let is = is_header bytes c.in-Some.header.now h c.read-header.ensures c.in-Some.ensures.cases.0 in (
      whole_length c.args.limit bytes h is (omega (arith, c.in-Some.ensures.cases.2)) c.if-header-bytes.false c.if-header-limit.false,
      sym (same_opcode bytes h (λ i. (c.type_inv.bytes i).fits) is) ∙ ap (to_z w32) c.if-header-ne-OP_QUERY.false,
    )
