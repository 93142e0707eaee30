use Rattle.std.proofs.Common.{◌≡◌, ◌≢◌, ◌+◌, ◌-◌, ◌<◌, ◌≤◌, ◌^◌, [], List, ℕ, length, sym, ap, subst, arith}
use Rattle.std.proofs.lemmas.Bool.Decides.{nat_tests}
use Rattle.std.proofs.lemmas.Grind.{not_there}
use Rattle.std.proofs.lemmas.Result.{err_from_is_err_and}
use Rattle.std.specs.Vec.{vec_len}
use Rattle.bson_elem.specs.Trees.{Tree}
use Rattle.bson_elem.specs.Spelling.{Spells}
use Rattle.bson_raw.specs.Spelled.{IsSpelled}
use Rattle.bson_raw.specs.RawDocument.{document_bytes}
use Rattle.wire_msg.specs.Messages.{Content}
use Rattle.wire_msg.specs.Spelling.{message_len}
use Rattle.wire_msg.specs.Payload.{AreParts}
use Rattle.wire_msg.specs.Buf.{with_document}
use Rattle.wire_msg.proofs.AppendLaws.{parts_long, has_sequences, has_none, last_inside, length-with_document, with_document_are, document_added, same_payload}
use Rattle.wire_msg.proofs.WriteLaws.{on_both}
use Rattle.wire_msg.proofs.payload_buf.PayloadBuf.push_document.Goals as goal

pub returns-then-is_empty-clause-refused : goal.returns-then-is_empty-clause-refused
returns-then-is_empty-clause-refused c = λ content t p spelled.
    let s = c.args.self.now in
    let none : length s.sequences.items ≡ 0 = grind (arith, nat_tests) in
    has_none s.body.items s.sequences.items content none p

pub returns-then-bytes-room-clause-refused : goal.returns-then-bytes-room-clause-refused
returns-then-bytes-room-clause-refused c = λ content t p spelled.
    let s = c.args.self.now in
    let d = document_bytes c.args.document in
    let some : length s.sequences.items ≢ 0 = λ e. grind (arith, nat_tests) in
    let begun : content.sequences ≢ [] = has_sequences s.body.items s.sequences.items content some p in
    (begun, omega (arith, c.if-bytes-room.true, c.room.ensures content p, ap length c.as_bytes-bytes.ensures.bytes, length-with_document content t d begun spelled))

pub append_document-requires-clause-begun : goal.append_document-requires-clause-begun
append_document-requires-clause-begun c =
    let s = c.args.self.now in
    let some : length s.sequences.items ≢ 0 = λ e. grind (arith, nat_tests) in
    omega (arith, last_inside s.body.items s.sequences.items s.last some s.last_is s.valid)

pub append_document-requires-clause-short : goal.append_document-requires-clause-short
append_document-requires-clause-short c =
    let s = c.args.self.now in
    let no : 2 ^ 32 ≤ vec_len s.sequences + length c.as_bytes-bytes.result.now → ⊥ = λ le. not_there s.valid (λ k. omega (arith, le, c.if-bytes-room.false, c.room.ensures k.0 k.1, parts_long s.body.items s.sequences.items k.0 k.1)) in
    omega (arith, no)

pub invariant_of-self : goal.invariant_of-self
invariant_of-self c =
    let s = c.args.self.now in
    let b = s.body.items in
    let sequences = s.sequences.items in
    let d = c.as_bytes-bytes.result.now in
    let new = c.append_document.new.sequences.items in
    let some : length sequences ≢ 0 = λ e. grind (arith, nat_tests) in
    let size : vec_len s.sequences + length d - (s.last + 1) ≡ length sequences + length d - (s.last + 1) = omega arith in
    let spelled : ∥ IsSpelled d ∥₁ = subst (λ (x : List ℕ). ∥ IsSpelled x ∥₁) (sym c.as_bytes-bytes.ensures.bytes) c.args.document.spelled in
    let fits : (content : Content) (t : Tree) → AreParts [] b sequences content → Spells t d → (content.sequences ≢ []) × (message_len (with_document content t) < 2 ^ 31) = λ content t p is.
    let begun : content.sequences ≢ [] = has_sequences b sequences content some p in
    (begun, omega (arith, c.if-bytes-room.false, c.room.ensures content p, length-with_document content t d begun is)) in
    let known = on_both c.append_document.result _ _ _ c.append_document.ensures.added c.append_document.ensures.unchanged
    (λ is. document_added b sequences new d s.last _ s.last_is fits size is s.valid spelled)
    (λ is. same_payload b sequences new s.last is s.last_is s.valid) in
    record { valid = known.0; last_is = known.1 }

pub returns-in_err-append_document-clause-refused : goal.returns-in_err-append_document-clause-refused
returns-in_err-append_document-clause-refused c = λ content t p spelled.
    let s = c.args.self.now in
    let d = document_bytes c.args.document in
    let some : length s.sequences.items ≢ 0 = λ e. grind (arith, nat_tests) in
    let begun : content.sequences ≢ [] = has_sequences s.body.items s.sequences.items content some p in
    let short : message_len (with_document content t) < 2 ^ 31 = omega (arith, c.if-bytes-room.false, c.room.ensures content p, ap length c.as_bytes-bytes.ensures.bytes, length-with_document content t d begun spelled) in
    let told = err_from_is_err_and c.from_residual.result c.from_residual.ensures.1 in
    rw (told.1, told.2) (begun, short)

pub returns-clause-begun : goal.returns-clause-begun
returns-clause-begun c = λ content p.
    let s = c.args.self.now in
    let some : length s.sequences.items ≢ 0 = λ e. grind (arith, nat_tests) in
    has_sequences s.body.items s.sequences.items content some p

pub returns-clause-added : goal.returns-clause-added
returns-clause-added c = λ content t p spelled.
    let s = c.args.self.now in
    let d = c.as_bytes-bytes.result.now in
    let some : length s.sequences.items ≢ 0 = λ e. grind (arith, nat_tests) in
    let begun : content.sequences ≢ [] = has_sequences s.body.items s.sequences.items content some p in
    let size : vec_len s.sequences + length d - (s.last + 1) ≡ length s.sequences.items + length d - (s.last + 1) = omega arith in
    let is : Spells t d = subst (Spells t) (sym c.as_bytes-bytes.ensures.bytes) spelled in
    let short : message_len (with_document content t) < 2 ^ 31 = omega (arith, c.if-bytes-room.false, c.room.ensures content p, length-with_document content t d begun is) in
    with_document_are s.body.items s.sequences.items c.append_document.new.sequences.items d content t s.last _ p begun s.last_is is size c.in_ok-append_document.ensures.added short
