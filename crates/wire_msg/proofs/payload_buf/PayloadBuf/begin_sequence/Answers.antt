use Rattle.std.proofs.Common.{◌≡◌, ◌+◌, ◌<◌, ◌≤◌, ◌^◌, length, sym, subst, ◌∙◌, arith}
use Rattle.std.proofs.lemmas.Grind.{not_there}
use Rattle.std.proofs.lemmas.Result.{err_from_is_err_and}
use Rattle.std.specs.Vec.{vec_len}
use Rattle.bson_raw.specs.Pairs.{first_named}
use Rattle.wire_msg.specs.Spelling.{message_len}
use Rattle.wire_msg.specs.Known.{IsLastOffset}
use Rattle.wire_msg.specs.Buf.{with_sequence, IsFree}
use Rattle.wire_msg.proofs.NameLaws.{field_found, found_shown}
use Rattle.wire_msg.proofs.AppendLaws.{parts_long, length-with_sequence, free_name, with_sequence_are, sequence_begun, same_payload}
use Rattle.wire_msg.proofs.payload_buf.PayloadBuf.begin_sequence.Goals as goal

pub returns-then-is_some-clause-refused : goal.returns-then-is_some-clause-refused
returns-then-is_some-clause-refused c = λ content p.
    let name = c.args.identifier.now in
    sym (field_found name content.body) ∙ sym (found_shown c.get.result (first_named name content.body) (c.get.ensures content.body (c.body.ensures content (c.as_payload.ensures content p)))) ∙ sym c.is_some.ensures ∙ c.if-is_some.true

pub returns-then-identifier-room-clause-refused : goal.returns-then-identifier-room-clause-refused
returns-then-identifier-room-clause-refused c = λ content p.
    let name = c.args.identifier.now in
    let free : IsFree content name = free_name content name c.as_bytes.result.now c.get.result (c.get.ensures content.body (c.body.ensures content (c.as_payload.ensures content p))) (sym c.is_some.ensures ∙ c.if-is_some.false) c.as_bytes.ensures.value (sym c.contains.ensures.value ∙ c.if-contains.false) in
    (free, omega (arith, c.if-identifier-room.true, c.room.ensures content p, length-with_sequence content name))

pub append_sequence-requires : goal.append_sequence-requires
append_sequence-requires c =
    let s = c.args.self.now in
    let no : 2 ^ 32 ≤ vec_len s.sequences + length c.args.identifier.now + 6 → ⊥ = λ le. not_there s.valid (λ k. omega (arith, le, c.if-identifier-room.false, c.room.ensures k.0 k.1, parts_long s.body.items s.sequences.items k.0 k.1)) in
    omega (arith, no)

pub invariant_of-self : goal.invariant_of-self
invariant_of-self c =
    let s = c.args.self.now in
    let same = same_payload s.body.items s.sequences.items c.append_sequence.new.sequences.items s.last c.in_err-append_sequence.ensures.unchanged s.last_is s.valid in
    record { valid = same.0; last_is = same.1 }

pub returns-in_err-append_sequence-clause-refused : goal.returns-in_err-append_sequence-clause-refused
returns-in_err-append_sequence-clause-refused c = λ content p.
    let name = c.args.identifier.now in
    let free : IsFree content name = free_name content name c.as_bytes.result.now c.get.result (c.get.ensures content.body (c.body.ensures content (c.as_payload.ensures content p))) (sym c.is_some.ensures ∙ c.if-is_some.false) c.as_bytes.ensures.value (sym c.contains.ensures.value ∙ c.if-contains.false) in
    let short : message_len (with_sequence content name) < 2 ^ 31 = omega (arith, c.if-identifier-room.false, c.room.ensures content p, length-with_sequence content name) in
    let told = err_from_is_err_and c.from_residual.result c.from_residual.ensures.1 in
    rw (told.1, told.2) (free, short)

pub invariant_of-self-2 : goal.invariant_of-self-2
invariant_of-self-2 c =
    let s = c.args.self.now in
    let name = c.args.identifier.now in
    let at : length s.sequences.items ≡ c.len-last.result = omega arith in
    let known = sequence_begun s.body.items s.sequences.items c.append_sequence.new.sequences.items name c.utf8.identifier (λ content p.
    let free : IsFree content name = free_name content name c.as_bytes.result.now c.get.result (c.get.ensures content.body (c.body.ensures content (c.as_payload.ensures content p))) (sym c.is_some.ensures ∙ c.if-is_some.false) c.as_bytes.ensures.value (sym c.contains.ensures.value ∙ c.if-contains.false) in
    (free, omega (arith, c.if-identifier-room.false, c.room.ensures content p, length-with_sequence content name))) c.in_ok-append_sequence.ensures.added s.valid in
    record { valid = known.0; last_is = subst (IsLastOffset c.append_sequence.new.sequences.items) at known.1 }

pub returns-clause-added : goal.returns-clause-added
returns-clause-added c = λ content p.
    let s = c.args.self.now in
    let name = c.args.identifier.now in
    let free : IsFree content name = free_name content name c.as_bytes.result.now c.get.result (c.get.ensures content.body (c.body.ensures content (c.as_payload.ensures content p))) (sym c.is_some.ensures ∙ c.if-is_some.false) c.as_bytes.ensures.value (sym c.contains.ensures.value ∙ c.if-contains.false) in
    let short : message_len (with_sequence content name) < 2 ^ 31 = omega (arith, c.if-identifier-room.false, c.room.ensures content p, length-with_sequence content name) in
    with_sequence_are s.body.items s.sequences.items c.append_sequence.new.sequences.items content name p c.utf8.identifier free c.in_ok-append_sequence.ensures.added short
