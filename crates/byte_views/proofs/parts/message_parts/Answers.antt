use Rattle.std.proofs.Common.{subst, sym, refl, ◌∙◌, arith}
use Rattle.std.specs.Int.{w32}
use Rattle.std.proofs.lemmas.Int.{to_z-of_z}
use Rattle.wire_msg.specs.RawMsg.{msg_bytes}
use Rattle.wire_msg.specs.Spelling.{SpellsMsg}
use Rattle.wire_msg.proofs.Lemmas.{msg_read}
use Rattle.byte_views.specs.Parts.{is_message}
use Rattle.byte_views.proofs.PartLaws.{all_sections, told_fault}
use Rattle.byte_views.proofs.parts.message_parts.Goals as goal

pub flag_bits-requires : goal.flag_bits-requires
flag_bits-requires g c =
    let found = c.in-Ok.ensures.found in
    omega (arith, (msg_read found.1.1.0 c.args.bytes.now found.1.1.1).long)

pub returns-in-Ok-clause-read : goal.returns-in-Ok-clause-read
returns-in-Ok-clause-read g c = λ within.
    let found = c.in-Ok.ensures.found in
    let m = found.1.1.0 in
    let s = found.1.1.1 in
    let same : SpellsMsg m (msg_bytes c.in-Ok.message) = subst (SpellsMsg m) (sym found.0) s in
    let id = c.id.ensures m same in
    let to = c.response_to.ensures m same in
    let flags = c.flags-flags.ensures m same in
    let word = c.flag_bits.ensures ∙ (msg_read m c.args.bytes.now s).word in
    is_message m s found.1.0 (rw (id, to, flags, word, to_z-of_z w32 m.id s.id, to_z-of_z w32 m.response_to s.response_to, c.none-none.ensures) refl)

pub returns-in-Ok-clause-sections : goal.returns-in-Ok-clause-sections
returns-in-Ok-clause-sections g c = λ none m s. all_sections c.args.bytes.now m s

pub returns-in-Err-clause-read : goal.returns-in-Err-clause-read
returns-in-Err-clause-read g c = λ within. told_fault c.args.limit c.args.bytes.now c.in-Err.found _ _ _ c.in-Err.ensures.fault c.of_message.ensures c.inside.ensures c.of_fault-in-Err.ensures
