use Rattle.std.proofs.Common.{ℕ, ℤ, List, ◌++◌, ap, sym, subst, ◌∙◌, of_z, to_z, w32}
use Rattle.std.proofs.lemmas.Int.{to_z-of_z}
use Rattle.bson_elem.specs.{Spells}
use Rattle.bson_raw.specs.{document_bytes}
use Rattle.wire_msg.specs.{IsWriteRefusal, Message, SpellsMsg, msg_bytes}
use Rattle.wire_msg.specs.declared.refusal.MsgRefusal.{MsgRefusal}
use Rattle.wire_query.specs.{reply_bytes, reply_len}
use Rattle.wire_query.specs.Replies.{command_head}
use Rattle.wire_query.specs.declared.reply.ReplyHead.{ReplyHead}
use Rattle.wire_serve.proofs.Sequencing.{none_left, some_left}
use Rattle.wire_serve.proofs.respelling.respelled.Goals as goal
use Rattle.wire_msg.specs.declared.header.TheConstants.{MAX_MESSAGE_LEN}

-- a number as its 32 bits, and back
abbrev again : ℤ → ℤ
again z = to_z w32 (of_z w32 z)

pub returns-then-is_some : goal.returns-then-is_some
returns-then-is_some c = λ m s le none.
    let t : SpellsMsg m (msg_bytes c.in-Ok.message) = subst (SpellsMsg m) (sym c.in-Ok.ensures.found.0) s in
    some_left c.sequences.result c.next.new.self c.next.result c.next.ensures.steps (sym c.is_some.ensures ∙ c.if-is_some.true)
    m.content.sequences (c.sequences.ensures m.content (c.payload-payload.ensures m t)) none

pub returns-in-Ok-write_reply : goal.returns-in-Ok-write_reply
returns-in-Ok-write_reply c =
    let found = c.in-Ok.ensures.found in
    let m : Message = found.1.1.0 in
    let t : SpellsMsg m (msg_bytes c.in-Ok.message) = subst (SpellsMsg m) (sym found.0) found.1.1.1 in
    let b : Spells m.content.body (document_bytes c.body.result) = c.body.ensures m.content (c.payload-payload.ensures m t) in
    let w = c.in-Ok-write_reply.ensures.written m.content.body b in
    let i = c.id.ensures m t in
    let r = c.response_to.ensures m t in
    record {
      m = m;
      spelled = found.1.1.1;
      alone = none_left c.sequences.result c.next.new.self c.next.result c.next.ensures.steps (sym c.is_some.ensures ∙ c.if-is_some.false)
          m.content.sequences (c.sequences.ensures m.content (c.payload-payload.ensures m t));
      same = w ∙ ap (λ (x : List ℕ). x ++ reply_bytes c.of_command-head.result m.content.body) c.new-reply.ensures.items
          ∙ ap (λ (h : ReplyHead). reply_bytes h m.content.body) (c.of_command-head.ensures
          ∙ ap (λ (z : ℤ). command_head z (again c.response_to.result)) (ap again i ∙ to_z-of_z w32 m.id t.id)
          ∙ ap (λ (z : ℤ). command_head m.id z) (ap again r ∙ to_z-of_z w32 m.response_to t.response_to));
    }

pub returns-in-Err-TooLarge : goal.returns-in-Err-TooLarge
returns-in-Err-TooLarge c = λ m s.
    let t : SpellsMsg m (msg_bytes c.in-Ok.message) = subst (SpellsMsg m) (sym c.in-Ok.ensures.found.0) s in
    let b : Spells m.content.body (document_bytes c.body.result) = c.body.ensures m.content (c.payload-payload.ensures m t) in
    subst (λ (e : MsgRefusal). IsWriteRefusal MAX_MESSAGE_LEN (reply_len m.content.body) e) c.in-Err-TooLarge.field-0-is
    (c.in-Err-TooLarge.ensures.refused m.content.body b)
