-- What a message and a payload carry, by their bytes.
use Rattle.std.proofs.Common.{◌≡◌, ℕ, [], List, ◌++◌, length, refl, sym, ap, subst, ◌∙◌, arith, length-append, length-drop}
use Rattle.std.proofs.lemmas.List.{append-nil}
use Rattle.bson_elem.specs.Trees.{Tree}
use Rattle.bson_elem.specs.Spelling.{Spells}
use Rattle.bson_elem.proofs.Lemmas.{same_front}
use Rattle.wire_msg.specs.Messages.{Sequence, Content, Message, AreSequences}
use Rattle.wire_msg.specs.Spelling.{body_section, sequences_bytes, SpellsMsg, message_len}
use Rattle.wire_msg.specs.Payload.{AreParts}
use Rattle.wire_msg.proofs.SequenceLaws.{sequences-append}
use Rattle.wire_msg.proofs.LastLaws.{same_sequences}
use Rattle.wire_msg.proofs.MsgAnswers.{msg_read, AreSequences-split}

-- each spelling of a message is as long as the canonical one
pub length-spelled : (m : Message) (bytes : List ℕ) → SpellsMsg m bytes → length bytes ≡ message_len m.content
length-spelled m bytes s =
    let r = msg_read m bytes s in
    let body : List ℕ = body_section m.content.body in
    let all : sequences_bytes m.content.sequences ≡ sequences_bytes s.before ++ sequences_bytes s.after = ap sequences_bytes s.in_order ∙ sequences-append s.before s.after in
    omega (arith, r.long, ap length r.sections, length-drop 20 bytes, ap length all, length-append (sequences_bytes s.before) (sequences_bytes s.after), length-append (sequences_bytes s.before) (body ++ sequences_bytes s.after), length-append body (sequences_bytes s.after), length-append body (sequences_bytes m.content.sequences))

one_body : (t u : Tree) (bytes : List ℕ) → Spells t bytes → Spells u bytes → t ≡ u
one_body t u bytes s s' = (same_front bytes t u bytes bytes [] [] s s' (sym (append-nil bytes)) (sym (append-nil bytes))).0

abbrev content : Tree → List Sequence → Content
content t qs = record { body = t; sequences = qs }

same_content : (t u : Tree) (qs rs : List Sequence) → t ≡ u → qs ≡ rs → content t qs ≡ content u rs
same_content t u qs rs a b = rw (a, b) refl

-- the parts of a payload carry one content
pub one_content : (before body after : List ℕ) (c d : Content) → AreParts before body after c → AreParts before body after d → c ≡ d
one_content before body after c d p q =
    let fits = AreSequences-split p.first p.last (subst AreSequences p.in_order p.content.sequences) in
    let fits' = AreSequences-split q.first q.last (subst AreSequences q.in_order q.content.sequences) in
    let first : p.first ≡ q.first = same_sequences p.first q.first fits.0 fits'.0 (sym p.first_are ∙ q.first_are) in
    let last : p.last ≡ q.last = same_sequences p.last q.last fits.1 fits'.1 (sym p.last_are ∙ q.last_are) in
    let all : c.sequences ≡ d.sequences = p.in_order ∙ ap (λ (x : List Sequence). x ++ p.last) first ∙ ap (λ (x : List Sequence). q.first ++ x) last ∙ sym q.in_order in
    same_content c.body d.body c.sequences d.sequences (one_body c.body d.body body p.body_is q.body_is) all
