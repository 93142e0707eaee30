-- The numbers of a message.
use Rattle.std.proofs.Common.{◌≡◌, ◌+◌, ℕ, List, [], ◌∷◌, ◌++◌, refl, subst, ◌∙◌, arith}
use Rattle.wire_msg.specs.declared.fault.MsgFault.{MsgFault}
use Rattle.wire_msg.specs.Causes.{msg_fault}
use Rattle.wire_msg.specs.Faults.{FaultMsg, body_seen}
use Rattle.wire_msg.specs.Messages.{AreSequences, Message, Sequence}
use Rattle.wire_msg.specs.Spelling.{SpellsMsg}
use Rattle.wire_msg.proofs.Lemmas.{msg_read}
use Rattle.byte_views.specs.declared.fault.FirstFault.{FirstFault}
use Rattle.byte_views.specs.declared.parts.MessageParts.{MessageParts}
use Rattle.byte_views.specs.Fault.{document_fault, message_fault}
use Rattle.byte_views.specs.Parts.{IsMessageParts, fault_parts, has_fault}
use Rattle.byte_views.specs.Sections.{SectionsFrom}

pub told_fault : (limit : ℕ) (bytes : List ℕ) (f : MsgFault) (a b : FirstFault) (parts : MessageParts) → FaultMsg bytes limit f → a ≡ message_fault (msg_fault (0 + f.at) f.cause) → b ≡ document_fault f.cause → parts ≡ fault_parts a b → IsMessageParts limit bytes parts
told_fault limit bytes f a b parts bad is inside told =
    let e : 0 + f.at ≡ f.at = omega arith in
    has_fault f bad (told ∙ rw (is, inside, e) refl)

split : (before after : List Sequence) → AreSequences (before ++ after) → AreSequences before × AreSequences after
split [] after fit = (tt, fit)
split (q ∷ qs) after fit = let s = split qs after fit.1 in ((fit.0, s.0), s.1)

-- the sections begin behind the header and the flags
pub all_sections : (bytes : List ℕ) (m : Message) (s : SpellsMsg m bytes) → SectionsFrom bytes 20 (body_seen s.before m.content.body s.after)
all_sections bytes m s =
    let r = msg_read m bytes s in
    let parts = split s.before s.after (subst AreSequences s.in_order s.content.sequences) in
    (r.long, (parts.0, s.content.body, parts.1), r.sections)
