-- A message that is written with the content of another one.
use Rattle.std.proofs.Common.{◌≡◌, ◌≤◌, ℕ, List, [], subst, ◌∙◌}
use Rattle.std.specs.Prelude.{Some}
use Rattle.wire_msg.specs.Messages.{Message}
use Rattle.wire_msg.specs.Payload.{AreParts}
use Rattle.wire_msg.specs.Spelling.{IsMessage, SpellsMsg, canonical, message_len}
use Rattle.wire_msg.specs.declared.flags.MsgFlags.{MsgFlags}
use Rattle.byte_views.specs.declared.text.TextWritten.{TextWritten}
use Rattle.byte_views.specs.declared.write.MessageNumbers.{MessageNumbers}
use Rattle.byte_views.specs.declared.write.MessageWritten.{MessageWritten}
use Rattle.byte_views.specs.Texts.{IsPut}
use Rattle.byte_views.specs.Writing.{IsMessageWritten, flags_of, is_put, message_of, message_put}

-- what is put into the room is the message with these numbers and the content that is given
pub written_is_put : (n : MessageNumbers) (flags : MsgFlags) (limit : ℕ) (body sequences message bytes text old new : List ℕ) (t : TextWritten) (w : MessageWritten) → flags_of n.flag_bits ≡ Some flags
    → IsMessage limit message → ((m : Message) → SpellsMsg m message → AreParts [] body sequences m.content) → ((m : Message) → SpellsMsg m message → (bytes ≡ canonical (message_of n flags m.content)) × (message_len m.content ≤ limit))
    → text ≡ bytes → IsPut text old new t → w ≡ message_put t → IsMessageWritten n body sequences limit old new w
written_is_put n flags limit body sequences message bytes text old new t w bits found content spelled same put told =
    let m = found.1.0 in let s = found.1.1 in
    is_put flags m.content t bits (content m s) (spelled m s).1 (subst (λ (x : List ℕ). IsPut x old new t) (same ∙ (spelled m s).0) put) told
