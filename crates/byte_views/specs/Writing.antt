-- A message that is written into the room of a caller.
use Rattle.std.specs.Prelude.{◌≡◌, ◌≤◌, ℕ, List, [], Option, None, Some, true, false, nat_eq}
use Rattle.std.specs.Prelude.{if◌then◌else◌}
use Rattle.wire_msg.specs.{Content, Message, canonical, message_len, msg_fault}
use Rattle.wire_msg.specs.Payload.{AreParts}
use Rattle.wire_msg.specs.declared.fault.MsgCause.TheVariants as causes
use Rattle.wire_msg.specs.declared.flags.MsgFlags.{MsgFlags}
use Rattle.byte_views.specs.declared.content.ContentRefusal.{ContentRefusal}
use Rattle.byte_views.specs.declared.content.ContentRefusal.TheVariants as refusals
use Rattle.byte_views.specs.declared.fault.FirstFault.{FirstFault}
use Rattle.byte_views.specs.declared.text.TextWritten.{TextWritten}
use Rattle.byte_views.specs.declared.write.MessageNumbers.{MessageNumbers}
use Rattle.byte_views.specs.declared.write.MessageWritten.{MessageWritten}
use Rattle.byte_views.specs.Contents.{IsContentRefusal}
use Rattle.byte_views.specs.Fault.{document_fault, first_fault, message_fault}
use Rattle.byte_views.specs.Texts.{IsPut, memory_fault, too_large_fault}

-- the flags with these bits: moreToCome is bit 1, exhaustAllowed bit 16, and no other one is set
abbrev pub flags_of : ℕ → Option MsgFlags
flags_of bits =
    if nat_eq bits 0 then Some (record { more_to_come = false; exhaust_allowed = false })
    else if nat_eq bits 2 then Some (record { more_to_come = true; exhaust_allowed = false })
    else if nat_eq bits 65536 then Some (record { more_to_come = false; exhaust_allowed = true })
    else if nat_eq bits 65538 then Some (record { more_to_come = true; exhaust_allowed = true })
    else None

-- the message with these numbers, these flags and this content
abbrev pub message_of : MessageNumbers → MsgFlags → Content → Message
message_of n flags c =
    record { id = n.id; response_to = n.response_to; flags = flags; content = c }

-- there is a message, whose bytes were written or not
abbrev pub message_put : TextWritten → MessageWritten
message_put t = record {
  fault = t.fault;
  document_fault = first_fault None;
  length = t.length;
  written = t.written;
}

-- there is no message, by these faults
abbrev pub no_message : FirstFault → FirstFault → MessageWritten
no_message f inner = record { fault = f; document_fault = inner; length = 0; written = false }

-- there is no message with such flags
abbrev pub flags_fault : FirstFault
flags_fault = message_fault (msg_fault 16 causes.Flags)

-- there is no message with such a content, whose body would stand at offset 21
abbrev pub content_fault : ContentRefusal → MessageWritten
content_fault (refusals.Body f) =
    no_message (message_fault (msg_fault 21 (causes.Document f))) (first_fault (Some f))
content_fault refusals.TooLarge = no_message too_large_fault (first_fault None)
content_fault refusals.OutOfMemory = no_message memory_fault (first_fault None)
content_fault (refusals.Message f) = no_message (message_fault f) (document_fault f.cause)

-- The message with these numbers, this body and these document sequences is put into the room in
-- its canonical spelling; or, for the first of these reasons, the room stays as it was: no message
-- has such flags, none has such a content, or there is no memory for it.
pub data IsMessageWritten (n : MessageNumbers) (body sequences : List ℕ) (limit : ℕ)
    (old new : List ℕ) : MessageWritten → Type 0 where
  is_put : {w : MessageWritten} (flags : MsgFlags) (c : Content) (t : TextWritten)
      → flags_of n.flag_bits ≡ Some flags → AreParts [] body sequences c → message_len c ≤ limit
      → IsPut (canonical (message_of n flags c)) old new t → w ≡ message_put t
      → IsMessageWritten n body sequences limit old new w
  no_memory : {w : MessageWritten} (flags : MsgFlags) (c : Content)
      → flags_of n.flag_bits ≡ Some flags → AreParts [] body sequences c → message_len c ≤ limit
      → w ≡ no_message memory_fault (first_fault None) → new ≡ old
      → IsMessageWritten n body sequences limit old new w
  no_flags : {w : MessageWritten} → flags_of n.flag_bits ≡ None
      → w ≡ no_message flags_fault (first_fault None) → new ≡ old
      → IsMessageWritten n body sequences limit old new w
  no_content : {w : MessageWritten} (flags : MsgFlags) (e : ContentRefusal)
      → flags_of n.flag_bits ≡ Some flags → IsContentRefusal limit body sequences e
      → w ≡ content_fault e → new ≡ old
      → IsMessageWritten n body sequences limit old new w
