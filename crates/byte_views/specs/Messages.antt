-- What a caller is told of bytes as messages.
use Rattle.std.specs.Prelude.{◌≡◌, ◌≢◌, ℕ, ◌+◌, ◌≤◌, List, [], length, None}
use Rattle.wire_msg.specs.declared.fault.MsgFault.{MsgFault}
use Rattle.wire_msg.specs.{FaultMsg, IsBad, IsOpen, Message, SpellsMsg, Split, msg_fault}
use Rattle.byte_views.specs.declared.messages.MessageCheck.{MessageCheck}
use Rattle.byte_views.specs.declared.messages.MessagesCheck.{MessagesCheck}
use Rattle.byte_views.specs.Fault.{document_fault, ended_inside_fault, first_fault, limit_fault}
use Rattle.byte_views.specs.Fault.{message_fault}

-- ---- exactly one message

-- The bytes are one message within the limit, and there is no fault; or this is their first fault.
pub data IsMessageCheck (limit : ℕ) (bytes : List ℕ) : MessageCheck → Type 0 where
  is_message : {check : MessageCheck} (m : Message) → SpellsMsg m bytes → length bytes ≤ limit
      → check ≡ record { fault = first_fault None; document_fault = first_fault None }
      → IsMessageCheck limit bytes check
  has_fault : {check : MessageCheck} (f : MsgFault) → FaultMsg bytes limit f
      → check ≡ record { fault = message_fault f; document_fault = document_fault f.cause }
      → IsMessageCheck limit bytes check

-- the check under a limit that is too large: nothing was read
abbrev pub limit_message_check : MessageCheck
limit_message_check = record { fault = limit_fault; document_fault = first_fault None }

-- ---- messages one after another

-- how the bytes end after the messages at their front
pub data Ending : Type 0 where
  all_read : Ending
  -- inside the message that begins at this offset
  ended_inside : ℕ → Ending
  at_fault : MsgFault → Ending

-- The rest, which begins at this offset, is empty, ends inside a message, or has a fault.
pub data EndsAs (limit offset : ℕ) (rest : List ℕ) : Ending → Type 0 where
  is_nothing : {ending : Ending} → rest ≡ [] → ending ≡ all_read → EndsAs limit offset rest ending
  is_open : {ending : Ending} → rest ≢ [] → IsOpen limit rest → ending ≡ ended_inside offset
      → EndsAs limit offset rest ending
  is_bad : {ending : Ending} (f : MsgFault) → IsBad limit rest f
      → ending ≡ at_fault (msg_fault (offset + f.at) f.cause) → EndsAs limit offset rest ending

-- the number of messages, the number of bytes that they take, the first fault after them, and the
-- fault of the document inside the message, if that is the cause
abbrev pub messages_check : List Message → ℕ → Ending → MessagesCheck
messages_check messages n all_read =
    record {
      messages = length messages;
      bytes_read = n;
      fault = first_fault None;
      document_fault = first_fault None;
    }
messages_check messages n (ended_inside offset) =
    record {
      messages = length messages;
      bytes_read = n;
      fault = ended_inside_fault offset;
      document_fault = first_fault None;
    }
messages_check messages n (at_fault f) =
    record {
      messages = length messages;
      bytes_read = n;
      fault = message_fault f;
      document_fault = document_fault f.cause;
    }

-- the check tells the messages at the front of the bytes, and how the rest after them ends
abbrev pub IsMessagesCheck : ℕ → List ℕ → MessagesCheck → Type 0
IsMessagesCheck limit bytes check =
    (messages : List Message) × (rest : List ℕ) × (s : Split limit bytes messages rest)
    × (ending : Ending)
    × EndsAs limit (length s.joined) rest ending
    × (check ≡ messages_check messages (length s.joined) ending)

-- the check under a limit that is too large: nothing was read
abbrev pub limit_messages_check : MessagesCheck
limit_messages_check =
    record { messages = 0; bytes_read = 0; fault = limit_fault; document_fault = first_fault None }
