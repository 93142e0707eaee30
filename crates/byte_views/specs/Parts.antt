-- The numbers of a message, as a caller gets them.
use Rattle.std.specs.Prelude.{◌≡◌, ◌≤◌, ◌-◌, ◌^◌, ℕ, pos, List, length, None, false}
use Rattle.wire_msg.specs.declared.fault.MsgFault.{MsgFault}
use Rattle.wire_msg.specs.{FaultMsg, Message, SpellsMsg}
use Rattle.byte_views.specs.declared.fault.FirstFault.{FirstFault}
use Rattle.byte_views.specs.declared.parts.MessageParts.{MessageParts}
use Rattle.byte_views.specs.Fault.{document_fault, first_fault, limit_fault, message_fault}

-- requestID, responseTo, the flag bits and the flags among them; the sections begin at offset 20
abbrev pub parts_of : Message → ℕ → MessageParts
parts_of m word = record {
  fault = first_fault None;
  document_fault = first_fault None;
  id = m.id;
  response_to = m.response_to;
  flag_bits = word;
  more_to_come = m.flags.more_to_come;
  exhaust_allowed = m.flags.exhaust_allowed;
  sections = 20;
}

-- there is no message, by these faults, and no section
abbrev pub fault_parts : FirstFault → FirstFault → MessageParts
fault_parts fault inside = record {
  fault = fault;
  document_fault = inside;
  id = pos 0;
  response_to = pos 0;
  flag_bits = 0;
  more_to_come = false;
  exhaust_allowed = false;
  sections = 2 ^ 64 - 1;
}

-- The bytes are one message within the limit, with these numbers; or this is their first fault.
pub data IsMessageParts (limit : ℕ) (bytes : List ℕ) : MessageParts → Type 0 where
  is_message : {parts : MessageParts} (m : Message) (s : SpellsMsg m bytes)
      → length bytes ≤ limit → parts ≡ parts_of m s.word → IsMessageParts limit bytes parts
  has_fault : {parts : MessageParts} (f : MsgFault) → FaultMsg bytes limit f
      → parts ≡ fault_parts (message_fault f) (document_fault f.cause)
      → IsMessageParts limit bytes parts

-- what is told under a limit that is too large: nothing was read
abbrev pub limit_parts : MessageParts
limit_parts = fault_parts limit_fault (first_fault None)
