-- The first fault of some bytes, as a caller gets it.
use Rattle.std.specs.Prelude.{ℕ, Option, Some, None}
use Rattle.bson_elem.specs.declared.fault.BsonFault.{BsonFault}
use Rattle.bson_elem.specs.{cause_number}
use Rattle.wire_msg.specs.declared.fault.MsgCause.{MsgCause}
use Rattle.wire_msg.specs.declared.fault.MsgCause.TheVariants.{Document}
use Rattle.wire_msg.specs.declared.fault.MsgFault.{MsgFault}
use Rattle.wire_msg.specs.Causes as msg_causes
use Rattle.byte_views.specs.declared.fault.FirstFault.{FirstFault}

-- the number of the fault's cause and its offset, or 0 and 0 if there is no fault
abbrev pub first_fault : Option BsonFault → FirstFault
first_fault None = record { number = 0; offset = 0 }
first_fault (Some f) = record { number = cause_number f.cause; offset = f.at }

-- the number and the offset of a message's fault
abbrev pub message_fault : MsgFault → FirstFault
message_fault f = record { number = msg_causes.cause_number f.cause; offset = f.at }

-- the fault of the document inside the message, if that is the cause
abbrev pub document_fault : MsgCause → FirstFault
document_fault (Document f) = first_fault (Some f)
document_fault _ = first_fault None

-- the fault of bytes that end inside the message that begins at this offset
abbrev pub ended_inside_fault : ℕ → FirstFault
ended_inside_fault offset = record { number = 14; offset = offset }

-- the fault of a limit on messages that is too large
abbrev pub limit_fault : FirstFault
limit_fault = record { number = 255; offset = 0 }
