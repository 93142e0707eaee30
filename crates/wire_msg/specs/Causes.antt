-- The causes of a fault as fault lines give them, and the offset of each.
use Rattle.std.specs.Prelude.{ℕ, List, codes}
use Rattle.wire_msg.specs.declared.fault.MsgCause.{MsgCause}
use Rattle.wire_msg.specs.declared.fault.MsgCause.TheVariants.{Length, Opcode, Flags, Checksum}
use Rattle.wire_msg.specs.declared.fault.MsgCause.TheVariants.{SectionKind, SectionSize, Document}
use Rattle.wire_msg.specs.declared.fault.MsgCause.TheVariants.{NoBody, TwoBodies, RepeatedField}
use Rattle.wire_msg.specs.declared.fault.MsgCause.TheVariants.{SequenceName, SequenceInBody}
use Rattle.wire_msg.specs.declared.fault.MsgCause.TheVariants.{Truncated}
use Rattle.wire_msg.specs.declared.fault.MsgFault.{MsgFault}

abbrev pub cause_number : MsgCause → ℕ
cause_number Length = 1
cause_number (Opcode _) = 2
cause_number Flags = 3
cause_number Checksum = 4
cause_number SectionKind = 5
cause_number SectionSize = 6
cause_number (Document _) = 7
cause_number NoBody = 8
cause_number TwoBodies = 9
cause_number RepeatedField = 10
cause_number SequenceName = 11
cause_number SequenceInBody = 12
cause_number Truncated = 13

abbrev pub cause_name : MsgCause → List ℕ
cause_name Length = codes "Length"
cause_name (Opcode _) = codes "Opcode"
cause_name Flags = codes "Flags"
cause_name Checksum = codes "Checksum"
cause_name SectionKind = codes "SectionKind"
cause_name SectionSize = codes "SectionSize"
cause_name (Document _) = codes "Document"
cause_name NoBody = codes "NoBody"
cause_name TwoBodies = codes "TwoBodies"
cause_name RepeatedField = codes "RepeatedField"
cause_name SequenceName = codes "SequenceName"
cause_name SequenceInBody = codes "SequenceInBody"
cause_name Truncated = codes "Truncated"

abbrev pub msg_fault : ℕ → MsgCause → MsgFault
msg_fault p c = record { at = p; cause = c }
