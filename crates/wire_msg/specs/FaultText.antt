-- The text that displays a fault.
use Rattle.std.specs.Prelude.{ℕ, List, ◌++◌, codes, Option, Some}
use Rattle.std.specs.Fmt.{decimal, signed_decimal}
use Rattle.bson_elem.specs.Causes as documents
use Rattle.wire_msg.specs.declared.fault.MsgCause.{MsgCause}
use Rattle.wire_msg.specs.declared.fault.MsgCause.TheVariants.{Opcode, Document}
use Rattle.wire_msg.specs.declared.fault.MsgFault.{MsgFault}
use Rattle.wire_msg.specs.Causes.{cause_number, cause_name}

-- The number of the cause, its name and the offset. An opcode follows its name. A document's own
-- fault comes last, with its offset counted from the document's first byte.
abbrev pub fault_text : ℕ → MsgCause → List ℕ
fault_text at (Opcode opcode) =
    codes "fault 2 Opcode " ++ (signed_decimal opcode ++ (codes " at " ++ decimal at))
fault_text at (Document f) =
    codes "fault 7 Document at "
    ++ (decimal at ++ (codes ": "
    ++ (decimal (documents.cause_number f.cause)
    ++ (codes " " ++ (documents.cause_name f.cause ++ (codes " at " ++ decimal f.at))))))
fault_text at c =
    codes "fault " ++ (decimal (cause_number c)
    ++ (codes " " ++ (cause_name c ++ (codes " at " ++ decimal at))))

-- The name of the cause. An opcode follows its name.
abbrev pub cause_text : MsgCause → List ℕ
cause_text (Opcode opcode) = codes "Opcode " ++ signed_decimal opcode
cause_text c = cause_name c

abbrev pub shown_cause : MsgCause → Option (List ℕ)
shown_cause c = Some (cause_text c)

abbrev pub shown_fault : MsgFault → Option (List ℕ)
shown_fault f = Some (fault_text f.at f.cause)
