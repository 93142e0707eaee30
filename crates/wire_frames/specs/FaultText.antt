-- The text that displays a fault.
use Rattle.std.specs.Prelude.{ℕ, List, ◌++◌, codes, Option, Some}
use Rattle.std.specs.Fmt.{decimal}
use Rattle.wire_frames.specs.declared.fault.RecordCause.{RecordCause}
use Rattle.wire_frames.specs.declared.fault.RecordFault.{RecordFault}
use Rattle.wire_frames.specs.Causes.{cause_number, cause_name}

-- the number of the cause, its name and the offset
abbrev pub record_fault_text : ℕ → RecordCause → List ℕ
record_fault_text at c =
    codes "fault " ++ (decimal (cause_number c)
    ++ (codes " " ++ (cause_name c ++ (codes " at " ++ decimal at))))

abbrev pub shown_record_fault : RecordFault → Option (List ℕ)
shown_record_fault f = Some (record_fault_text f.at f.cause)
