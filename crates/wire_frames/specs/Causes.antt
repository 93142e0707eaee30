-- The number and the name of each cause, as fault lines give them.
use Rattle.std.specs.Prelude.{ℕ, List, codes}
use Rattle.wire_frames.specs.declared.fault.RecordCause.{RecordCause}
use Rattle.wire_frames.specs.declared.fault.RecordCause.TheVariants.{Length, Connection, Direction}
use Rattle.wire_frames.specs.declared.fault.RecordFault.{RecordFault}

abbrev pub cause_number : RecordCause → ℕ
cause_number Length = 1
cause_number Connection = 17
cause_number Direction = 18

abbrev pub cause_name : RecordCause → List ℕ
cause_name Length = codes "Length"
cause_name Connection = codes "Connection"
cause_name Direction = codes "Direction"

-- the fault with this cause, at this offset
abbrev pub record_fault : ℕ → RecordCause → RecordFault
record_fault p c = record { at = p; cause = c }
