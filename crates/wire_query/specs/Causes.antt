-- The number and the name of each cause, as fault lines give them.
use Rattle.std.specs.Prelude.{ℕ, List, codes}
use Rattle.wire_query.specs.declared.fault.QueryCause.{QueryCause}
use Rattle.wire_query.specs.declared.fault.QueryCause.TheVariants.{Length, Opcode, Truncated, Flags}
use Rattle.wire_query.specs.declared.fault.QueryCause.TheVariants.{Name, Collection, Skip, Count}
use Rattle.wire_query.specs.declared.fault.QueryCause.TheVariants.{Document, TrailingBytes}
use Rattle.wire_query.specs.declared.fault.QueryCause.TheVariants.{RepeatedField}
use Rattle.wire_query.specs.declared.fault.QueryFault.{QueryFault}

abbrev pub cause_number : QueryCause → ℕ
cause_number Length = 1
cause_number (Opcode _) = 2
cause_number Truncated = 3
cause_number Flags = 4
cause_number Name = 5
cause_number Collection = 6
cause_number Skip = 7
cause_number Count = 8
cause_number (Document _) = 9
cause_number TrailingBytes = 10
cause_number RepeatedField = 11

abbrev pub cause_name : QueryCause → List ℕ
cause_name Length = codes "Length"
cause_name (Opcode _) = codes "Opcode"
cause_name Truncated = codes "Truncated"
cause_name Flags = codes "Flags"
cause_name Name = codes "Name"
cause_name Collection = codes "Collection"
cause_name Skip = codes "Skip"
cause_name Count = codes "Count"
cause_name (Document _) = codes "Document"
cause_name TrailingBytes = codes "TrailingBytes"
cause_name RepeatedField = codes "RepeatedField"

-- the fault with this cause, at this offset
abbrev pub query_fault : ℕ → QueryCause → QueryFault
query_fault p c = record { at = p; cause = c }
