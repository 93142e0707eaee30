-- What a cause and a fault display as.
use Rattle.std.specs.Prelude.{ℕ, List, ◌++◌, codes, Option, Some}
use Rattle.std.specs.Fmt.{decimal}
use Rattle.bson_elem.specs.declared.fault.BsonCause.{BsonCause}
use Rattle.bson_elem.specs.declared.fault.BsonFault.{BsonFault}
use Rattle.bson_elem.specs.Causes.{cause_number, cause_name}

-- a cause displays as its name
abbrev pub shown_cause : BsonCause → Option (List ℕ)
shown_cause c = Some (cause_name c)

-- a fault displays as `fault`, the number of the cause, its name and the offset
abbrev pub bson_fault_text : ℕ → BsonCause → List ℕ
bson_fault_text at c =
    codes "fault "
    ++ (decimal (cause_number c) ++ (codes " " ++ (cause_name c ++ (codes " at " ++ decimal at))))

abbrev pub shown_fault : BsonFault → Option (List ℕ)
shown_fault f = Some (bson_fault_text f.at f.cause)
