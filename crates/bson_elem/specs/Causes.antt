-- The number and the name of each cause, as fault lines give them: `fault NUMBER NAME at OFFSET`.
use Rattle.std.specs.Prelude.{ℕ, List, codes}
use Rattle.bson_elem.specs.declared.fault.BsonCause.{BsonCause}
use Rattle.bson_elem.specs.declared.fault.BsonCause.TheVariants.{Truncated, Length, End, Kind, Name}
use Rattle.bson_elem.specs.declared.fault.BsonCause.TheVariants.{Text, TextEnd, Boolean, OldBinary}
use Rattle.bson_elem.specs.declared.fault.BsonCause.TheVariants.{Scope, Depth}

abbrev pub cause_number : BsonCause → ℕ
cause_number Truncated = 1
cause_number Length = 2
cause_number End = 3
cause_number Kind = 4
cause_number Name = 5
cause_number Text = 6
cause_number TextEnd = 7
cause_number Boolean = 8
cause_number OldBinary = 9
cause_number Scope = 10
cause_number Depth = 11

abbrev pub cause_name : BsonCause → List ℕ
cause_name Truncated = codes "Truncated"
cause_name Length = codes "Length"
cause_name End = codes "End"
cause_name Kind = codes "Kind"
cause_name Name = codes "Name"
cause_name Text = codes "Text"
cause_name TextEnd = codes "TextEnd"
cause_name Boolean = codes "Boolean"
cause_name OldBinary = codes "OldBinary"
cause_name Scope = codes "Scope"
cause_name Depth = codes "Depth"
