-- The faults of an input, and their lines.
use Rattle.std.specs.Prelude.{ℕ, ◌+◌, List, ◌++◌, codes, Option, None, Some}
use Rattle.bson_elem.specs.declared.fault.BsonFault.{BsonFault}
use Rattle.bson_elem.specs.{bson_fault_text}
use Rattle.command_run.specs.{fault_line}
use Rattle.wire_frames.specs.declared.fault.RecordCause.{RecordCause}
use Rattle.wire_frames.specs.{record_fault_text}
use Rattle.wire_text.specs.{msg_fault_line}
use Rattle.file_commands.specs.declared.input_fault.InputFault.{InputFault}
use Rattle.file_commands.specs.declared.input_fault.InputFault.TheVariants.{Hex, Bson, TooLarge}
use Rattle.file_commands.specs.declared.input_fault.InputFault.TheVariants.{Msg}
use Rattle.file_commands.specs.declared.input_fault.InputFault.TheVariants.{EndedInside, Record}

-- the line of a fault in hexadecimal text
abbrev pub hex_line : ℕ → List ℕ
hex_line offset = fault_line 0 (codes "Hex") offset

-- the line of a fault in a document, whose own offsets count from this one
abbrev pub bson_line : ℕ → BsonFault → List ℕ
bson_line start f = bson_fault_text (start + f.at) f.cause ++ codes "\n"

-- the line of a document at this offset whose canonical form is too long; or of the offset where no
-- document is found, since one there would be above the limit
abbrev pub too_large_line : ℕ → List ℕ
too_large_line offset = fault_line 16 (codes "TooLarge") offset

-- the line of a record's fault at this offset
abbrev pub record_line : ℕ → RecordCause → List ℕ
record_line offset c = record_fault_text offset c ++ codes "\n"

-- the line of an input that ends inside the message or record at this offset
abbrev pub ended_inside_line : ℕ → List ℕ
ended_inside_line offset = fault_line 14 (codes "EndedInside") offset

-- the line of each fault of an input
abbrev pub input_fault_line : InputFault → List ℕ
input_fault_line (Hex offset) = hex_line offset
input_fault_line (Bson f) = bson_fault_text f.at f.cause ++ codes "\n"
input_fault_line (TooLarge offset) = too_large_line offset
input_fault_line (Msg f) = msg_fault_line f.at f.cause
input_fault_line (Record f) = record_line f.at f.cause
input_fault_line (EndedInside offset) = ended_inside_line offset

-- the line of a fault, if there is one
abbrev pub line_of : Option InputFault → Option (List ℕ)
line_of None = None
line_of (Some f) = Some (input_fault_line f)
