-- The kinds of messages, and their numbers (MongoDB Wire Protocol manual: Opcodes).
use Rattle.std.specs.Prelude.{◌≢◌, ℤ, pos, ⊤}
use Rattle.wire_frames.specs.declared.opcode.Opcode.{Opcode}
use Rattle.wire_frames.specs.declared.opcode.Opcode.TheVariants.{Reply, Query, Compressed, Msg}
use Rattle.wire_frames.specs.declared.opcode.Opcode.TheVariants.{Other}

-- the opCode of each kind
abbrev pub opcode_number : Opcode → ℤ
opcode_number Reply = pos 1
opcode_number Query = pos 2004
opcode_number Compressed = pos 2012
opcode_number Msg = pos 2013
opcode_number (Other number) = number

-- an opCode with a kind of its own isn't among the others
abbrev pub IsOwnKind : Opcode → Type 0
IsOwnKind (Other number) =
    (number ≢ pos 1) × (number ≢ pos 2004) × (number ≢ pos 2012) × (number ≢ pos 2013)
IsOwnKind opcode = ⊤
