use Rattle.std.proofs.Common.{◌≤◌, ◌+◌, ◌++◌, List, ℕ, take}
use Rattle.file_commands.specs.Input.{IsDecoded, packed}
use Rattle.file_commands.proofs.hex_input.HexText.decode.Given as goal

-- the front of the piece was decoded behind the text before it
abbrev pub invariant-loop-byte : goal.invariant-loop-byte
invariant-loop-byte l =
    (l.self.count ≤ l.initial.self.count + l.byte-index)
    × ((text : List ℕ) → IsDecoded l.initial.self (packed text) → IsDecoded l.self (packed (text ++ take l.byte-index l.piece)))
