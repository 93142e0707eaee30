use Rattle.std.proofs.Common.{◌≡◌, List, ℕ, length}
use Rattle.std.specs.Io.KnownBytes.{Consumes}
use Rattle.file_commands.specs.Input.{IsDecoded, packed}
use Rattle.file_commands.proofs.hex_input.read_hex.Given as goal

-- what was read so far was decoded
abbrev pub invariant-loop : goal.invariant-loop
invariant-loop g l =
    (length l.room.items ≡ 65536)
    × (read : List ℕ) × Consumes (g.R.Read.remaining l.fn.reader) (g.R.Read.remaining l.reader) read × IsDecoded l.hex (packed read)
