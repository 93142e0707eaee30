use Rattle.std.proofs.Common.{◌≡◌, ◌+◌, ◌<◌, ◌≤◌, [], length}
use Rattle.file_commands.proofs.TextPieceLemmas.{Came}
use Rattle.file_commands.proofs.bson.write_pieces.Given as goal

-- What came was written, as far as its texts are whole. Each document took a byte of it.
abbrev pub invariant-loop : goal.invariant-loop
invariant-loop g l =
    (0 < length l.room) × (length l.room ≤ 65536) × (l.between.buffer.items ≡ [])
    × (l.between.texts.count + length l.between.texts.reader.bytes ≤ l.so_far)
    × Came (g.R.Read.remaining l.initial.reader) (g.R.Read.remaining l.reader) l.between.texts.count l.between.texts.reader (g.W.Write.contents l.initial.writer) (g.W.Write.contents l.writer)
