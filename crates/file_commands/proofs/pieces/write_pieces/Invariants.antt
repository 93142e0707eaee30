use Rattle.std.proofs.Common.{◌<◌, length}
use Rattle.std.specs.Io.KnownBytes.{append_known}
use Rattle.file_commands.proofs.PieceLemmas.{Between}
use Rattle.file_commands.proofs.pieces.write_pieces.Given as goal

-- what was read and written so far
abbrev pub invariant-loop : goal.invariant-loop
invariant-loop g l =
    (0 < length l.room)
    × Between (g.E.Walk.tells l.each) (g.R.Read.remaining l.initial.reader) (g.R.Read.remaining l.reader) l.between.reader
    (append_known (g.W.Write.contents l.initial.writer) l.initial.between.text.items) (append_known (g.W.Write.contents l.writer) l.between.text.items)
