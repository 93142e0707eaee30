use Rattle.std.proofs.Common.{◌≡◌, ◌++◌, length}
use Rattle.file_commands.specs.Any.{IsOpenFrame, frames_of}
use Rattle.file_commands.specs.ItemWalk.{ItemsWritten}
use Rattle.file_commands.proofs.frames.write_each.Given as goal

-- the texts of the frames so far were written, and the rest is what the reader holds and what it wasn't fed yet
abbrev pub invariant-loop-taken : goal.invariant-loop-taken
invariant-loop-taken g l =
    IsOpenFrame l.reader.frames.limit l.reader.frames.held
    × (l.reader.frames.limit ≡ l.initial.reader.frames.limit)
    × ItemsWritten (frames_of l.initial.reader.frames.limit) (l.initial.reader.frames.held ++ l.piece) l.initial.reader.start l.reader.start (l.reader.frames.held ++ l.rest)
    (g.W.Write.contents l.initial.out) (g.W.Write.contents l.out)

abbrev pub decreases-loop-taken : goal.decreases-loop-taken
decreases-loop-taken g l = length l.rest
