use Rattle.std.proofs.Common.{◌≡◌, ◌+◌, ◌++◌, length}
use Rattle.wire_msg.specs.{IsOpen}
use Rattle.file_commands.specs.Msg.{messages_of}
use Rattle.file_commands.specs.ItemWalk.{ItemsWritten}
use Rattle.file_commands.proofs.messages.write_each.Given as goal

-- the texts of the messages so far were written, and the rest is what the reader holds and what it wasn't fed yet
abbrev pub invariant-loop-fed : goal.invariant-loop-fed
invariant-loop-fed g l =
    IsOpen l.reader.messages.limit l.reader.messages.held
    × (l.reader.messages.limit ≡ l.initial.reader.messages.limit)
    × ItemsWritten (messages_of l.form l.initial.reader.messages.limit) (l.initial.reader.messages.held ++ l.piece) l.initial.reader.start l.reader.start (l.reader.messages.held ++ l.rest)
    (g.W.Write.contents l.initial.out) (g.W.Write.contents l.out)

abbrev pub decreases-loop-fed : goal.decreases-loop-fed
decreases-loop-fed g l = length l.rest + length l.reader.messages.held
