use Rattle.std.proofs.Common.{◌≡◌, ◌++◌, length}
use Rattle.file_commands.specs.ItemWalk.{ItemsWritten}
use Rattle.file_commands.specs.Records.{IsOpenRecord, records_of}
use Rattle.file_commands.proofs.records.write_each.Given as goal

-- the texts of the records so far were written, and the rest is what the reader holds and what it wasn't fed yet
abbrev pub invariant-loop-taken : goal.invariant-loop-taken
invariant-loop-taken g l =
    IsOpenRecord l.reader.records.limit l.reader.records.held
    × (l.reader.records.limit ≡ l.initial.reader.records.limit)
    × ItemsWritten (records_of l.form l.initial.reader.records.limit) (l.initial.reader.records.held ++ l.piece) l.initial.reader.start l.reader.start (l.reader.records.held ++ l.rest)
    (g.W.Write.contents l.initial.out) (g.W.Write.contents l.out)

abbrev pub decreases-loop-taken : goal.decreases-loop-taken
decreases-loop-taken g l = length l.rest
