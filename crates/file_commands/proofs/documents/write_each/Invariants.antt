use Rattle.std.proofs.Common.{◌≡◌, ◌+◌, ◌++◌, length}
use Rattle.bson_stream.specs.{IsOpen}
use Rattle.file_commands.specs.Documents.{documents_of}
use Rattle.file_commands.specs.ItemWalk.{ItemsWritten}
use Rattle.file_commands.proofs.documents.write_each.Given as goal

-- the texts of the documents so far were written, and the rest is what the reader holds and what it wasn't fed yet
abbrev pub invariant-loop-front : goal.invariant-loop-front
invariant-loop-front g l =
    IsOpen l.documents.held
    × (l.documents.limit ≡ l.initial.documents.limit)
    × ItemsWritten (documents_of (g.E.EachDocument.rule l.each)) (l.initial.documents.held ++ l.piece) l.initial.documents.start l.documents.start (l.documents.held ++ l.rest)
    (g.W.Write.contents l.initial.out) (g.W.Write.contents l.out)

abbrev pub decreases-loop-front : goal.decreases-loop-front
decreases-loop-front g l = length l.rest + length l.documents.held
