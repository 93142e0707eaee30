use Rattle.std.proofs.Common.{List, ℕ, Option}
use Rattle.bson_stream.specs.{left_of}
use Rattle.file_commands.specs.SalvageWalk.{Wrote, manner}
use Rattle.file_commands.proofs.salvage.write_parts.Given as goal

-- the texts of the parts so far were written
abbrev pub invariant-loop-gap : goal.invariant-loop-gap
invariant-loop-gap g l =
    (limit : ℕ) (bytes : List ℕ) (start : Option (List ℕ))
    → Wrote (manner (g.E.EachDocument.rule l.salvage.each) l.salvage.lines limit) l.ended bytes l.fn.salvager l.fn.before start (g.W.Write.contents l.fn.out)
    → Wrote (manner (g.E.EachDocument.rule l.salvage.each) l.salvage.lines limit) l.ended bytes l.salvager l.fault start (g.W.Write.contents l.out)

abbrev pub decreases-loop-gap : goal.decreases-loop-gap
decreases-loop-gap g l = left_of l.salvager
