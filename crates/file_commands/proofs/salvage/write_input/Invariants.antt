use Rattle.std.proofs.Common.{◌<◌, [], ℕ, List, Option, false, length}
use Rattle.std.specs.Io.KnownBytes.{append_known}
use Rattle.bson_stream.specs.{IsSettled}
use Rattle.file_commands.specs.SalvageWalk.{Wrote, manner}
use Rattle.file_commands.proofs.SalvageLemmas.{Stands}
use Rattle.file_commands.proofs.salvage.write_input.Given as goal

-- what was read and written so far
abbrev pub invariant-loop : goal.invariant-loop
invariant-loop g l =
    (0 < length l.room)
    × ((limit : ℕ) (start : Option (List ℕ)) → IsSettled false l.initial.between.salvager
    → Wrote (manner (g.E.EachDocument.rule l.salvage.each) l.salvage.lines limit) false [] l.initial.between.salvager l.initial.between.fault start
    (append_known (g.W.Write.contents l.initial.writer) l.initial.between.text.items)
    → Stands (manner (g.E.EachDocument.rule l.salvage.each) l.salvage.lines limit) (g.R.Read.remaining l.initial.reader) (g.R.Read.remaining l.reader) l.between.salvager l.between.fault start
    (append_known (g.W.Write.contents l.writer) l.between.text.items))
