use Rattle.std.proofs.Common.{◌+◌, ◌<◌, ◌≤◌, ◌^◌, List, Option, ℕ, length}
use Rattle.file_commands.specs.TextPieces.{HaveRead}
use Rattle.file_commands.proofs.texts.Texts.write_documents.Given as goal

-- Each document that was written took a byte of those that were held. What came before it was read and written stays so.
abbrev pub invariant-loop-refusal : goal.invariant-loop-refusal
invariant-loop-refusal g l =
    (l.self.count + length l.self.reader.bytes ≤ l.initial.self.count + length l.initial.self.reader.bytes)
    × (l.initial.self.count + length l.initial.self.reader.bytes < 2 ^ 64)
    × ((read : List ℕ) (start : Option (List ℕ)) → HaveRead l.last read l.initial.self.count l.initial.self.reader start (g.W.Write.contents l.initial.out)
    → HaveRead l.last read l.self.count l.self.reader start (g.W.Write.contents l.out))

abbrev pub decreases-loop-refusal : goal.decreases-loop-refusal
decreases-loop-refusal g l = length l.self.reader.bytes
