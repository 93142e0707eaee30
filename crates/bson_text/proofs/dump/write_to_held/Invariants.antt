use Rattle.std.proofs.Common.{◌≡◌, ◌≤◌, ◌++◌, ◌+◌, ℕ, List, length}
use Rattle.std.specs.Io.KnownBytes.{Appends}
use Rattle.bson_elem.specs.Spelling.{elements}
use Rattle.bson_elem.specs.Trees.{Tree}
use Rattle.bson_raw.specs.RawIter.{PairsLeft, pairs_bound, walked_len}
use Rattle.bson_text.specs.DumpValues.{lines_to}
use Rattle.text_writer.specs.{text_contents}
use Rattle.bson_text.proofs.dump.write_to_held.Given as goal

-- what was written, and the lines of the pairs that are left, are the lines of all; and the walk is in the same document
abbrev pub invariant-loop-name : goal.invariant-loop-name
invariant-loop-name g l =
    (walked_len l.pairs ≡ walked_len l.initial.pairs) ×
    (pairs_bound l.pairs ≤ pairs_bound l.initial.pairs) ×
    (l.left ≡ pairs_bound l.pairs) ×
    ((t : Tree) → PairsLeft l.initial.pairs t → (rest : Tree) × (text : List ℕ) × PairsLeft l.pairs rest × (l.left ≡ length (elements rest) + 1)
    × Appends (text_contents g.W.Write.contents l.initial.out) (text_contents g.W.Write.contents l.out) text × (lines_to l.end l.deep t ≡ text ++ lines_to l.end l.deep rest))

abbrev pub decreases-loop-name : goal.decreases-loop-name
decreases-loop-name g l = pairs_bound l.pairs
