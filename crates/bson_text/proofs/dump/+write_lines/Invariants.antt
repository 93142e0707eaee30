use Rattle.std.proofs.Common.{◌≡◌, ◌++◌, ℕ, List, length}
use Rattle.std.specs.Io.KnownBytes.{Appends}
use Rattle.bson_elem.specs.Trees.{Tree}
use Rattle.bson_elem.specs.Spelling.{Spells}
use Rattle.bson_raw.specs.RawDocument.{document_bytes}
use Rattle.bson_raw.specs.RawIter.{PairsLeft, pairs_bound, walked_len}
use Rattle.bson_text.specs.DumpValues.{lines_to}
use Rattle.text_writer.specs.{text_contents}
use Rattle.bson_text.proofs.dump.+write_lines.Given as goal

abbrev pub decreases-write_lines : goal.decreases-write_lines
decreases-write_lines g l = length (document_bytes l.document)

-- what was written, and the lines of the pairs that are left, are the lines of all; and the walk is in this document
abbrev pub invariant-loop-held : goal.invariant-loop-held
invariant-loop-held g l =
    (walked_len l.pairs ≡ length (document_bytes l.fn.document)) ×
    ((t : Tree) → Spells t (document_bytes l.fn.document) → (rest : Tree) × (text : List ℕ) × PairsLeft l.pairs rest × Appends (text_contents g.W.Write.contents l.initial.out) (text_contents g.W.Write.contents l.out) text
    × (lines_to l.end l.deep t ≡ text ++ lines_to l.end l.deep rest))

abbrev pub decreases-loop-held : goal.decreases-loop-held
decreases-loop-held g l = pairs_bound l.pairs
