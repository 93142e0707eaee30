use Rattle.std.proofs.Common.{◌≡◌, ◌++◌, ℕ, List, length, true}
use Rattle.std.specs.Io.KnownBytes.{Appends}
use Rattle.bson_elem.specs.Trees.{Tree}
use Rattle.bson_elem.specs.Spelling.{Spells}
use Rattle.bson_raw.specs.RawDocument.{document_bytes}
use Rattle.bson_raw.specs.RawIter.{PairsLeft, pairs_bound, walked_len}
use Rattle.text_writer.specs.{text_contents}
use Rattle.bson_json.specs.Json.{IsPairsJson}
use Rattle.bson_json.proofs.pairs.+write_pairs.Given as goal

abbrev pub decreases-write_pairs : goal.decreases-write_pairs
decreases-write_pairs g l = length (document_bytes l.document)

-- with the JSON of the pairs that are left, what was written is that of all; and the walk is in this document
abbrev pub invariant-loop-held : goal.invariant-loop-held
invariant-loop-held g l =
    (walked_len l.pairs ≡ length (document_bytes l.fn.document)) ×
    ((t : Tree) → Spells t (document_bytes l.fn.document) → (left : Tree) × (text : List ℕ) × PairsLeft l.pairs left × Appends (text_contents g.W.Write.contents l.initial.out) (text_contents g.W.Write.contents l.out) text × ((rest : List ℕ) → IsPairsJson l.fn.mode l.fn.holder l.first left rest → IsPairsJson l.fn.mode l.fn.holder true t (text ++ rest)))

abbrev pub decreases-loop-held : goal.decreases-loop-held
decreases-loop-held g l = pairs_bound l.pairs
