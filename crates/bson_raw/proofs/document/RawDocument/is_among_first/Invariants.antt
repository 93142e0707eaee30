use Rattle.std.proofs.Common.{◌≡◌, take}
use Rattle.bson_elem.specs.Trees.{Tree}
use Rattle.bson_elem.specs.Spelling.{Spells}
use Rattle.bson_raw.specs.RawDocument.{document_bytes}
use Rattle.bson_raw.specs.Pairs.{names_of, is_among}
use Rattle.bson_raw.specs.RawIter.{PairsLeft}
use Rattle.bson_raw.proofs.document.RawDocument.is_among_first.Given as goal

abbrev pub invariant-loop-n : goal.invariant-loop-n
invariant-loop-n l =
    (goal.iterator-loop-n).can_next l.n-iterator × (goal.iterator-loop-n).is_finite l.n-iterator × ((t : Tree) → Spells t (document_bytes l.fn.self) → (rest : Tree) × PairsLeft l.n-iterator rest × (is_among l.name (take l.fn.count (names_of t)) ≡ is_among l.name (take l.left (names_of rest))))
