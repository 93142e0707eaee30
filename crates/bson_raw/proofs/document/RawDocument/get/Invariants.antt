use Rattle.std.proofs.Common.{◌≡◌}
use Rattle.bson_elem.specs.Trees.{Tree}
use Rattle.bson_elem.specs.Spelling.{Spells}
use Rattle.bson_raw.specs.RawDocument.{document_bytes}
use Rattle.bson_raw.specs.Pairs.{first_named}
use Rattle.bson_raw.specs.RawIter.{PairsLeft}
use Rattle.bson_raw.proofs.document.RawDocument.get.Given as goal

abbrev pub invariant-loop-n : goal.invariant-loop-n
invariant-loop-n l =
    (goal.iterator-loop-n).can_next l.n-iterator × (goal.iterator-loop-n).is_finite l.n-iterator × ((t : Tree) → Spells t (document_bytes l.fn.self) → (rest : Tree) × PairsLeft l.n-iterator rest × (first_named l.name t ≡ first_named l.name rest))
