use Rattle.std.proofs.Common.{◌≡◌, ℕ, List, [], ◌++◌, length}
use Rattle.bson_elem.specs.Trees.{Tree}
use Rattle.bson_elem.specs.Spelling.{Spells}
use Rattle.bson_raw.specs.RawDocument.{document_bytes}
use Rattle.bson_raw.specs.Pairs.{names_of, first_repeated}
use Rattle.bson_raw.specs.RawIter.{PairsLeft}
use Rattle.bson_raw.proofs.document.RawDocument.first_repeated_name.Given as goal

abbrev pub invariant-loop-name : goal.invariant-loop-name
invariant-loop-name l =
    (goal.iterator-loop-name).can_next l.name-iterator × (goal.iterator-loop-name).is_finite l.name-iterator × ((t : Tree) → Spells t (document_bytes l.fn.self) → (seen : List (List ℕ)) × (rest : Tree) × PairsLeft l.name-iterator rest × (names_of t ≡ seen ++ names_of rest) × (length seen ≡ l.before) × (first_repeated [] t ≡ first_repeated seen rest))
