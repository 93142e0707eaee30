use Rattle.std.proofs.Common.{◌≡◌}
use Rattle.bson_elem.specs.Trees.{Tree}
use Rattle.bson_elem.specs.Spelling.{Spells}
use Rattle.bson_raw.specs.RawArray.{array_bytes}
use Rattle.bson_raw.specs.Pairs.{nth_value}
use Rattle.bson_raw.specs.RawIter.{ValuesLeft}
use Rattle.bson_raw.proofs.array.RawArray.get.Given as goal

abbrev pub invariant-loop-value : goal.invariant-loop-value
invariant-loop-value l =
    (goal.iterator-loop-value).can_next l.value-iterator × (goal.iterator-loop-value).is_finite l.value-iterator × ((t : Tree) → Spells t (array_bytes l.fn.self) → (rest : Tree) × ValuesLeft l.value-iterator rest × (nth_value l.fn.index t ≡ nth_value l.before rest))
