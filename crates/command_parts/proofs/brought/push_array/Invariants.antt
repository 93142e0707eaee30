use Rattle.std.proofs.Common.{◌≡◌, map}
use Rattle.bson_elem.specs.{Spells, Tree}
use Rattle.bson_raw.specs.{array_bytes}
use Rattle.bson_raw.specs.RawIter.{ValuesLeft}
use Rattle.bson_doc.specs.Bson.{value_of}
use Rattle.command_parts.specs.Brought.{followed_by, in_array}
use Rattle.command_parts.proofs.brought.push_array.Given as goal

abbrev pub invariant-loop-value : goal.invariant-loop-value
invariant-loop-value l =
    (goal.iterator-loop-value).can_next l.value-iterator × (goal.iterator-loop-value).is_finite l.value-iterator
    × ((t : Tree) → Spells t (array_bytes l.fn.array) → (rest : Tree) × ValuesLeft l.value-iterator rest × (followed_by (map value_of l.initial.documents.items) (in_array t) ≡ followed_by (map value_of l.documents.items) (in_array rest)))
