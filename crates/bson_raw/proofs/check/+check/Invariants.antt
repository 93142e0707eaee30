use Rattle.std.proofs.Common.{◌-◌, ◌≡◌, ◌+◌, ◌≤◌, ◌*◌, length}
use Rattle.std.specs.Prelude.{slice_range}
use Rattle.bson_elem.specs.Trees.{Tree}
use Rattle.bson_elem.specs.Spelling.{elements}
use Rattle.bson_elem.specs.Faults.{Before}
use Rattle.bson_raw.specs.Naming.{is_plain}
use Rattle.bson_raw.specs.Pairs.{names_of}
use Rattle.bson_raw.proofs.check.+check.Given as goal

abbrev pub decreases-check : goal.decreases-check
decreases-check l = 4 * (201 - l.depth) + 3

abbrev pub decreases-check_document : goal.decreases-check_document
decreases-check_document l = 4 * (201 - l.depth) + 2

abbrev pub decreases-check_array : goal.decreases-check_array
decreases-check_array l = 4 * (201 - l.depth) + 2

abbrev pub decreases-check_elements : goal.decreases-check_elements
decreases-check_elements l = 4 * (201 - l.depth) + 1

abbrev pub decreases-check_pair : goal.decreases-check_pair
decreases-check_pair l = 4 * (201 - l.depth)

-- before the offset are whole pairs, as many as were counted, and it is known whether their names are canonical
abbrev pub invariant-check_elements-loop-offset : goal.invariant-check_elements-loop-offset
invariant-check_elements-loop-offset l =
    (l.start + 4 ≤ l.offset) × (l.offset ≤ l.end) × (l.index ≤ l.offset) ×
    ((t : Tree) × Before l.depth (slice_range l.bytes (l.start + 4) l.end) t (slice_range l.bytes l.offset l.end)
    × (l.start + 4 + length (elements t) ≡ l.offset)
    × (length (names_of t) ≡ l.index)
    × (l.canonical ≡ is_plain l.in_array 0 t))

abbrev pub decreases-check_elements-loop-offset : goal.decreases-check_elements-loop-offset
decreases-check_elements-loop-offset l = l.end - l.offset
