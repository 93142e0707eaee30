use Rattle.std.proofs.Common.{◌≡◌}
use Rattle.bson_elem.specs.{Spells, Tree}
use Rattle.bson_raw.specs.{array_bytes}
use Rattle.bson_raw.specs.RawIter.{ValuesLeft}
use Rattle.wire_share.specs.Routing.{with_cursors, without_ids}
use Rattle.wire_share.proofs.routes.Routes.kill.Given as goal

abbrev pub invariant-loop-id : goal.invariant-loop-id
invariant-loop-id l =
    (goal.iterator-loop-id).can_next l.id-iterator × (goal.iterator-loop-id).is_finite l.id-iterator
    × ((t : Tree) → Spells t (array_bytes l.fn.ids) → (rest : Tree) × ValuesLeft l.id-iterator rest
    × (with_cursors l.fn.self (without_ids t l.fn.self.cursors) ≡ with_cursors l.self (without_ids rest l.self.cursors)))
