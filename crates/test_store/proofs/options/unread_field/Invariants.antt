use Rattle.std.proofs.Common.{◌≡◌}
use Rattle.bson_elem.specs.{Spells, Tree}
use Rattle.bson_raw.specs.{PairsLeft, document_bytes}
use Rattle.test_store.specs.Options.{unread_field}
use Rattle.test_store.proofs.options.unread_field.Given as goal

abbrev pub invariant-loop-name : goal.invariant-loop-name
invariant-loop-name l =
    (goal.iterator-loop-name).can_next l.name-iterator × (goal.iterator-loop-name).is_finite l.name-iterator × ((t : Tree) → Spells t (document_bytes l.fn.document) → (rest : Tree) × PairsLeft l.name-iterator rest × (unread_field l.scope t ≡ unread_field l.scope rest))
