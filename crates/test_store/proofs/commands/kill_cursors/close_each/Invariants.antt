use Rattle.std.proofs.Common.{◌≡◌, drop, map}
use Rattle.bson_doc.specs.Bson.{value_of}
use Rattle.test_store.specs.Commands.{kill_each, killing_so_far}
use Rattle.test_store.specs.Held.{namespace_of, store_of}
use Rattle.test_store.proofs.commands.kill_cursors.close_each.Given as goal

abbrev pub invariant-loop-id : goal.invariant-loop-id
invariant-loop-id l =
    ((store_of l.store).collections ≡ (store_of l.fn.store).collections)
    × (kill_each (namespace_of l.namespace) (map value_of (drop l.id-index l.ids)) (killing_so_far (store_of l.store) (map value_of l.killed.items) (map value_of l.missing.items))
    ≡ kill_each (namespace_of l.namespace) (map value_of l.ids) (killing_so_far (store_of l.fn.store) (map value_of l.fn.killed.items) (map value_of l.fn.missing.items)))
