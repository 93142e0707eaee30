use Rattle.std.proofs.Common.{◌≡◌, drop, map}
use Rattle.std.specs.List.{list_any}
use Rattle.test_store.specs.Held.{collection_of, is_in_database}
use Rattle.test_store.proofs.store.has_database.Given as goal

abbrev pub invariant-loop-collection : goal.invariant-loop-collection
invariant-loop-collection l = list_any (is_in_database l.database) (map collection_of (drop l.collection-index l.collections)) ≡ list_any (is_in_database l.database) (map collection_of l.collections)
