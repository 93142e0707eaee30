use Rattle.std.proofs.Common.{◌≡◌, drop, map}
use Rattle.test_store.specs.Held.{collection_index, collection_of, namespace_of}
use Rattle.test_store.proofs.Places.{counted_from}
use Rattle.test_store.proofs.store.index_of.Given as goal

-- the index is that in the collections that are left, counted from here
abbrev pub invariant-loop-i : goal.invariant-loop-i
invariant-loop-i l = collection_index (namespace_of l.namespace) (map collection_of l.collections) ≡ counted_from l.i (collection_index (namespace_of l.namespace) (map collection_of (drop l.i l.collections)))
