use Rattle.std.proofs.Common.{◌≡◌, ◌++◌, drop, map}
use Rattle.test_store.specs.Indexes.{index_view}
use Rattle.test_store.proofs.indexes.push_copies.Given as goal

abbrev pub invariant-loop-index : goal.invariant-loop-index
invariant-loop-index l = map index_view l.copies.items ++ map index_view (drop l.index-index l.indexes) ≡ map index_view l.fn.copies.items ++ map index_view l.indexes
