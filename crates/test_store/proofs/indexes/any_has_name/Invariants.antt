use Rattle.std.proofs.Common.{◌≡◌, drop, map}
use Rattle.std.specs.List.{list_any}
use Rattle.test_store.specs.Indexes.{has_name, index_view}
use Rattle.test_store.proofs.indexes.any_has_name.Given as goal

abbrev pub invariant-loop-index : goal.invariant-loop-index
invariant-loop-index l = list_any (has_name l.name) (map index_view (drop l.index-index l.indexes)) ≡ list_any (has_name l.name) (map index_view l.indexes)
