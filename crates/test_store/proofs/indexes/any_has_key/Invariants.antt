use Rattle.std.proofs.Common.{◌≡◌, drop, map}
use Rattle.std.specs.List.{list_any}
use Rattle.bson_doc.specs.Bson.{value_of}
use Rattle.test_store.specs.Indexes.{has_key, index_view}
use Rattle.test_store.proofs.indexes.any_has_key.Given as goal

abbrev pub invariant-loop-index : goal.invariant-loop-index
invariant-loop-index l = list_any (has_key (value_of l.key)) (map index_view (drop l.index-index l.indexes)) ≡ list_any (has_key (value_of l.key)) (map index_view l.indexes)
