use Rattle.std.proofs.Common.{◌≡◌, drop, map}
use Rattle.std.specs.List.{list_any}
use Rattle.bson_doc.specs.Bson.{value_of}
use Rattle.test_store.specs.Indexes.{index_view, is_index}
use Rattle.test_store.proofs.indexes.is_held.Given as goal

abbrev pub invariant-loop-index : goal.invariant-loop-index
invariant-loop-index l = list_any (is_index (record { name = l.name; key = value_of l.key })) (map index_view (drop l.index-index l.indexes)) ≡ list_any (is_index (record { name = l.name; key = value_of l.key })) (map index_view l.indexes)
