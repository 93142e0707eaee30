use Rattle.std.proofs.Common.{◌≡◌, drop, map}
use Rattle.bson_doc.specs.Bson.{value_of}
use Rattle.test_store.specs.Indexes.{index_view, with_indexes}
use Rattle.test_store.proofs.indexes.add_indexes.Given as goal

abbrev pub invariant-loop-value : goal.invariant-loop-value
invariant-loop-value l = with_indexes (map value_of (drop l.value-index l.asked)) (map index_view l.indexes.items) ≡ with_indexes (map value_of l.fn.asked) (map index_view l.fn.indexes.items)
