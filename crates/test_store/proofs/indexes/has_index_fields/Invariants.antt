use Rattle.std.proofs.Common.{◌≡◌}
use Rattle.bson_doc.specs.Document.{tree_of}
use Rattle.test_store.specs.Indexes.{has_index_fields}
use Rattle.test_store.proofs.indexes.has_index_fields.Given as goal

abbrev pub invariant-loop-name : goal.invariant-loop-name
invariant-loop-name l = has_index_fields (tree_of l.fn.index) ≡ has_index_fields (tree_of l.name-iterator)
