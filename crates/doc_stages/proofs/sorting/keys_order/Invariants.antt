use Rattle.std.proofs.Common.{◌≡◌}
use Rattle.bson_doc.specs.Bson.{value_of}
use Rattle.bson_doc.specs.Document.{tree_of}
use Rattle.doc_stages.specs.Sorting.{keys_order}
use Rattle.doc_stages.proofs.sorting.keys_order.Given as goal

abbrev pub invariant-loop-name : goal.invariant-loop-name
invariant-loop-name l = keys_order (tree_of l.fn.keys) (value_of l.fn.a) (value_of l.fn.b) ≡ keys_order (tree_of l.name-iterator) (value_of l.fn.a) (value_of l.fn.b)
