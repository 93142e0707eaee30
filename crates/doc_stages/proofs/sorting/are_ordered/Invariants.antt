use Rattle.std.proofs.Common.{◌≡◌}
use Rattle.bson_doc.specs.Bson.{value_of}
use Rattle.bson_doc.specs.Document.{tree_of}
use Rattle.doc_stages.specs.Sorting.{are_ordered}
use Rattle.doc_stages.proofs.sorting.are_ordered.Given as goal

abbrev pub invariant-loop-name : goal.invariant-loop-name
invariant-loop-name l = are_ordered (tree_of l.fn.keys) (value_of l.value) ≡ are_ordered (tree_of l.name-iterator) (value_of l.value)
