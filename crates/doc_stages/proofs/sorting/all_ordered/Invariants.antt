use Rattle.std.proofs.Common.{◌≡◌, drop, map}
use Rattle.bson_doc.specs.Bson.{value_of}
use Rattle.bson_doc.specs.Document.{tree_of}
use Rattle.doc_stages.specs.Sorting.{all_ordered}
use Rattle.doc_stages.proofs.sorting.all_ordered.Given as goal

abbrev pub invariant-loop-document : goal.invariant-loop-document
invariant-loop-document l = all_ordered (tree_of l.keys) (map value_of (drop l.document-index l.documents)) ≡ all_ordered (tree_of l.keys) (map value_of l.documents)
