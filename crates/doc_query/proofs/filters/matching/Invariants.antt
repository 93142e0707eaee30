use Rattle.std.proofs.Common.{◌≡◌, ◌++◌, drop, map}
use Rattle.bson_doc.specs.Bson.{value_of}
use Rattle.bson_doc.specs.Document.{tree_of}
use Rattle.doc_query.specs.Filters.{found}
use Rattle.doc_query.proofs.filters.matching.Given as goal

abbrev pub invariant-loop-document : goal.invariant-loop-document
invariant-loop-document l = map value_of l.found.items ++ found (tree_of l.filter) (map value_of (drop l.document-index l.documents)) ≡ found (tree_of l.filter) (map value_of l.documents)
