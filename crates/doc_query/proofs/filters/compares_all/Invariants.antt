use Rattle.std.proofs.Common.{◌≡◌, drop, map}
use Rattle.bson_doc.specs.Bson.{value_of}
use Rattle.bson_doc.specs.Document.{tree_of}
use Rattle.doc_query.specs.Filters.{compares_all}
use Rattle.doc_query.proofs.filters.compares_all.Given as goal

abbrev pub invariant-loop-document : goal.invariant-loop-document
invariant-loop-document l = compares_all (tree_of l.filter) (map value_of (drop l.document-index l.documents)) ≡ compares_all (tree_of l.filter) (map value_of l.documents)
