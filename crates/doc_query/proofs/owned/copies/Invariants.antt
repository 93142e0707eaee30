use Rattle.std.proofs.Common.{◌≡◌, map, take}
use Rattle.bson_doc.specs.Bson.{value_of}
use Rattle.doc_query.proofs.owned.copies.Given as goal

abbrev pub invariant-loop-document : goal.invariant-loop-document
invariant-loop-document l = map value_of l.copies.items ≡ map value_of (take l.document-index l.documents)
