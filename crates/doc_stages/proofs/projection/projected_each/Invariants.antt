use Rattle.std.proofs.Common.{◌≡◌, map, take}
use Rattle.bson_doc.specs.Bson.{value_of}
use Rattle.bson_doc.specs.Document.{tree_of}
use Rattle.doc_stages.specs.Projection.{projected}
use Rattle.doc_stages.proofs.projection.projected_each.Given as goal

abbrev pub invariant-loop-document : goal.invariant-loop-document
invariant-loop-document l = map value_of l.kept.items ≡ map (projected (tree_of l.projection)) (map value_of (take l.document-index l.documents))
