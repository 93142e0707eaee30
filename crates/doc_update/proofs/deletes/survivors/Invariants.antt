use Rattle.std.proofs.Common.{◌≡◌, ◌++◌, drop, map}
use Rattle.std.specs.Prelude.{if◌then◌else◌}
use Rattle.bson_doc.specs.Bson.{value_of}
use Rattle.doc_update.specs.Deleting.{delete_view, survivors}
use Rattle.doc_update.proofs.deletes.survivors.Given as goal

abbrev pub invariant-loop-document : goal.invariant-loop-document
invariant-loop-document l =
    map value_of l.left.items ++ (if l.is_done then map value_of (drop l.document-index l.documents) else survivors (delete_view l.delete) (map value_of (drop l.document-index l.documents)))
    ≡ survivors (delete_view l.delete) (map value_of l.documents)
