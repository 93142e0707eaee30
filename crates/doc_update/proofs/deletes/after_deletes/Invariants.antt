use Rattle.std.proofs.Common.{◌≡◌, drop, map}
use Rattle.bson_doc.specs.Bson.{value_of}
use Rattle.doc_update.specs.Deleting.{after_deletes, delete_each, deletes_view}
use Rattle.doc_update.proofs.deletes.after_deletes.Given as goal

abbrev pub invariant-loop-index : goal.invariant-loop-index
invariant-loop-index l =
    delete_each l.is_ordered l.index (map value_of (drop l.index l.statements)) (deletes_view l.deletes)
    ≡ after_deletes l.is_ordered (map value_of l.statements) (map value_of l.documents)
