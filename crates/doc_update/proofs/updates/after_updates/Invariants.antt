use Rattle.std.proofs.Common.{◌≡◌, drop, map}
use Rattle.bson_doc.specs.Bson.{value_of}
use Rattle.doc_update.specs.Updating.{after_updates, update_each, updates_view}
use Rattle.doc_update.proofs.updates.after_updates.Given as goal

abbrev pub invariant-loop-index : goal.invariant-loop-index
invariant-loop-index l =
    update_each l.is_ordered l.index (map value_of (drop l.index l.statements)) (updates_view l.updates)
    ≡ after_updates l.is_ordered (map value_of l.statements) (map value_of l.documents)
