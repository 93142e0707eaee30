use Rattle.std.proofs.Common.{◌≡◌, drop, map}
use Rattle.bson_doc.specs.Bson.{value_of}
use Rattle.doc_update.specs.Updating.{outcome_view, update_view, updated}
use Rattle.doc_update.proofs.updates.update_each.Given as goal

abbrev pub invariant-loop-document : goal.invariant-loop-document
invariant-loop-document l =
    updated (update_view l.update) (map value_of (drop l.document-index l.documents)) (outcome_view l.outcome)
    ≡ updated (update_view l.update) (map value_of l.documents) (outcome_view l.fn.outcome)
