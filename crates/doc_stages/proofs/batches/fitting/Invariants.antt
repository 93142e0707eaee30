use Rattle.std.proofs.Common.{◌≡◌, ◌+◌, drop, map}
use Rattle.bson_doc.specs.{value_of}
use Rattle.doc_stages.specs.Batches.{fitting}
use Rattle.doc_stages.proofs.batches.fitting.Given as goal

abbrev pub invariant-loop-index : goal.invariant-loop-index
invariant-loop-index l =
    l.index + fitting l.left (map value_of (drop l.index l.documents)) ≡ fitting l.room (map value_of l.documents)
