use Rattle.std.proofs.Common.{◌≡◌, drop, map}
use Rattle.bson_doc.specs.Bson.{value_of}
use Rattle.doc_stages.specs.Pipelines.{after_stages}
use Rattle.doc_stages.proofs.pipeline.after_stages.Given as goal

abbrev pub invariant-loop-stage : goal.invariant-loop-stage
invariant-loop-stage l =
    after_stages (map value_of (drop l.stage-index l.stages)) (map value_of l.left.items)
    ≡ after_stages (map value_of l.stages) (map value_of l.documents)
