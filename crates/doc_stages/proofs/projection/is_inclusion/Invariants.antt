use Rattle.std.proofs.Common.{◌≡◌, false}
use Rattle.bson_doc.specs.Document.{tree_of}
use Rattle.doc_stages.specs.Projection.{includes_from}
use Rattle.doc_stages.proofs.projection.is_inclusion.Given as goal

abbrev pub invariant-loop-name : goal.invariant-loop-name
invariant-loop-name l = includes_from false (tree_of l.fn.projection) ≡ includes_from l.by_id (tree_of l.name-iterator)
