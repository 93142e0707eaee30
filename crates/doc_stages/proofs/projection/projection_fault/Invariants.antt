use Rattle.std.proofs.Common.{◌≡◌}
use Rattle.bson_doc.specs.Document.{tree_of}
use Rattle.doc_stages.specs.Projection.{projection_fault}
use Rattle.doc_stages.proofs.projection.projection_fault.Given as goal

abbrev pub invariant-loop-name : goal.invariant-loop-name
invariant-loop-name l = projection_fault l.inclusion (tree_of l.fn.projection) ≡ projection_fault l.inclusion (tree_of l.name-iterator)
