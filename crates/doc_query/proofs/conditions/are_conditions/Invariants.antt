use Rattle.std.proofs.Common.{◌≡◌}
use Rattle.bson_doc.specs.Document.{tree_of}
use Rattle.doc_query.specs.Conditions.{are_conditions}
use Rattle.doc_query.proofs.conditions.are_conditions.Given as goal

abbrev pub invariant-loop-name : goal.invariant-loop-name
invariant-loop-name l = are_conditions (tree_of l.fn.conditions) ≡ are_conditions (tree_of l.name-iterator)
