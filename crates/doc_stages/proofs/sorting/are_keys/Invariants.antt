use Rattle.std.proofs.Common.{◌≡◌}
use Rattle.bson_doc.specs.Document.{tree_of}
use Rattle.doc_stages.specs.Sorting.{are_keys}
use Rattle.doc_stages.proofs.sorting.are_keys.Given as goal

abbrev pub invariant-loop-name : goal.invariant-loop-name
invariant-loop-name l = are_keys (tree_of l.fn.keys) ≡ are_keys (tree_of l.name-iterator)
