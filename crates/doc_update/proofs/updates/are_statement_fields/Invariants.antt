use Rattle.std.proofs.Common.{◌≡◌}
use Rattle.bson_raw.specs.{names_of}
use Rattle.bson_doc.specs.Document.{tree_of}
use Rattle.doc_update.specs.Updating.{are_statement_fields}
use Rattle.doc_update.proofs.updates.are_statement_fields.Given as goal

abbrev pub invariant-loop-name : goal.invariant-loop-name
invariant-loop-name l = are_statement_fields (names_of (tree_of l.fn.statement)) ≡ are_statement_fields (names_of (tree_of l.name-iterator))
