use Rattle.std.proofs.Common.{◌≡◌}
use Rattle.bson_doc.specs.Document.{tree_of}
use Rattle.doc_query.specs.Paths.{own_values}
use Rattle.doc_query.specs.Conditions.{meets_all}
use Rattle.doc_query.proofs.meeting.meets_all.Given as goal

abbrev pub invariant-loop-name : goal.invariant-loop-name
invariant-loop-name l = meets_all (tree_of l.fn.conditions) (own_values l.fn.own) ≡ meets_all (tree_of l.name-iterator) (own_values l.fn.own)
