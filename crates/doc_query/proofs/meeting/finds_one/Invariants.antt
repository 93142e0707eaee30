use Rattle.std.proofs.Common.{◌≡◌, drop, map}
use Rattle.bson_doc.specs.Bson.{value_of}
use Rattle.doc_query.specs.Paths.{own_values}
use Rattle.doc_query.specs.Conditions.{finds_one}
use Rattle.doc_query.proofs.meeting.finds_one.Given as goal

abbrev pub invariant-loop-operand : goal.invariant-loop-operand
invariant-loop-operand l =
    finds_one (own_values l.own) (map value_of (drop l.operand-index l.operands))
    ≡ finds_one (own_values l.own) (map value_of l.operands)
