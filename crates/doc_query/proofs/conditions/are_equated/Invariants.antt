use Rattle.std.proofs.Common.{◌≡◌, drop, map}
use Rattle.bson_doc.specs.Bson.{value_of}
use Rattle.doc_query.specs.Conditions.{are_equated}
use Rattle.doc_query.proofs.conditions.are_equated.Given as goal

abbrev pub invariant-loop-value : goal.invariant-loop-value
invariant-loop-value l = are_equated (map value_of (drop l.value-index l.values)) ≡ are_equated (map value_of l.values)
