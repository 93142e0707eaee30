use Rattle.std.proofs.Common.{◌≡◌, drop, map}
use Rattle.std.specs.List.{list_any}
use Rattle.bson_doc.specs.Bson.{value_of}
use Rattle.doc_query.specs.Filters.{is_nested}
use Rattle.doc_query.proofs.filters.any_nested.Given as goal

abbrev pub invariant-loop-value : goal.invariant-loop-value
invariant-loop-value l = list_any is_nested (map value_of (drop l.value-index l.values)) ≡ list_any is_nested (map value_of l.values)
