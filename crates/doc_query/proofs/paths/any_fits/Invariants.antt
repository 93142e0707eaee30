use Rattle.std.proofs.Common.{◌≡◌, drop, map, Some}
use Rattle.std.specs.List.{list_any}
use Rattle.bson_doc.specs.Bson.{value_of}
use Rattle.doc_query.specs.Criteria.{fits}
use Rattle.doc_query.proofs.paths.any_fits.Given as goal

abbrev pub invariant-loop-value : goal.invariant-loop-value
invariant-loop-value l = list_any (fits l.criterion) (map Some (map value_of (drop l.value-index l.values))) ≡ list_any (fits l.criterion) (map Some (map value_of l.values))
