use Rattle.std.proofs.Common.{◌≡◌, ◌+◌, ◌*◌, drop, map}
use Rattle.std.specs.List.{list_any}
use Rattle.bson_doc.specs.Bson.{value_of}
use Rattle.doc_query.specs.Criteria.{fits}
use Rattle.doc_query.specs.Paths.{in_each, in_element, left_len, steps_left}
use Rattle.doc_query.proofs.paths.+reaching.Given as goal

-- each step is a path that is shorter
abbrev pub decreases-reaches : goal.decreases-reaches
decreases-reaches l = 4 * left_len l.rest

abbrev pub decreases-reaches_by_name : goal.decreases-reaches_by_name
decreases-reaches_by_name l = 4 * left_len l.rest + 1

abbrev pub decreases-reaches_by_index : goal.decreases-reaches_by_index
decreases-reaches_by_index l = 4 * left_len l.rest + 1

abbrev pub decreases-reaches_in_element : goal.decreases-reaches_in_element
decreases-reaches_in_element l = 4 * left_len l.rest + 2

abbrev pub decreases-reaches_in_each : goal.decreases-reaches_in_each
decreases-reaches_in_each l = 4 * left_len l.rest + 3

abbrev pub invariant-reaches_in_each-loop-index : goal.invariant-reaches_in_each-loop-index
invariant-reaches_in_each-loop-index l =
    list_any (fits l.criterion) (in_each (in_element l.step (steps_left l.rest)) l.index (map value_of (drop l.index l.elements)))
    ≡ list_any (fits l.criterion) (in_each (in_element l.step (steps_left l.rest)) 0 (map value_of l.elements))
