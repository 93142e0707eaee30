use Rattle.std.proofs.Common.{◌≡◌, ◌≤◌, ◌+◌, ◌*◌, drop, map}
use Rattle.bson_doc.specs.Array.{array_tree}
use Rattle.bson_doc.specs.Bson.{value_of}
use Rattle.bson_doc.specs.Depths.{tree_depth, value_depth}
use Rattle.bson_doc.specs.Document.{tree_of}
use Rattle.doc_query.specs.Filters.{filter_fault}
use Rattle.doc_query.proofs.Filtering.{first_fault}
use Rattle.doc_query.proofs.filters.+faults.Given as goal

abbrev pub decreases-filter_fault : goal.decreases-filter_fault
decreases-filter_fault l = 4 * tree_depth (tree_of l.filter.now) + 2

abbrev pub decreases-value_fault : goal.decreases-value_fault
decreases-value_fault l = 4 * value_depth (value_of l.value.now) + 1

abbrev pub decreases-array_fault : goal.decreases-array_fault
decreases-array_fault l = 4 * tree_depth (array_tree 0 (map value_of l.clauses.now)) + 3

abbrev pub decreases-clause_fault : goal.decreases-clause_fault
decreases-clause_fault l = 4 * value_depth (value_of l.clause.now) + 2

-- the fields left are no deeper, and fail where all do
abbrev pub invariant-filter_fault-loop-name : goal.invariant-filter_fault-loop-name
invariant-filter_fault-loop-name l = record {
  deep : tree_depth (tree_of l.name-iterator) ≤ tree_depth (tree_of l.fn.filter);
  left : filter_fault (tree_of l.fn.filter) ≡ filter_fault (tree_of l.name-iterator);
}

abbrev pub invariant-array_fault-loop-clause : goal.invariant-array_fault-loop-clause
invariant-array_fault-loop-clause l = first_fault (map value_of l.clauses) ≡ first_fault (map value_of (drop l.clause-index l.clauses))
