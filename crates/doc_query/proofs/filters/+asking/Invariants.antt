use Rattle.std.proofs.Common.{◌≡◌, ◌≤◌, ◌+◌, ◌*◌, drop, map}
use Rattle.bson_doc.specs.Array.{array_tree}
use Rattle.bson_doc.specs.Bson.{value_of}
use Rattle.bson_doc.specs.Depths.{tree_depth, value_depth}
use Rattle.bson_doc.specs.Document.{tree_of}
use Rattle.doc_query.specs.Filters.{has_fields}
use Rattle.doc_query.proofs.Filtering.{clauses_hold}
use Rattle.doc_query.proofs.filters.+asking.Given as goal

abbrev pub decreases-has_fields : goal.decreases-has_fields
decreases-has_fields l = 4 * tree_depth (tree_of l.filter.now) + 2

abbrev pub decreases-has_pair : goal.decreases-has_pair
decreases-has_pair l = 4 * value_depth (value_of l.value.now) + 1

abbrev pub decreases-has_clauses : goal.decreases-has_clauses
decreases-has_clauses l = 4 * tree_depth (array_tree 0 (map value_of l.clauses.now)) + 3

abbrev pub decreases-has_clause : goal.decreases-has_clause
decreases-has_clause l = 4 * value_depth (value_of l.clause.now) + 2

-- the fields left are no deeper, and ask for what all do
abbrev pub invariant-has_fields-loop-name : goal.invariant-has_fields-loop-name
invariant-has_fields-loop-name l = record {
  deep : tree_depth (tree_of l.name-iterator) ≤ tree_depth (tree_of l.fn.filter);
  left : has_fields (tree_of l.fn.filter) l.purpose (tree_of l.document) ≡ has_fields (tree_of l.name-iterator) l.purpose (tree_of l.document);
}

abbrev pub invariant-has_clauses-loop-clause : goal.invariant-has_clauses-loop-clause
invariant-has_clauses-loop-clause l =
    clauses_hold l.fn.logical l.purpose (tree_of l.document) (map value_of l.clauses)
    ≡ clauses_hold l.fn.logical l.purpose (tree_of l.document) (map value_of (drop l.clause-index l.clauses))
