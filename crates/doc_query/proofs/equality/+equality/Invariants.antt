use Rattle.std.proofs.Common.{◌≡◌, ◌+◌, ◌*◌, drop, map}
use Rattle.bson_doc.specs.Array.{array_tree}
use Rattle.bson_doc.specs.Bson.{value_of}
use Rattle.bson_doc.specs.Depths.{tree_depth, value_depth}
use Rattle.bson_doc.specs.Document.{tree_of}
use Rattle.doc_query.specs.Equality.{equal_each}
use Rattle.doc_query.proofs.equality.+equality.Given as goal

abbrev pub decreases-are_equal : goal.decreases-are_equal
decreases-are_equal l = 4 * tree_depth (array_tree 0 (map value_of l.own.now)) + 1

abbrev pub decreases-is_equal_document : goal.decreases-is_equal_document
decreases-is_equal_document l = 4 * tree_depth (tree_of l.own.now) + 2

abbrev pub decreases-is_equal_array : goal.decreases-is_equal_array
decreases-is_equal_array l = 4 * tree_depth (array_tree 0 (map value_of l.own.now)) + 2

abbrev pub decreases-is_equal : goal.decreases-is_equal
decreases-is_equal l = 4 * value_depth (value_of l.a.now)

abbrev pub invariant-are_equal-loop-i : goal.invariant-are_equal-loop-i
invariant-are_equal-loop-i l =
    equal_each (map value_of l.own) (map value_of l.other)
    ≡ equal_each (map value_of (drop l.i l.own)) (map value_of (drop l.i l.other))
