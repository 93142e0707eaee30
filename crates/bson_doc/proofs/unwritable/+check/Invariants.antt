use Rattle.std.proofs.Common.{◌≡◌, ◌≤◌, ◌+◌, ◌*◌, drop, map}
use Rattle.bson_doc.specs.Array.{array_tree}
use Rattle.bson_doc.specs.Bson.{value_of}
use Rattle.bson_doc.specs.Depths.{tree_depth, value_depth}
use Rattle.bson_doc.specs.Document.{tree_of}
use Rattle.bson_doc.specs.Unwritable.{unwritable}
use Rattle.bson_doc.proofs.Owned.{values, AreOwned}
use Rattle.bson_doc.proofs.unwritable.+check.Given as goal

abbrev pub decreases-check_document : goal.decreases-check_document
decreases-check_document l = 2 * tree_depth (tree_of l.document.now) + 1

abbrev pub decreases-check_array : goal.decreases-check_array
decreases-check_array l = 2 * tree_depth (array_tree 0 l.array.now) + 1

abbrev pub decreases-check_value : goal.decreases-check_value
decreases-check_value l = 2 * value_depth (value_of l.value.now)

-- The pairs left are no deeper, and fail where all pairs do. If they are owned, all are.
abbrev pub invariant-check_document-loop-name : goal.invariant-check_document-loop-name
invariant-check_document-loop-name l = record {
  deep : tree_depth (tree_of l.name-iterator) ≤ tree_depth (tree_of l.document);
  left : unwritable l.depth (tree_of l.document) ≡ unwritable l.depth (tree_of l.name-iterator);
  owned : AreOwned l.depth (values l.name-iterator) → AreOwned l.depth (values l.document);
}

abbrev pub invariant-check_array-loop-value : goal.invariant-check_array-loop-value
invariant-check_array-loop-value l =
    let left = array_tree l.value-index (map value_of (drop l.value-index l.value-items)) in record {
      deep : tree_depth left ≤ tree_depth (array_tree 0 l.array);
      left : unwritable l.depth (array_tree 0 l.array) ≡ unwritable l.depth left;
      owned : AreOwned l.depth (map value_of (drop l.value-index l.value-items)) → AreOwned l.depth l.array;
    }
