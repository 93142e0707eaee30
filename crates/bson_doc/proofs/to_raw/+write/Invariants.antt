use Rattle.std.proofs.Common.{◌≤◌, ◌+◌, ◌*◌, drop, map}
use Rattle.bson_doc.specs.Array.{array_tree}
use Rattle.bson_doc.specs.Bson.{value_of}
use Rattle.bson_doc.specs.Depths.{tree_depth, value_depth}
use Rattle.bson_doc.specs.Document.{tree_of}
use Rattle.bson_doc.proofs.Writing.{Written}
use Rattle.bson_doc.proofs.to_raw.+write.Given as goal

abbrev pub decreases-write_document : goal.decreases-write_document
decreases-write_document l = 3 * tree_depth (tree_of l.document.now) + 1

abbrev pub decreases-write_scope : goal.decreases-write_scope
decreases-write_scope l = 3 * tree_depth (tree_of l.scope.now) + 2

abbrev pub decreases-write_array : goal.decreases-write_array
decreases-write_array l = 3 * tree_depth (array_tree 0 l.array.now) + 1

abbrev pub decreases-write_value : goal.decreases-write_value
decreases-write_value l = 3 * value_depth (value_of l.value.now)

abbrev pub invariant-write_document-loop-name : goal.invariant-write_document-loop-name
invariant-write_document-loop-name l = record {
  deep : tree_depth (tree_of l.name-iterator) ≤ tree_depth (tree_of l.document);
  written : Written (tree_of l.document) (tree_of l.name-iterator) l.initial.out.items l.out.items;
}

abbrev pub invariant-write_array-loop-index : goal.invariant-write_array-loop-index
invariant-write_array-loop-index l =
    let left = array_tree l.index (map value_of (drop l.index l.value-items)) in record {
      deep : tree_depth left ≤ tree_depth (array_tree 0 l.array);
      written : Written (array_tree 0 l.array) left l.initial.out.items l.out.items;
    }
