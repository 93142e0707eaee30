use Rattle.std.proofs.Common.{◌≤◌, ◌+◌, ◌*◌, drop, map}
use Rattle.bson_elem.specs.Spelling.{elements}
use Rattle.bson_doc.specs.Array.{array_tree}
use Rattle.bson_doc.specs.Bson.{value_of}
use Rattle.bson_doc.specs.Depths.{tree_depth, value_depth}
use Rattle.bson_doc.specs.Document.{tree_of}
use Rattle.bson_doc.proofs.Rooms.{IsRoomFor}
use Rattle.bson_doc.proofs.room.+measure.Given as goal

abbrev pub decreases-room_after_value : goal.decreases-room_after_value
decreases-room_after_value l = 4 * value_depth (value_of l.value.now)

abbrev pub decreases-room_after_pair : goal.decreases-room_after_pair
decreases-room_after_pair l = 4 * value_depth (value_of l.value.now) + 1

abbrev pub decreases-room_after_document : goal.decreases-room_after_document
decreases-room_after_document l = 4 * tree_depth (tree_of l.document.now) + 2

abbrev pub decreases-room_after_array : goal.decreases-room_after_array
decreases-room_after_array l = 4 * tree_depth (array_tree 0 l.array.now) + 2

abbrev pub decreases-room_after_scope : goal.decreases-room_after_scope
decreases-room_after_scope l = 4 * tree_depth (tree_of l.scope.now) + 3

-- the pairs left are no deeper, and what is left is room for them
abbrev pub invariant-room_after_document-loop-name : goal.invariant-room_after_document-loop-name
invariant-room_after_document-loop-name l = record {
  deep : tree_depth (tree_of l.name-iterator) ≤ tree_depth (tree_of l.document);
  room : IsRoomFor l.fn.room l.left (elements (tree_of l.document)) (elements (tree_of l.name-iterator));
}

abbrev pub invariant-room_after_array-loop-index : goal.invariant-room_after_array-loop-index
invariant-room_after_array-loop-index l =
    let others = array_tree l.index (map value_of (drop l.index l.value-items)) in record {
      deep : tree_depth others ≤ tree_depth (array_tree 0 l.array);
      room : IsRoomFor l.fn.room l.left (elements (array_tree 0 l.array)) (elements others);
    }
