use Rattle.std.proofs.Common.{◌≡◌, ◌≤◌, ◌+◌, ◌*◌, [], map, take}
use Rattle.bson_doc.specs.Array.{array_tree}
use Rattle.bson_doc.specs.Bson.{value_of}
use Rattle.bson_doc.specs.Depths.{tree_depth, value_depth}
use Rattle.bson_doc.specs.Document.{tree_of}
use Rattle.replay.specs.Stripped.{stripped_value}
use Rattle.replay.proofs.Stripping.{put_stripped}
use Rattle.replay.proofs.ignored.+stripped.Given as goal

abbrev pub decreases-stripped : goal.decreases-stripped
decreases-stripped l = 5 * tree_depth (tree_of l.document.now) + 3

abbrev pub decreases-strip_fields : goal.decreases-strip_fields
decreases-strip_fields l = 5 * tree_depth (tree_of l.document.now) + 2

abbrev pub decreases-stripped_value : goal.decreases-stripped_value
decreases-stripped_value l = 5 * value_depth (value_of l.value.now) + 1

abbrev pub decreases-stripped_values : goal.decreases-stripped_values
decreases-stripped_values l = 5 * tree_depth (array_tree 0 (map value_of l.values.now)) + 4

abbrev pub decreases-strip_values : goal.decreases-strip_values
decreases-strip_values l = 5 * tree_depth (array_tree 0 (map value_of l.values.now)) + 3

-- the fields left are no deeper, and what is left of them is put behind those that were
abbrev pub invariant-strip_fields-loop-name : goal.invariant-strip_fields-loop-name
invariant-strip_fields-loop-name l = record {
  deep : tree_depth (tree_of l.name-iterator) ≤ tree_depth (tree_of l.fn.document);
  put : put_stripped (map (λ n. n.now) l.names) l.fn.document l.fn.left ≡ put_stripped (map (λ n. n.now) l.names) l.name-iterator l.left;
}

abbrev pub invariant-strip_values-loop-value : goal.invariant-strip_values-loop-value
invariant-strip_values-loop-value l =
    l.fn.left.items ≡ [] → map value_of l.left.items ≡ map (stripped_value (map (λ n. n.now) l.names)) (map value_of (take l.value-index l.values))
