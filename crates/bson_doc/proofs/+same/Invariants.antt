use Rattle.std.proofs.Common.{◌≡◌, ◌+◌, ◌*◌, max, map, take}
use Rattle.bson_doc.specs.Array.{array_tree}
use Rattle.bson_doc.specs.Bson.{value_of}
use Rattle.bson_doc.specs.Depths.{tree_depth, value_depth}
use Rattle.bson_doc.specs.Document.{tree_of}
use Rattle.bson_doc.proofs.+same.Given as goal

abbrev pub invariant-arrays::ArrayPartialEq::eq-loop-i : goal.invariant-arrays::ArrayPartialEq::eq-loop-i
invariant-arrays::ArrayPartialEq::eq-loop-i l = map value_of (take l.i l.value-items) ≡ map value_of (take l.i l.other-inside.values.items)

abbrev pub invariant-documents::DocumentPartialEq::eq-loop-i : goal.invariant-documents::DocumentPartialEq::eq-loop-i
invariant-documents::DocumentPartialEq::eq-loop-i l = map value_of (take l.i l.value-items) ≡ map value_of (take l.i l.other-inside.values.items)

abbrev pub decreases-bson_values::BsonPartialEq::eq : goal.decreases-bson_values::BsonPartialEq::eq
decreases-bson_values::BsonPartialEq::eq l = 2 * max (value_depth (value_of l.self.now)) (value_depth (value_of l.other.now))

abbrev pub decreases-arrays::ArrayPartialEq::eq : goal.decreases-arrays::ArrayPartialEq::eq
decreases-arrays::ArrayPartialEq::eq l = 2 * max (tree_depth (array_tree 0 l.self.now)) (tree_depth (array_tree 0 l.other.now)) + 1

abbrev pub decreases-documents::DocumentPartialEq::eq : goal.decreases-documents::DocumentPartialEq::eq
decreases-documents::DocumentPartialEq::eq l = 2 * max (tree_depth (tree_of l.self.now)) (tree_depth (tree_of l.other.now)) + 1
