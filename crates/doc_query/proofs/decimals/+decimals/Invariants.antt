use Rattle.std.proofs.Common.{◌≡◌, ◌+◌, ◌*◌, drop, map}
use Rattle.std.specs.List.{list_any}
use Rattle.bson_doc.specs.Array.{array_tree}
use Rattle.bson_doc.specs.Bson.{value_of}
use Rattle.bson_doc.specs.Depths.{tree_depth, value_depth}
use Rattle.doc_query.specs.Decimals.{holds_decimal}
use Rattle.doc_query.proofs.decimals.+decimals.Given as goal

abbrev pub decreases-any_holds : goal.decreases-any_holds
decreases-any_holds l = 2 * tree_depth (array_tree 0 (map value_of l.values.now)) + 1

abbrev pub decreases-holds_decimal : goal.decreases-holds_decimal
decreases-holds_decimal l = 2 * value_depth (value_of l.value.now)

abbrev pub invariant-any_holds-loop-value : goal.invariant-any_holds-loop-value
invariant-any_holds-loop-value l =
    list_any holds_decimal (map value_of (drop l.value-index l.values)) ≡ list_any holds_decimal (map value_of l.values)
