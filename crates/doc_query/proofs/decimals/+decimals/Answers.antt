use Rattle.std.proofs.Common.{List, ap, arith}
use Rattle.bson_raw.specs.{TreeValue}
use Rattle.bson_doc.specs.Array.{array_tree}
use Rattle.bson_doc.specs.Bson.{value_of}
use Rattle.bson_doc.specs.declared.bson_values.Bson.{Bson}
use Rattle.bson_doc.specs.Depths.{tree_depth, value_depth}
use Rattle.doc_query.proofs.Depths.{element_depth}
use Rattle.doc_query.proofs.HeldDecimals.{values_depth}
use Rattle.doc_query.proofs.decimals.+decimals.Goals as goal

pub any_holds-holds_decimal-requires : goal.any_holds-holds_decimal-requires
any_holds-holds_decimal-requires t c =
    (omega (arith, element_depth 0 c.loop-value.value-index c.args.values.now c.value-item.result c.loop-value-test.true c.value-item.is), tt)

pub holds_decimal-any_holds-requires : goal.holds_decimal-any_holds-requires
holds_decimal-any_holds-requires t c =
    let lent = ap (λ (vs : List TreeValue). tree_depth (array_tree 0 vs)) c.values.ensures in
    let held = ap (λ (v : Bson). value_depth (value_of v)) c.in-Document.is in
    (omega (arith, lent, held, values_depth 0 c.in-Document.document), tt)

pub holds_decimal-any_holds-requires-in-CodeWithScope : goal.holds_decimal-any_holds-requires-in-CodeWithScope
holds_decimal-any_holds-requires-in-CodeWithScope t c =
    let lent = ap (λ (vs : List TreeValue). tree_depth (array_tree 0 vs)) c.values-in-CodeWithScope.ensures in
    let held = ap (λ (v : Bson). value_depth (value_of v)) c.in-CodeWithScope.is in
    (omega (arith, lent, held, values_depth 0 c.in-CodeWithScope.scope), tt)
