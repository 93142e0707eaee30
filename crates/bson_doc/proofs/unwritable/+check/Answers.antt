use Rattle.std.proofs.Common.{◌∙◌, ◌+◌, ◌<◌, ap, map, drop, arith, ◌^◌}
use Rattle.std.proofs.lemmas.List.{drop_all}
use Rattle.std.specs.Fmt.{decimal}
use Rattle.std.proofs.lemmas.Result.{err_from_is_err_and}
use Rattle.bson_doc.specs.Array.{array_tree}
use Rattle.bson_doc.specs.Bson.{value_of}
use Rattle.bson_doc.specs.Depths.{tree_depth}
use Rattle.bson_doc.specs.Document.{tree_of}
use Rattle.bson_doc.specs.Unwritable.{unwritable}
use Rattle.bson_doc.proofs.Checking.{passes, value_fails, no_zero_in_index, values_left, array_left, tree_depth-with_first}
use Rattle.bson_doc.proofs.Owned.{document_plain, document_unique, array_plain, array_unique, none_left}
use Rattle.bson_doc.proofs.unwritable.+check.Goals as goal

pub check_document-check_value-requires : goal.check_document-check_value-requires
check_document-check_value-requires t c =
    let first = ap tree_of c.in-Some.ensures.steps in
    let deep = tree_depth-with_first c.in-Some.name.now (value_of c.in-Some.value.now) (tree_of c.next.new.self) in
    (omega (arith, c.loop-name.invariant.deep, ap tree_depth first, deep), tt)

pub check_array-loop-value-preserved : goal.check_array-loop-value-preserved
check_array-loop-value-preserved t c =
    let next = array_left c.as_slice-value-items.result.now c.loop-value.value-index c.value-item.result c.loop-value-test.true c.value-item.is in
    let small : c.loop-value.value-index < 2 ^ 64 = omega arith in
    let cut = values_left c.as_slice-value-items.result.now c.loop-value.value-index c.value-item.result c.loop-value-test.true c.value-item.is in
    record {
      deep = omega (arith, c.loop-value.invariant.deep, ap tree_depth next, tree_depth-with_first (decimal c.loop-value.value-index) (value_of c.value-item.result) (array_tree (c.loop-value.value-index + 1) (map value_of (drop (c.loop-value.value-index + 1) c.as_slice-value-items.result.now))));
      left = c.loop-value.invariant.left ∙ ap (unwritable c.args.depth) next ∙ passes c.args.depth (decimal c.loop-value.value-index) (value_of c.value-item.result) (array_tree (c.loop-value.value-index + 1) (map value_of (drop (c.loop-value.value-index + 1) c.as_slice-value-items.result.now))) (no_zero_in_index c.loop-value.value-index small) c.in_ok-check_value.ensures.reason;
      owned = λ rest. c.loop-value.invariant.owned (rw cut (record { plain = c.in_ok-check_value.ensures.canonical; unique = c.in_ok-check_value.ensures.unique }, rest));
    }

pub check_array-returns-in_err-check_value-clause-reason : goal.check_array-returns-in_err-check_value-clause-reason
check_array-returns-in_err-check_value-clause-reason t c =
    let next = array_left c.as_slice-value-items.result.now c.loop-value.value-index c.value-item.result c.loop-value-test.true c.value-item.is in
    let small : c.loop-value.value-index < 2 ^ 64 = omega arith in
    let told = err_from_is_err_and c.from_residual.result c.from_residual.ensures.1 in
    rw (told.1, told.2)
    (c.loop-value.invariant.left ∙ ap (unwritable c.args.depth) next ∙ value_fails c.args.depth (decimal c.loop-value.value-index) (value_of c.value-item.result) (array_tree (c.loop-value.value-index + 1) (map value_of (drop (c.loop-value.value-index + 1) c.as_slice-value-items.result.now))) c.in_err-check_value.field-0.0 (no_zero_in_index c.loop-value.value-index small) c.in_err-check_value.ensures.reason)

pub check_document-returns-clause-canonical : goal.check_document-returns-clause-canonical
check_document-returns-clause-canonical t c =
    document_plain c.args.depth 0 c.args.document.now (c.loop-name.invariant.owned (none_left c.args.depth _ c.in-None.ensures.steps.0))

pub check_document-returns-clause-unique : goal.check_document-returns-clause-unique
check_document-returns-clause-unique t c =
    document_unique c.args.depth c.args.document.now c.iter-name-items.ensures.distinct (c.loop-name.invariant.owned (none_left c.args.depth _ c.in-None.ensures.steps.0))

pub check_array-returns-clause-canonical : goal.check_array-returns-clause-canonical
check_array-returns-clause-canonical t c =
    let all = drop_all c.loop-value.value-index c.as_slice-value-items.result.now c.loop-value-test.false in
    array_plain c.args.depth 0 c.args.array.now (c.loop-value.invariant.owned (rw all tt))

pub check_array-returns-clause-unique : goal.check_array-returns-clause-unique
check_array-returns-clause-unique t c =
    let all = drop_all c.loop-value.value-index c.as_slice-value-items.result.now c.loop-value-test.false in
    array_unique c.args.depth 0 c.args.array.now (c.loop-value.invariant.owned (rw all tt))
