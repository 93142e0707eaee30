use Rattle.std.proofs.Common.{◌+◌, length, arith}
use Rattle.bson_raw.proofs.TotalLaws.{pair_within, totals_fit, within_document}
use Rattle.bson_raw.proofs.totals.+totals.Goals as goal

pub document_totals-overflow_add-elements : goal.document_totals-overflow_add-elements
document_totals-overflow_add-elements t c =
    totals_fit (1 + c.value_totals-held.result.elements) c.args.document.bytes.now c.args.document.spelled (λ whole spelled.
    let left = c.loop-name.invariant.so_far whole spelled in
    let first = c.in-Some.ensures.steps.1.0 left.0 left.1 in
    let held = c.value_totals-held.ensures first.tree_value first.shown in
    omega (arith, pair_within whole left.0 first.others c.in-Some.name.now first.tree_value c.loop-name.elements c.loop-name.sizes _ _ left.2 left.3 first.is_first held.0 held.1))

pub document_totals-overflow_add-elements-in-loop-name : goal.document_totals-overflow_add-elements-in-loop-name
document_totals-overflow_add-elements-in-loop-name t c =
    totals_fit (c.loop-name.elements + (1 + c.value_totals-held.result.elements)) c.args.document.bytes.now c.args.document.spelled (λ whole spelled.
    let left = c.loop-name.invariant.so_far whole spelled in
    let first = c.in-Some.ensures.steps.1.0 left.0 left.1 in
    let held = c.value_totals-held.ensures first.tree_value first.shown in
    omega (arith, pair_within whole left.0 first.others c.in-Some.name.now first.tree_value c.loop-name.elements c.loop-name.sizes _ _ left.2 left.3 first.is_first held.0 held.1))

pub document_totals-overflow_add-sizes : goal.document_totals-overflow_add-sizes
document_totals-overflow_add-sizes t c =
    totals_fit (length c.in-Some.name.now + c.value_totals-held.result.sizes) c.args.document.bytes.now c.args.document.spelled (λ whole spelled.
    let left = c.loop-name.invariant.so_far whole spelled in
    let first = c.in-Some.ensures.steps.1.0 left.0 left.1 in
    let held = c.value_totals-held.ensures first.tree_value first.shown in
    omega (arith, pair_within whole left.0 first.others c.in-Some.name.now first.tree_value c.loop-name.elements c.loop-name.sizes _ _ left.2 left.3 first.is_first held.0 held.1))

pub document_totals-overflow_add-sizes-in-loop-name : goal.document_totals-overflow_add-sizes-in-loop-name
document_totals-overflow_add-sizes-in-loop-name t c =
    totals_fit (c.loop-name.sizes + (length c.in-Some.name.now + c.value_totals-held.result.sizes)) c.args.document.bytes.now c.args.document.spelled (λ whole spelled.
    let left = c.loop-name.invariant.so_far whole spelled in
    let first = c.in-Some.ensures.steps.1.0 left.0 left.1 in
    let held = c.value_totals-held.ensures first.tree_value first.shown in
    omega (arith, pair_within whole left.0 first.others c.in-Some.name.now first.tree_value c.loop-name.elements c.loop-name.sizes _ _ left.2 left.3 first.is_first held.0 held.1))

pub document_totals-returns-clause-within : goal.document_totals-returns-clause-within
document_totals-returns-clause-within t c =
    within_document (c.loop-name.elements + c.loop-name.sizes) c.args.document.bytes.now c.args.document.spelled (λ whole spelled.
    let left = c.loop-name.invariant.so_far whole spelled in
    omega (arith, left.2, left.3))
