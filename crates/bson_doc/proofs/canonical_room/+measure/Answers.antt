use Rattle.std.proofs.Common.{◌+◌, length, ap, ◌∙◌, arith}
use Rattle.bson_raw.specs.Pairs.{names_of}
use Rattle.bson_raw.proofs.Lemmas.{count_fits, length-names_of-le, names_of-with_first}
use Rattle.bson_doc.proofs.Rooms.{plain_room_more}
use Rattle.bson_doc.proofs.canonical_room.+measure.Goals as goal

pub room_after_document-overflow_add-index : goal.room_after_document-overflow_add-index
room_after_document-overflow_add-index t c =
    count_fits (c.loop-name.index + 1) c.args.document.bytes.now c.args.document.spelled (λ whole spelled.
    let left = c.loop-name.invariant.3 whole spelled in
    let first = c.in-Some.ensures.steps.1.0 left.0 left.1 in
    let names = ap names_of first.is_first ∙ names_of-with_first c.in-Some.name.now first.tree_value first.others in
    omega (arith, length-names_of-le whole, left.3, ap length names))

pub room_after_document-loop-name-preserved : goal.room_after_document-loop-name-preserved
room_after_document-loop-name-preserved t c = (
  tt,
  tt,
  c.in-Some.ensures.steps.0 ∙ c.loop-name.invariant.2,
  λ whole spelled.
      let left = c.loop-name.invariant.3 whole spelled in
      let first = c.in-Some.ensures.steps.1.0 left.0 left.1 in
      let names = ap names_of first.is_first ∙ names_of-with_first c.in-Some.name.now first.tree_value first.others in (
        first.others,
        first.left,
        plain_room_more _ _ _ _ c.args.in_array c.loop-name.index c.in-Some.name.now first.tree_value left.0 first.others left.2 first.is_first (c.in_ok-left-2.ensures first.tree_value first.shown),
        omega (arith, left.3, ap length names),
      ),
)
