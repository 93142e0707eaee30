use Rattle.std.proofs.Common.{◌+◌, ap, map, drop, arith}
use Rattle.std.specs.Fmt.{decimal}
use Rattle.bson_elem.specs.Kinds.{byte_of}
use Rattle.bson_doc.specs.Array.{array_tree}
use Rattle.bson_doc.specs.Bson.{value_of}
use Rattle.bson_doc.specs.Depths.{tree_depth}
use Rattle.bson_doc.specs.Document.{tree_of}
use Rattle.bson_doc.proofs.Checking.{tree_depth-with_first, array_left}
use Rattle.bson_doc.proofs.Writing.{written_more, always_none, kept_front, kept_begun}
use Rattle.bson_doc.proofs.to_raw.+write.Goals as goal

pub write_document-loop-name-preserved : goal.write_document-loop-name-preserved
write_document-loop-name-preserved t c =
    let first = ap tree_of c.in-Some.ensures.steps in
    let v = value_of c.in-Some.value.now in
    let others = tree_of c.next.new.self in
    record {
      deep = omega (arith, c.loop-name.invariant.deep, ap tree_depth first, tree_depth-with_first c.in-Some.name.now v others);
      written = written_more (tree_of c.args.document.now) (tree_of c.loop-name.name-iterator) _ c.loop-name.out.items c.write_head.new.out.items c.write_value.new.out.items c.loop-name.invariant.written c.in-Some.name.now v others (byte_of c.kind.result) first (ap byte_of c.kind.ensures) c.in_ok-write_head.ensures.added c.in_ok-write_value.ensures.added c.in_ok-write_head.ensures.text c.in_ok-write_value.ensures.formed;
    }

pub write_array-loop-index-preserved : goal.write_array-loop-index-preserved
write_array-loop-index-preserved t c =
    let first = array_left c.as_slice-value-items.result.now c.loop-index.index c.value-item.result c.loop-index-test.true c.value-item.is in
    let v = value_of c.value-item.result in
    let others = array_tree (c.loop-index.index + 1) (map value_of (drop (c.loop-index.index + 1) c.as_slice-value-items.result.now)) in
    record {
      deep = omega (arith, c.loop-index.invariant.deep, ap tree_depth first, tree_depth-with_first (decimal c.loop-index.index) v others);
      written = written_more (array_tree 0 c.args.array.now) (array_tree c.loop-index.index (map value_of (drop c.loop-index.index c.as_slice-value-items.result.now))) _ c.loop-index.out.items c.write_head.new.out.items c.write_value.new.out.items c.loop-index.invariant.written (decimal c.loop-index.index) v others (byte_of c.kind.result) first (ap byte_of c.kind.ensures) c.in_ok-write_head.ensures.added c.in_ok-write_value.ensures.added c.in_ok-write_head.ensures.text c.in_ok-write_value.ensures.formed;
    }

pub write_document-returns-in_err-write_head-clause-kept :
    goal.write_document-returns-in_err-write_head-clause-kept
write_document-returns-in_err-write_head-clause-kept t c =
    always_none c.from_residual-in_err-write_head.result
    (kept_begun (tree_of c.args.document.now) (tree_of c.loop-name.name-iterator) c.args.out.now.items _ _ c.loop-name.out.items c.write_head.new.out.items c.loop-name.invariant.written c.in_ok-begin.ensures.added c.in_err-write_head.ensures.kept)

pub write_document-returns-in_err-write_value-clause-kept :
    goal.write_document-returns-in_err-write_value-clause-kept
write_document-returns-in_err-write_value-clause-kept t c =
    always_none c.from_residual-in_err-write_value.result
    (kept_begun (tree_of c.args.document.now) (tree_of c.loop-name.name-iterator) c.args.out.now.items _ _ c.loop-name.out.items c.write_value.new.out.items c.loop-name.invariant.written c.in_ok-begin.ensures.added
    (kept_front c.loop-name.out.items _ c.write_head.new.out.items c.write_value.new.out.items c.in_ok-write_head.ensures.added c.in_err-write_value.ensures.kept))

pub write_array-returns-in_err-write_head-clause-kept :
    goal.write_array-returns-in_err-write_head-clause-kept
write_array-returns-in_err-write_head-clause-kept t c =
    always_none c.from_residual-in_err-write_head.result
    (kept_begun _ _ c.args.out.now.items _ _ c.loop-index.out.items c.write_head.new.out.items c.loop-index.invariant.written c.in_ok-begin.ensures.added c.in_err-write_head.ensures.kept)

pub write_array-returns-in_err-write_value-clause-kept :
    goal.write_array-returns-in_err-write_value-clause-kept
write_array-returns-in_err-write_value-clause-kept t c =
    always_none c.from_residual-in_err-write_value.result
    (kept_begun _ _ c.args.out.now.items _ _ c.loop-index.out.items c.write_value.new.out.items c.loop-index.invariant.written c.in_ok-begin.ensures.added
    (kept_front c.loop-index.out.items _ c.write_head.new.out.items c.write_value.new.out.items c.in_ok-write_head.ensures.added c.in_err-write_value.ensures.kept))
