use Rattle.std.proofs.Common.{◌<◌, length, refl, arith}
use Rattle.bson_elem.specs.Items.{element_view}
use Rattle.byte_views.specs.Iters.{at_end, fails, outside, reads}
use Rattle.byte_views.proofs.ReadParts.{placed, read_at}
use Rattle.byte_views.proofs.iter.step_in_full.Goals as goal

pub returns-then-not-is_inside : goal.returns-then-not-is_inside
returns-then-not-is_inside c = outside (λ is. absurd (let no = c.if-not-is_inside.ensures.1 is in cc)) c.wrong.ensures refl

pub returns-then-iter : goal.returns-then-iter
returns-then-iter c = at_end (c.if-not-is_inside.ensures.0 refl) c.if-iter.true c.none.ensures refl

pub of_item-requires-clause-low : goal.of_item-requires-clause-low
of_item-requires-clause-low c =
    let inside = c.if-not-is_inside.ensures.0 refl in
    let lt : c.args.iter.now.at < c.args.iter.now.end = omega (arith, c.if-iter.false, inside.0) in
    let r = read_at c.args.bytes.now c.args.iter.now.depth c.args.iter.now.start c.args.iter.now.at c.args.iter.now.end _ (λ j. (c.type_inv.bytes j).fits) lt inside.1 c.in-Ok.ensures.read in
    omega (arith, r.1, inside.1)

pub returns-in-Ok : goal.returns-in-Ok
returns-in-Ok c =
    let inside = c.if-not-is_inside.ensures.0 refl in
    let s = c.args.iter.now in
    let lt : s.at < s.end = omega (arith, c.if-iter.false, inside.0) in
    let read = element_view c.args.bytes.now s.end c.in-Ok.found in
    let r = read_at c.args.bytes.now s.depth s.start s.at s.end read (λ j. (c.type_inv.bytes j).fits) lt inside.1 c.in-Ok.ensures.read in
    reads read inside lt c.in-Ok.ensures.read refl c.in-Ok.ensures.next
    (placed s.at c.in-Ok.found.next (length c.in-Ok.found.name.now) _ _ _ _ c.new-name.result c.of_item.result c.of_item.ensures (omega arith) c.new-name.ensures r.0)

pub returns-in-Err : goal.returns-in-Err
returns-in-Err c =
    let inside = c.if-not-is_inside.ensures.0 refl in
    fails c.in-Err.fault inside (omega (arith, c.if-iter.false, inside.0)) c.in-Err.ensures.read c.of_fault.ensures refl
