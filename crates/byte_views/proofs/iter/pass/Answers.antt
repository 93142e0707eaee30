use Rattle.std.proofs.Common.{◌≡◌, ◌+◌, arith, get_or, refl, rules, subst, sym}
use Rattle.byte_views.specs.declared.view.View.{View}
use Rattle.byte_views.proofs.QuickLaws.{quick_step}
use Rattle.byte_views.proofs.Passing.{passed_quick, quick_fits, zero_behind}
use Rattle.byte_views.proofs.iter.pass.Goals as goal

pub is_cstring_named-requires-clause-zero : goal.is_cstring_named-requires-clause-zero
is_cstring_named-requires-clause-zero c =
    let inside = c.if-not-is_inside.ensures.0 refl in
    let zero = zero_behind c.args.bytes.now c.in-Ok.found.now c.in-Ok.rest.now (c.args.iter.at + 1) c.args.iter.end (λ j. (c.type_inv.bytes j).fits) (omega (arith, inside.0, c.if-iter.false)) inside.1 c.in-Ok.ensures.read in
    subst (λ (v : View). get_or c.args.bytes.now (v.offset + v.length) 0 ≡ 0) (sym c.new-place.ensures) zero.1

pub overflow_add-result : goal.overflow_add-result
overflow_add-result c =
    let h = c.in-Some.ensures in
    let fits = quick_fits c.args.iter.depth c.args.iter.at _ c.in-Some.size h.1.0 c.in-Ok.rest.now c.bare-bare.result h.0 h.1.2 in
    search (rules, fits)

pub returns-in-Some : goal.returns-in-Some
returns-in-Some c =
    let h = c.in-Some.ensures in
    let inside = c.if-not-is_inside.ensures.0 refl in
    passed_quick c.args.bytes.now c.args.name.now c.in-Ok.rest.now c.args.iter h.0 c.bare-bare.result _ c.in-Some.size h.1.0 c.new-place.result
    (quick_step c.args.bytes.now c.args.iter c.in-Ok.found.now c.in-Ok.rest.now _ c.in-Some.size h.1.0 c.new-place.result c.bare-bare.result h.0 (λ j. (c.type_inv.bytes j).fits) inside (omega (arith, inside.0, c.if-iter.false)) c.in-Ok.ensures.read c.in-Ok.ensures.parts h.1.1 (omega arith) c.new-place.ensures c.bare-bare.ensures h.1.2)
    h.1.2 h.1.1 c.bare-bare.ensures (λ is. absurd (let no = c.if-is_cstring_named.ensures.1 is in cc))
