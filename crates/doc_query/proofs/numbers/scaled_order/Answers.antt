use Rattle.std.proofs.Common.{◌*ℤ◌, pos, ◌≤◌, ◌^◌, arith, lit<, ap, ap₂, ◌∙◌, w64, to_z, of_z, pow_mono, int_cmp}
use Rattle.std.proofs.lemmas.Int.{fits_signed_mul, to_z-of_z}
use mir.Syntax.{w128}
use Rattle.std.proofs.lemmas.Nat.{one_shl}
use Rattle.doc_query.specs.Numbers.{scaled}
use Rattle.doc_query.proofs.Scaling.{abs_most, scaled_far}
use Rattle.doc_query.proofs.numbers.scaled_order.Goals as goal

pub returns-then-power-lt64 : goal.returns-then-power-lt64
returns-then-power-lt64 c =
    let power = c.args.power in
    let digits = c.from.ensures ∙ to_z-of_z w64 c.args.digits c.ranges.digits in
    let factor = c.from-then-power-lt64.ensures ∙ ap pos (one_shl power 64 (omega arith)) in
    let other = c.from-then-power-lt64-2.ensures ∙ to_z-of_z w64 c.args.other c.ranges.other in
    let most : power ≤ 63 = omega arith in
    let fits = fits_signed_mul w128 c.args.digits (pos (2 ^ power)) (2 ^ 63) (2 ^ 63) (abs_most c.args.digits c.ranges.digits) (pow_mono most) (lit< tt) in
    c.cmp.ensures
    ∙ ap₂ int_cmp
    (ap (λ z. to_z w128 (of_z w128 z))
    (ap₂ ◌*ℤ◌ (to_z-of_z w128 c.from.result (record { sfits = c.from.type_inv }) ∙ digits) (to_z-of_z w128 c.from-then-power-lt64.result (record { sfits = c.from-then-power-lt64.type_inv }) ∙ factor))
    ∙ to_z-of_z w128 (scaled c.args.digits power) fits)
    (to_z-of_z w128 c.from-then-power-lt64-2.result (record { sfits = c.from-then-power-lt64-2.type_inv }) ∙ other)

pub returns-in_default : goal.returns-in_default
returns-in_default c =
    let sign = c.cmp-else-power-lt64.ensures ∙ ap (λ z. int_cmp z (pos 0)) (to_z-of_z w64 c.args.digits c.ranges.digits) in
    sign ∙ scaled_far c.args.digits c.args.other c.args.power (omega arith) c.ranges.other (λ e. c.in_default.not-Equal (sign ∙ e))
