use Rattle.std.proofs.Common.{rules, ◌-◌, arith, sym, ap, ap₂, ◌∙◌, SFits, w64, int_cmp}
use Rattle.std.specs.Ordering.{ordering_reverse}
use Rattle.std.proofs.lemmas.Int.{to_z-of_z}
use Rattle.std.proofs.lemmas.Cmp.{int_cmp_total}
use Rattle.doc_query.specs.Numbers.{number_value, scaled}
use Rattle.doc_query.proofs.Scaling.{scaled_both}
use Rattle.doc_query.proofs.numbers.number_order.Goals as goal

pub returns-then-a-b : goal.returns-then-a-b
returns-then-a-b c =
    let a = c.args.a in
    let b = c.args.b in
    let first : SFits w64 a.digits = search rules in
    let second : SFits w64 b.digits = search rules in
    c.scaled_order.ensures
    ∙ ap₂ (λ x y. int_cmp (scaled x (a.power - b.power)) y) (to_z-of_z w64 a.digits first) (to_z-of_z w64 b.digits second)
    ∙ scaled_both a.digits b.digits a.power b.power (omega arith)

pub returns-else-a-b : goal.returns-else-a-b
returns-else-a-b c =
    let a = c.args.a in
    let b = c.args.b in
    let first : SFits w64 a.digits = search rules in
    let second : SFits w64 b.digits = search rules in
    c.reverse.ensures
    ∙ ap ordering_reverse (c.scaled_order-else-a-b.ensures
    ∙ ap₂ (λ x y. int_cmp (scaled x (b.power - a.power)) y) (to_z-of_z w64 b.digits second) (to_z-of_z w64 a.digits first)
    ∙ scaled_both b.digits a.digits b.power a.power (omega arith))
    ∙ sym (int_cmp_total.antisymm (number_value a) (number_value b))
