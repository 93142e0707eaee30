use Rattle.std.proofs.Common.{◌+◌, ap, arith, drop, refl}
use Rattle.std.proofs.lemmas.List.{length-drop}
use Rattle.bson_elem.specs.Kinds.{kind_of}
use Rattle.bson_elem.specs.declared.kinds.Kind.TheVariants as kinds
use Rattle.byte_views.specs.Elements.{value_place}
use Rattle.byte_views.specs.Quick.{is_value}
use Rattle.byte_views.proofs.Passing.{of_some}
use Rattle.byte_views.proofs.QuickLaws.{map_some}
use Rattle.byte_views.proofs.quick.size.Goals as goal

pub returns-in-Some : goal.returns-in-Some
returns-in-Some c =
    let size = c.in-Some.ensures in
    let read = size.2 c.args.depth c.args.at c.args.from c.args.rest.now (omega (arith, c.if-rest-size.false)) in (
      value_place c.args.from (c.args.from + c.in-Some.size) size.0 c.args.bare read.0,
      (size.0, size.1, is_value (record { value = read.0; after = drop c.in-Some.size c.args.rest.now; read = read.1; size = omega (arith, length-drop c.in-Some.size c.args.rest.now, c.if-rest-size.false); place = refl })),
    )

pub returns-in-2 : goal.returns-in-2
returns-in-2 c = map_some c.size_of-in-2.result c.size_of-in-2.ensures (λ n w. (w.0, (kinds.String, ap kind_of c.in-2.is, of_some _ c.string.result (w.0, n) w.1 (c.string.ensures c.args.depth c.args.at))))

pub returns-in-3 : goal.returns-in-3
returns-in-3 c = map_some c.size_of-in-3.result c.size_of-in-3.ensures (λ n w. (w.0, (kinds.Document, ap kind_of c.in-3.is, is_value (of_some _ c.document.result (w.0, n) w.1 c.document.ensures).0)))

pub returns-in-4 : goal.returns-in-4
returns-in-4 c = map_some c.size_of-in-4.result c.size_of-in-4.ensures (λ n w. (w.0, (kinds.Array, ap kind_of c.in-4.is, is_value (of_some _ c.document-in-4.result (w.0, n) w.1 c.document-in-4.ensures).1)))

pub returns-in-8 : goal.returns-in-8
returns-in-8 c = map_some c.size_of-in-8.result c.size_of-in-8.ensures (λ n w. (w.0, (kinds.Boolean, ap kind_of c.in-8.is, is_value (of_some _ c.boolean.result (w.0, n) w.1 (c.boolean.ensures c.args.depth c.args.at c.args.from)))))
