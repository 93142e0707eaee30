use Rattle.std.proofs.Common.{ap, refl}
use Rattle.bson_elem.specs.Kinds.{kind_of}
use Rattle.bson_elem.specs.declared.kinds.Kind.TheVariants as kinds
use Rattle.byte_views.specs.Quick.{is_value}
use Rattle.byte_views.proofs.QuickLaws.{map_some}
use Rattle.byte_views.proofs.quick.value.Goals as goal

pub returns-in-1 : goal.returns-in-1
returns-in-1 c = map_some c.double.result (c.double.ensures c.args.depth c.args.at) (λ x v. (kinds.Double, ap kind_of c.in-1.is, is_value v))

pub returns-in-2 : goal.returns-in-2
returns-in-2 c = map_some c.string.result (c.string.ensures c.args.depth c.args.at) (λ x v. (kinds.String, ap kind_of c.in-2.is, v))

pub returns-in-3 : goal.returns-in-3
returns-in-3 c = map_some c.document.result c.document.ensures (λ x v. (kinds.Document, ap kind_of c.in-3.is, is_value v.0))

pub returns-in-4 : goal.returns-in-4
returns-in-4 c = map_some c.document-in-4.result c.document-in-4.ensures (λ x v. (kinds.Array, ap kind_of c.in-4.is, is_value v.1))

pub returns-in-7 : goal.returns-in-7
returns-in-7 c = map_some c.raw.result (c.raw.ensures c.args.depth c.args.at kinds.ObjectId refl (λ bytes. refl)) (λ x v. (kinds.ObjectId, ap kind_of c.in-7.is, is_value v))

pub returns-in-8 : goal.returns-in-8
returns-in-8 c = map_some c.boolean.result (c.boolean.ensures c.args.depth c.args.at c.args.from) (λ x v. (kinds.Boolean, ap kind_of c.in-8.is, is_value v))

pub returns-in-9 : goal.returns-in-9
returns-in-9 c = map_some c.int64.result (c.int64.ensures c.args.depth c.args.at c.args.from) (λ x v. (kinds.DateTime, ap kind_of c.in-9.is, is_value v.1))

pub returns-in-10 : goal.returns-in-10
returns-in-10 c = map_some c.raw-in-10.result (c.raw-in-10.ensures c.args.depth c.args.at kinds.Null refl (λ bytes. refl)) (λ x v. (kinds.Null, ap kind_of c.in-10.is, is_value v))

pub returns-in-16 : goal.returns-in-16
returns-in-16 c = map_some c.int32.result (c.int32.ensures c.args.depth c.args.at c.args.from) (λ x v. (kinds.Int32, ap kind_of c.in-16.is, is_value v))

pub returns-in-18 : goal.returns-in-18
returns-in-18 c = map_some c.int64-in-18.result (c.int64-in-18.ensures c.args.depth c.args.at c.args.from) (λ x v. (kinds.Int64, ap kind_of c.in-18.is, is_value v.0))

pub returns-in-19 : goal.returns-in-19
returns-in-19 c = map_some c.raw-in-19.result (c.raw-in-19.ensures c.args.depth c.args.at kinds.Decimal128 refl (λ bytes. refl)) (λ x v. (kinds.Decimal128, ap kind_of c.in-19.is, is_value v))
