use Rattle.std.proofs.Common.{◌≡◌, refl, sym, ap, ◌∙◌, subst}
use Rattle.std.specs.Prelude.{Bool, true, false}
use Rattle.std.specs.Fmt.{decimal}
use Rattle.bson_elem.specs.Spelling.{IsName}
use Rattle.bson_raw.specs.Naming.{name_at}
use Rattle.byte_views.specs.declared.build.built.Built.{Built}
use Rattle.byte_views.specs.Appends.{is_pushed, no_name}
use Rattle.byte_views.specs.Builders.{in_array, next_name}
use Rattle.byte_views.specs.BuildFilling.{filled}
use Rattle.byte_views.proofs.Building.{pushed_as}
use Rattle.byte_views.proofs.build.builder.Builder.push_named_head.Goals as goal

pub returns-then-is_array-clause-pushed : goal.returns-then-is_array-clause-pushed
returns-then-is_array-clause-pushed c = λ value len-is.
    let b = c.args.self.now in let name = c.args.name.now in let w = c.push_item_head.result in let after = c.push_item_head.new.self in
    let array : true ≡ in_array b = sym c.if-is_array.true ∙ c.is_array.ensures in
    let is : decimal b.count ≡ next_name b name = ap (λ (x : Bool). name_at x b.count name) array in
    is_pushed (subst IsName is c.push_item_head.ensures.name) (pushed_as c.args.room.now (filled w after value c.push_item_head.new.room) b after c.args.kind (decimal b.count) (next_name b name) value value _ is refl
    (c.push_item_head.ensures.pushed value len-is))

pub returns-then-not-is_name-clause-pushed : goal.returns-then-not-is_name-clause-pushed
returns-then-not-is_name-clause-pushed c = λ value len-is.
    no_name (sym c.is_array.ensures ∙ c.if-is_array.false) (c.is_name.ensures.no c.if-not-is_name.true) c.refused.ensures (ap (λ (w : Built). filled w c.args.self.now value c.args.room.now) c.refused.ensures) refl

pub returns-clause-pushed : goal.returns-clause-pushed
returns-clause-pushed c = λ value len-is.
    let b = c.args.self.now in let name = c.args.name.now in let w = c.push_head.result in let after = c.push_head.new.self in
    let plain : false ≡ in_array b = sym c.if-is_array.false ∙ c.is_array.ensures in
    let is : name ≡ next_name b name = ap (λ (x : Bool). name_at x b.count name) plain in
    is_pushed (subst IsName is (c.is_name.ensures.yes c.if-not-is_name.false)) (pushed_as c.args.room.now (filled w after value c.push_head.new.room) b after c.args.kind name (next_name b name) value value _ is refl
    (c.push_head.ensures.pushed value len-is))
