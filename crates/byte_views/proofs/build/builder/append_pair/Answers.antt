use Rattle.std.proofs.Common.{refl, sym, ◌∙◌}
use Rattle.byte_views.specs.Appends.{no_kind, out_of_range}
use Rattle.byte_views.proofs.Fillings.{appends_as}
use Rattle.byte_views.proofs.build.builder.append_pair.Goals as goal

pub returns-then-not-is_in_range : goal.returns-then-not-is_in_range
returns-then-not-is_in_range c = out_of_range (c.is_in_range.ensures.no c.if-not-is_in_range.true) c.refused.ensures refl refl

pub returns-in-None : goal.returns-in-None
returns-in-None c = no_kind (c.is_in_range.ensures.yes c.if-not-is_in_range.false) (sym c.kind_from.ensures ∙ c.in-None.is) c.refused-in-None.ensures refl refl

pub returns : goal.returns
returns c =
    appends_as c.args.room.now c.push_kind.new.room c.args.builder.now c.push_kind.new.self c.in-Some.kind c.args.name.now c.args.text.now c.args.rest.now c.args.numbers.now _ (c.is_in_range.ensures.yes c.if-not-is_in_range.false)
    (sym c.kind_from.ensures ∙ c.in-Some.is) c.push_kind.ensures
