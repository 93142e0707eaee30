use Rattle.std.proofs.Common.{refl, sym, ◌∙◌}
use Rattle.byte_views.specs.Nesting.{deeper, four_zeros, is_open, is_shut, no_kind, out_of_range, too_deep}
use Rattle.byte_views.proofs.Building.{named_as}
use Rattle.byte_views.proofs.build.nest.open.Goals as goal

pub returns-then-not-is_in_range : goal.returns-then-not-is_in_range
returns-then-not-is_in_range c = out_of_range (c.is_in_range.ensures.no c.if-not-is_in_range.true) c.refused.ensures refl refl

pub returns-in-None : goal.returns-in-None
returns-in-None c = no_kind (c.is_in_range.ensures.yes c.if-not-is_in_range.false) (sym c.container.ensures ∙ c.in-None.is) c.refused-in-None.ensures refl refl

pub returns-then-outer-ge-MAX_DEPTH : goal.returns-then-outer-ge-MAX_DEPTH
returns-then-outer-ge-MAX_DEPTH c = too_deep c.in-Some.container (c.is_in_range.ensures.yes c.if-not-is_in_range.false) (sym c.container.ensures ∙ c.in-Some.is) c.if-outer-ge-MAX_DEPTH.true c.refused-then-outer-ge-MAX_DEPTH.ensures refl refl

pub returns-then-built-eq0 : goal.returns-then-built-eq0
returns-then-built-eq0 c =
    is_open c.in-Some.container c.push_named-built.new.self (c.is_in_range.ensures.yes c.if-not-is_in_range.false) c.if-outer-ge-MAX_DEPTH.false (sym c.container.ensures ∙ c.in-Some.is)
    (named_as c.args.room.now c.push_named-built.new.room (deeper c.args.outer.now) c.push_named-built.new.self c.in-Some.container c.args.name.now _ four_zeros _ refl c.push_named-built.ensures)
    c.if-built-eq0.true refl

pub returns-else-built-eq0 : goal.returns-else-built-eq0
returns-else-built-eq0 c =
    is_shut c.in-Some.container c.push_named-built.new.self (c.is_in_range.ensures.yes c.if-not-is_in_range.false) c.if-outer-ge-MAX_DEPTH.false (sym c.container.ensures ∙ c.in-Some.is)
    (named_as c.args.room.now c.push_named-built.new.room (deeper c.args.outer.now) c.push_named-built.new.self c.in-Some.container c.args.name.now _ four_zeros _ refl c.push_named-built.ensures)
    c.if-built-eq0.false refl
