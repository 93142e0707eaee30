use Rattle.std.proofs.Common.{refl}
use Rattle.byte_views.specs.BuildFilling.{is_leaf, no_leaf}
use Rattle.byte_views.specs.Values.{value_bytes}
use Rattle.byte_views.proofs.Building.{named_as}
use Rattle.byte_views.proofs.build.builder.Builder.push_leaf.Goals as goal

pub returns-in-Some : goal.returns-in-Some
returns-in-Some c =
    is_leaf c.in-Some.ensures.0 (named_as c.args.room.now c.push_named.new.room c.args.self.now c.push_named.new.self c.args.kind c.args.name.now (value_bytes c.in-Some.value) _ _ c.in-Some.ensures.1 c.push_named.ensures)

pub returns-in-None : goal.returns-in-None
returns-in-None c = no_leaf c.in-None.ensures c.refused.ensures refl refl
