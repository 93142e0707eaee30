use Rattle.std.proofs.Common.{refl, ap, ◌∙◌, arith}
use Rattle.byte_views.specs.Appends.{done, no_room}
use Rattle.byte_views.specs.Nesting.{cannot_end, is_ended, is_too_short}
use Rattle.byte_views.proofs.build.nest.end_inner.Goals as goal

pub returns-in-None : goal.returns-in-None
returns-in-None c = cannot_end c.in-None.ensures c.refused.ensures refl refl

pub returns-then-wanted-room : goal.returns-then-wanted-room
returns-then-wanted-room c =
    let can = c.in-Some.ensures in is_too_short can.0 (omega (arith, c.if-wanted-room.true, can.1)) (c.no_room.ensures ∙ ap no_room can.1) refl refl

pub returns : goal.returns
returns c =
    let can = c.in-Some.ensures in is_ended can.0 (omega (arith, c.if-wanted-room.false, can.1)) c.close.ensures refl (c.done.ensures ∙ ap done can.1)
