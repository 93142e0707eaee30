use Rattle.std.proofs.Common.{refl, ap, ◌∙◌, arith}
use Rattle.byte_views.specs.Appends.{no_room}
use Rattle.byte_views.specs.Nesting.{cannot_finish, is_finished, no_place}
use Rattle.byte_views.proofs.build.nest.finish_document.Goals as goal

pub returns-in-None : goal.returns-in-None
returns-in-None c = cannot_finish c.in-None.ensures c.refused.ensures refl

pub returns-then-wanted-room : goal.returns-then-wanted-room
returns-then-wanted-room c =
    let can = c.in-Some.ensures in no_place can.0 (omega (arith, c.if-wanted-room.true, can.1)) (c.no_room.ensures ∙ ap no_room can.1) refl

pub returns : goal.returns
returns c =
    let can = c.in-Some.ensures in is_finished can.0 (omega (arith, c.if-wanted-room.false, can.1)) c.close.ensures c.done.ensures
