use Rattle.std.proofs.Common.{refl}
use Rattle.wire_peer.proofs.Lemmas.{copied_content}
use Rattle.wire_world.proofs.RecordLaws.{contents_push}
use Rattle.wire_world.proofs.records.CallRecord.give.Goals as goal

pub returns-then-last-clause-given : goal.returns-then-last-clause-given
returns-then-last-clause-given c =
    rw (c.push_reserved.ensures.items, c.in_ok-make_room.ensures.items, contents_push c.args.self.now.parts.items c.in_ok-part.part, copied_content c.args.part c.in_ok-part.part c.in_ok-part.ensures, c.if-last.true) refl

pub returns-else-last-clause-given : goal.returns-else-last-clause-given
returns-else-last-clause-given c =
    rw (c.push_reserved.ensures.items, c.in_ok-make_room.ensures.items, contents_push c.args.self.now.parts.items c.in_ok-part.part, copied_content c.args.part c.in_ok-part.part c.in_ok-part.ensures, c.if-last.false) refl
