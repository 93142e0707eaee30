use Rattle.std.proofs.Common.{◌≡◌, ap, take, ◌∙◌}
use Rattle.std.specs.Int.{w32, from_le_bytes}
use Rattle.wire_msg.specs.{number_at}
use Rattle.wire_stream.proofs.Readings.{header_room, message_room}
use Rattle.wire_stream.proofs.reader.MsgReader.room.Goals as goal

pub returns-in-Some-clause-room : goal.returns-in-Some-clause-room
returns-in-Some-clause-room c =
    let n : c.little_u32.result ≡ number_at c.in-Some.message.items 0 = c.little_u32.ensures ∙ ap (λ x. from_le_bytes w32 (take 4 x)) c.deref.ensures.value in
    rw (← c.self.view_is) (message_room _ _ _ _ _ _ c.self.invariant.kept c.in-Some.is n)

pub returns-in-None-clause-room : goal.returns-in-None-clause-room
returns-in-None-clause-room c = rw (← c.self.view_is) (header_room _ _ _ _ c.self.invariant.kept c.self.invariant.whole c.in-None.is)
