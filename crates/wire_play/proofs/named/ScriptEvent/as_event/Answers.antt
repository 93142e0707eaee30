use Rattle.std.proofs.Common.{refl}
use Rattle.wire_play.proofs.named.ScriptEvent.as_event.Goals as goal

pub returns-in-Call : goal.returns-in-Call
returns-in-Call c = rw c.in-Call.is (c.as_payload.result, refl, c.as_payload.ensures)
