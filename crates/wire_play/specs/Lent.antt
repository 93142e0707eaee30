-- What the result of reading a line shows.
use Rattle.std.specs.Prelude.{◌≡◌, ℕ, List}
use Rattle.std.specs.Borrow.{Bor}
use Rattle.wire_model.specs.declared.events.Event.{Event}
use Rattle.wire_model.specs.declared.events.Event.TheVariants as events
use Rattle.wire_msg.specs.{BufCarries, Carries, Content}
use Rattle.wire_msg.specs.declared.payloads.Payload.{Payload}
use Rattle.wire_play.specs.declared.named.Line.{Line}
use Rattle.wire_play.specs.declared.named.Line.TheVariants as lines
use Rattle.wire_play.specs.declared.named.ScriptEvent.{ScriptEvent}
use Rattle.wire_play.specs.declared.named.ScriptEvent.TheVariants.{Bare, Call, Raw}
use Rattle.wire_play.specs.Naming.{Names, event, setup}

-- the event borrows from the one that owns its bytes: it is the same event, with the same payload
-- or bytes
abbrev pub Lends : ScriptEvent → Event → Type 0
Lends (Bare e) lent = lent ≡ e
Lends (Call c kind owned) lent =
    (payload : Payload) × (lent ≡ events.Call c kind payload)
    × ((content : Content) → BufCarries owned content → Carries payload content)
Lends (Raw c owned) lent =
    (bytes : Bor (List ℕ)) × (lent ≡ events.Raw c bytes) × (bytes.now ≡ owned.items)

-- the line names the world or the event that was read
abbrev pub IsLine : List ℕ → Line → Type 0
IsLine line (lines.World s) = Names line (setup s)
IsLine line (lines.Event owned) = (e : Event) → Lends owned e → Names line (event e)
