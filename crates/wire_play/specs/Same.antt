-- When two readings of a line are the same.
use Rattle.std.specs.Prelude.{◌≡◌, ℕ, List}
use Rattle.std.specs.Borrow.{Bor}
use Rattle.wire_model.specs.declared.events.Event.TheVariants.{Call, Raw}
use Rattle.wire_msg.specs.{Carries, Content}
use Rattle.wire_msg.specs.declared.payloads.Payload.{Payload}
use Rattle.wire_play.specs.Naming.{Named, event}

-- The two readings are the same. Payloads and bytes may be borrowed from different places, but have
-- the same content.
abbrev pub IsSame : Named → Named → Type 0
IsSame (event (Call c kind payload)) n =
    (other : Payload) × (n ≡ event (Call c kind other))
    × ((content : Content) → Carries payload content → Carries other content)
IsSame (event (Raw c bytes)) n =
    (other : Bor (List ℕ)) × (n ≡ event (Raw c other)) × (other.now ≡ bytes.now)
IsSame m n = n ≡ m
