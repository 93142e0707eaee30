-- What each event needs of its connection.
use Rattle.std.specs.Prelude.{ℕ, true, false, Option, None, Some, option_map}
use Rattle.wire_model.specs.declared.events.Event.{Event}
use Rattle.wire_model.specs.declared.events.Event.TheVariants.{Open, Return, Call, Up, Down, Answer}
use Rattle.wire_model.specs.declared.events.Event.TheVariants.{CutUp, CutDown, Clear, Restart}
use Rattle.wire_model.specs.declared.events.Event.TheVariants.{RawOpen, Raw, RawTake}
use Rattle.wire_model.specs.declared.needs.Needs.{Needs}

-- the event needs only that the connection is there
abbrev pub no_needs : ℕ → Needs
no_needs c =
    record { connection = c; client = false; raw = false; loan = false; up = false; down = false }

-- What the event needs of its connection, if it has one: a client of ours, or that it is raw; that
-- it is lent; and which ways must not be cut.
abbrev pub needs_of : Event → Option Needs
needs_of Open = None
needs_of (Return c) = Some (record (no_needs c) { client = true; loan = true })
needs_of (Call c kind payload) =
    Some (record (no_needs c) { client = true; loan = true; up = true; down = true })
needs_of (Up c n) = Some (record (no_needs c) { client = true; up = true })
needs_of (Down c n) = Some (record (no_needs c) { client = true; down = true })
needs_of (Answer c i) = Some (no_needs c)
needs_of (CutUp c) = Some (record (no_needs c) { up = true })
needs_of (CutDown c) = Some (record (no_needs c) { client = true; down = true })
needs_of Clear = None
needs_of Restart = None
needs_of RawOpen = None
needs_of (Raw c bytes) = Some (record (no_needs c) { raw = true; up = true })
needs_of (RawTake c n) = Some (record (no_needs c) { raw = true; down = true })

-- the number of the event's connection, if it has one
abbrev pub connection_of : Event → Option ℕ
connection_of e = option_map (λ (n : Needs). n.connection) (needs_of e)
