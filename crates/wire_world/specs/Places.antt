-- The index of an event's connection.
use Rattle.std.specs.Prelude.{◌≡◌, ℕ, ◌-◌, IfSome}
use Rattle.wire_model.specs.{connection_of}
use Rattle.wire_model.specs.declared.events.Event.{Event}

-- this is the index of the event's connection, if it has one: numbers count from 1, and indexes
-- from 0
abbrev pub IsPlace : Event → ℕ → Type 0
IsPlace e at = IfSome (connection_of e) (λ c. at ≡ c - 1)
