-- What comes of turns, and which connections are to take another one.
use Rattle.std.specs.Prelude.{◌≡◌, ◌+◌, ◌||◌, if◌then◌else◌, ℕ, List, ◌++◌, Option, None}
use Rattle.std.specs.Prelude.{Some, IfSome}
use Rattle.mio.specs.Event.{is_error, is_read_closed}
use Rattle.mio.specs.declared.event.event.Event.{Event}
use Rattle.script_rules.specs.declared.action.Flow.{Flow}
use Rattle.script_rules.specs.declared.action.Flow.TheVariants as flows
use Rattle.wire_serve.specs.declared.turned.Turned.{Turned}
use Rattle.wire_serve.specs.declared.turned.Turned.TheVariants as turns

-- a number is the one behind the last, so that none comes twice
abbrev pub IsNext : (old new : Option ℕ) → Type 0
IsNext old new = IfSome new (λ n. (last : ℕ) × (old ≡ Some last) × (n ≡ last + 1))

-- The number for a turn that an event begins: that of the events that were told last; or none, so
-- that all is read, where the other side sends no more, or the connection failed.
abbrev pub turn_of : (told : Option ℕ) → Event → Option ℕ
turn_of told event = if is_read_closed event || is_error event then None else told

-- none of these keys is gone, and those that came are behind them
abbrev pub StayDue : (old new : List ℕ) → Type 0
StayDue old new = (more : List ℕ) × (new ≡ old ++ more)

-- what a turn came to, if the connection is over
abbrev pub if_over : Option Turned → Option Turned
if_over (Some (turns.Over leave)) = Some (turns.Over leave)
if_over turned = None

-- for how many milliseconds the reply is held that goes so, after a turn that came to this: that of
-- a connection that goes on, if it is to be held
abbrev pub held_for : Option Turned → Option Flow → Option ℕ
held_for (Some turns.Again) (Some (flows.Held millis)) = Some millis
held_for (Some turns.Waits) (Some (flows.Held millis)) = Some millis
held_for turned flow = None
