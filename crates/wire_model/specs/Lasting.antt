-- What stays true of the machine, whatever steps it takes, and of a world, whatever happens in it.
use Rattle.std.specs.Prelude.{◌≡◌, ℕ, ◌<◌, ◌≤◌, List, ◌++◌, Some, length, slice_get}
use Rattle.wire_msg.specs.{Content}
use Rattle.wire_peer.specs.{Does, LogEntry, Stops}
use Rattle.wire_model.specs.declared.events.Event.{Event}
use Rattle.wire_model.specs.declared.limits.WorldLimits.{WorldLimits}
use Rattle.wire_model.specs.Conns.{Record, World, opening}
use Rattle.wire_model.specs.Happening.{Run}
use Rattle.wire_model.specs.Machines.{Call, CallIs, Done, EntryOf, Machine, Pending, Steps, empty}
use Rattle.wire_model.specs.Shown.{Headline, Shows, raws}

-- A call keeps its connection, what it asks, and its parts, to which more may come. One that is
-- done, sent or lost stays as it is.
pub record IsKept (old new : Record) : Type 0 where
  pub connection : new.connection ≡ old.connection
  pub asked : new.asked ≡ old.asked
  pub parts : (more : List Content) × (new.parts ≡ old.parts ++ more)
  pub settled : (old.state ≡ Pending → ⊥) → new ≡ old

-- each call is still at its index, with its connection, what it asks and its parts
abbrev pub CallsAreKept : (old new : List Record) → Type 0
CallsAreKept old new =
    (i : ℕ) (x : Record) → slice_get old i ≡ Some x
    → (y : Record) × (slice_get new i ≡ Some y) × IsKept x y

-- the old log is the beginning of the new one
abbrev pub LogGrows : (old new : List LogEntry) → Type 0
LogGrows old new = (more : List LogEntry) × (new ≡ old ++ more)

-- a call that was done before another was made has the earlier entry
abbrev pub DoneIsEarlier : {H : Type 0} → (old new : Machine H) → Type 0
DoneIsEarlier old new =
    (i j e e' : ℕ) (x y z : Call) → CallIs old.calls i x → x.state ≡ Done → CallIs new.calls i y
    → EntryOf y e
    → length old.calls ≤ j → CallIs new.calls j z → EntryOf z e' → e < e'

-- The new world shows a state of the machine that steps reach from a state that the old world
-- shows. Calls are kept, the log only grows, and a call that was done before another was made has
-- the earlier entry.
pub record GoesOn {H : Type 0} (does : Does H) (stops : Stops H) (first : H) (old new : World H) :
    Type 0 where
  pub m : Machine H
  pub reached : Steps H does stops (empty first (raws new)) m
  pub shows : Shows old m
  pub later : Headline does stops first new
  pub steps : Steps H does stops m later.m
  pub calls : CallsAreKept old.calls new.calls
  pub log : LogGrows old.log new.log
  pub order : DoneIsEarlier m later.m

-- However the events are cut in two, the first part led to a world that goes on to this one
-- (`GoesOn`).
abbrev pub GoesOnFromEach : {H : Type 0} → Does H → Stops H → WorldLimits → (first : H) → List Event
    → World H → Type 0
GoesOnFromEach {H} does stops l first events w =
    (before after : List Event) → events ≡ before ++ after
    → (mid : World H) × Run does stops l (opening l first) before mid × Run does stops l mid after w
    × GoesOn does stops first mid w
