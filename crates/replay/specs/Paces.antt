-- When records are taken, and up to when is waited for what they have.
use Rattle.std.specs.Prelude.{◌+◌, ◌-◌, ◌*◌, ◌/◌, ℕ, Option, None, Some, max, min, nat_lt}
use Rattle.std.specs.Prelude.{if◌then◌else◌, unwrap_or}
use Rattle.replay.specs.declared.pace.Begun.{Begun}
use Rattle.replay.specs.declared.pace.Pace.{Pace}
use Rattle.replay.specs.declared.pace.Taken.{Taken}
use Rattle.replay.specs.declared.pace.Timing.{Timing}
use Rattle.replay.specs.declared.pace.Timing.TheVariants.{At, Now}

-- the sum, up to the most that a moment can be
abbrev pub plus : ℕ → ℕ → ℕ
plus m n = min (m + n) 18446744073709551615

-- a number of microseconds at a speed in percent, of which 0 counts as 1
abbrev pub scaled : ℕ → ℕ → ℕ
scaled micros speed = min (micros * 100 / max speed 1) 18446744073709551615

-- the earlier one of two moments, or the one that there is
abbrev pub least : Option ℕ → Option ℕ → Option ℕ
least None b = b
least (Some a) None = Some a
least (Some a) (Some b) = Some (min a b)

-- for how long is waited for what began at this time, or at that of the record before: as long as
-- the record took for it, and five seconds
abbrev pub patience_of : Taken → Option ℕ → ℕ
patience_of taken since = plus (taken.micros - unwrap_or since taken.last) 5000000

-- where the clock and the record stood at the first record, which may be this one
abbrev pub begun_of : ℕ → ℕ → Option Begun → Begun
begun_of now micros begun = unwrap_or begun (record { now = now; micros = micros })

-- The moment before which a record of this time isn't taken. With a speed it is as far behind the
-- first record as the record says, at that speed.
abbrev pub due_at : Begun → Option ℕ → ℕ → ℕ
due_at begun None micros = 0
due_at begun (Some speed) micros = plus begun.now (scaled (micros - begun.micros) speed)

-- what is done with a record of this time, before or at which this is the first one
abbrev pub taken_from : Begun → ℕ → ℕ → Pace → Timing × Pace
taken_from begun now micros p =
    if nat_lt now (due_at begun p.speed micros)
    then (At (due_at begun p.speed micros), record p { begun = Some begun })
    else (
      Now (record { now = now; micros = micros; last = unwrap_or p.last micros }),
      record p { begun = Some begun; last = Some micros },
    )

-- a record of this time is taken now, or not before its moment, and then its time isn't noted
abbrev pub taken_at : ℕ → ℕ → Pace → Timing × Pace
taken_at now micros p = taken_from (begun_of now micros p.begun) now micros p
