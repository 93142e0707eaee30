-- How long a replay has run.
use Rattle.std.specs.Prelude.{◌≡◌, ◌-◌, ◌*◌, ◌/◌, ℕ, Bool, Option, None, Some, false, min, true}
use Rattle.std.specs.Time.{FitsClock, instant_nanos}
use Rattle.std.specs.declared.time.Instant.{Instant}

-- how many microseconds lie between two moments of the clock, up to the most that a moment can be
abbrev pub micros_between : Instant → Instant → ℕ
micros_between begun now =
    min ((instant_nanos now - instant_nanos begun) / 1000) 18446744073709551615

-- The clock was read: the microseconds lie between that moment and the beginning.
pub record IsRead (begun : Instant) (micros : ℕ) : Type 0 where
  pub now : Instant
  pub read : FitsClock (instant_nanos now)
  pub is : micros ≡ micros_between begun now

-- for how many nanoseconds events are waited for from this moment on: up to the other one, if there
-- is one, and not at all if more may be there
abbrev pub timeout_nanos : Bool → Option ℕ → ℕ → Option ℕ
timeout_nanos true due now = Some 0
timeout_nanos false None now = None
timeout_nanos false (Some due) now = Some ((due - now) * 1000)
