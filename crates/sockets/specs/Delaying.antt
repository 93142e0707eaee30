-- The connections of which a message is held.
use Rattle.std.specs.Prelude.{◌≡◌, ◌⊎◌, ◌==◌, ◌-◌, ◌*◌, ◌+◌, ℕ, Bool, List, Option, None, Some}
use Rattle.std.specs.Prelude.{false, true, [], ◌∷◌, ◌++◌, MatchOption, min, position, remove}
use Rattle.std.specs.Prelude.{slice_get}
use Rattle.std.specs.Time.{FitsClock, instant_nanos}
use Rattle.std.specs.declared.time.Instant.{Instant}
use Rattle.sockets.specs.declared.delays.Delay.{Delay}

-- the index of the first connection that has this key
abbrev pub index_of : ℕ → List Delay → Option ℕ
index_of key ds = position (λ d. d.key == key) ds

-- the connections without the one at the index, if there is one
abbrev pub without : Option ℕ → List Delay → List Delay
without None ds = ds
without (Some i) ds = remove ds i

-- The connection has this key, and its message is let go so many milliseconds behind some moment of
-- the clock, or never where that is past the clock's end.
pub record IsHeldFor (key millis : ℕ) (d : Delay) : Type 0 where
  pub has_key : d.key ≡ key
  pub now : Instant
  pub read : FitsClock (instant_nanos now)
  pub due : MatchOption d.due (FitsClock (instant_nanos now + millis * 1000000) → ⊥)
      (λ t. instant_nanos t ≡ instant_nanos now + millis * 1000000)

-- a message of this connection is held for so many milliseconds from now on
abbrev pub Holds : (key millis : ℕ) → (old new : List Delay) → Type 0
Holds key millis old new = (d : Delay) × IsHeldFor key millis d × (new ≡ old ++ d ∷ [])

-- a message that is let go at this moment, if there is one, is let go by now
abbrev pub is_due : Option Instant → (now : Instant) → Bool
is_due None now = false
is_due (Some due) now = (instant_nanos due - instant_nanos now) == 0

-- One connection was taken out, which has this key, and whose message is let go by some moment of
-- the clock.
pub record IsTaken (key : ℕ) (old new : List Delay) : Type 0 where
  pub i : ℕ
  pub taken : Delay
  pub at : slice_get old i ≡ Some taken
  pub has_key : taken.key ≡ key
  pub now : Instant
  pub due : is_due taken.due now ≡ true
  pub others : new ≡ remove old i

-- in how many nanoseconds a message is let go from this moment on, if it is
abbrev pub nanos_left : Option Instant → (now : Instant) → Option ℕ
nanos_left None now = None
nanos_left (Some due) now = Some (instant_nanos due - instant_nanos now)

-- the smaller one of two numbers, or the one that there is
abbrev pub sooner : Option ℕ → Option ℕ → Option ℕ
sooner None b = b
sooner (Some a) None = Some a
sooner (Some a) (Some b) = Some (min a b)

-- in how many nanoseconds the first message is let go from this moment on, if one is
abbrev pub first_left : List Delay → (now : Instant) → Option ℕ
first_left [] now = None
first_left (d ∷ ds) now = sooner (nanos_left d.due now) (first_left ds now)

-- No message is held, or the first one is let go in so many nanoseconds from a moment of the clock
-- on, or none ever.
abbrev pub IsLeast : (left : Option ℕ) → List Delay → Type 0
IsLeast left ds = ((ds ≡ []) × (left ≡ None)) ⊎ ((now : Instant) × (left ≡ first_left ds now))
