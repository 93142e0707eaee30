-- What is done with a pair of connections by what its turn came to.
use Rattle.std.specs.Prelude.{◌≡◌, ℕ, List, None}
use Rattle.slab.specs.Slab.{Slab, Updates}
use Rattle.wire_stream.specs.{Rose}
use Rattle.sockets.specs.declared.delays.Delay.{Delay}
use Rattle.sockets.specs.{Holds, index_of, with_key}
use Rattle.sockets.specs.Delaying.{without}
use Rattle.proxy.specs.declared.outcome.Outcome.{Outcome}
use Rattle.proxy.specs.declared.outcome.Outcome.TheVariants as outcomes

-- the connections of which a message is held, without the one of this key
abbrev pub delays_without : (key : ℕ) → List Delay → List Delay
delays_without key ds = without (index_of key ds) ds

-- The pair of this key takes another turn; or waits for an event; or its request is held for some
-- time from now on, and it takes another turn; or it is closed, counted, and forgotten.
abbrev pub IsSettled : {P : Type 0} → (key : ℕ) → Outcome → (pairs pairs' : Slab P)
    → (delays delays' : List Delay) → (again again' : List ℕ) → (ended ended' : ℕ) → Type 0
IsSettled key outcomes.Again pairs pairs' delays delays' again again' ended ended' =
    (again' ≡ with_key key again) × (pairs' ≡ pairs) × (delays' ≡ delays) × (ended' ≡ ended)
IsSettled key outcomes.Waits pairs pairs' delays delays' again again' ended ended' =
    (again' ≡ again) × (pairs' ≡ pairs) × (delays' ≡ delays) × (ended' ≡ ended)
IsSettled key (outcomes.Held millis) pairs pairs' delays delays' again again' ended ended' =
    Holds key millis delays delays' × (again' ≡ with_key key again) × (pairs' ≡ pairs)
    × (ended' ≡ ended)
IsSettled key (outcomes.Over ending) pairs pairs' delays delays' again again' ended ended' =
    Updates pairs pairs' key None × (delays' ≡ delays_without key delays) × (again' ≡ again)
    × Rose ended ended'
