-- What comes of the acts of a relay.
use Rattle.std.specs.Prelude.{◌≡◌, Option, List, ◌++◌, ℕ}
use Rattle.std.specs.Io.KnownBytes.{Appends}
use Rattle.sockets.specs.declared.way.Stage.TheVariants.{Ended}
use Rattle.sockets.specs.RelayActs.{WayView}

-- From what the one link had received and the other had sent, these bytes came and these went: what
-- went is a beginning of what came, the rest is held, and nothing is where the way is over.
pub record HasPassed (came went : List ℕ) (received received' sent sent' : Option (List ℕ))
    (w : WayView) : Type 0 where
  pub comes : Appends received received' came
  pub goes : Appends sent sent' went
  pub order : came ≡ went ++ w.held
  pub all : w.stage ≡ Ended → came ≡ went
