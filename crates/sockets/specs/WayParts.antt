-- A way by its parts.
use Rattle.std.specs.Prelude.{◌≡◌, ◌≤◌, ℕ, ◌-◌, List, drop, length, take}
use Rattle.sockets.specs.declared.way.Stage.{Stage}
use Rattle.sockets.specs.declared.way.Stage.TheVariants.{Ended}
use Rattle.sockets.specs.RelayActs.{WayView}

-- The bytes from the start to the end are held.
abbrev pub view_of : List ℕ → (start end : ℕ) → Stage → WayView
view_of piece start end stage =
    record { held = take (end - start) (drop start piece); stage = stage }

-- The parts belong together.
pub record AreParts (piece : List ℕ) (start end : ℕ) (stage : Stage) : Type 0 where
  pub in_order : start ≤ end
  pub within : end ≤ length piece
  pub whole : length piece ≡ 65536
  pub all_sent : stage ≡ Ended → start ≡ end
