-- What a watch gives of the bytes that passed on one way of a connection.
use Rattle.std.specs.Prelude.{◌≡◌, ℕ, List, [], Bool, true, false}
use Rattle.wire_frames.specs.{IsWholeFrame, LacksFrame, WantsMore}

-- What is done with the front of the bytes that are held: nothing, if more are wanted; or a message
-- is given, and let go; or the bytes at fault are let go, and those behind them passed over.
pub data IsGiven (limit : ℕ) (held held' : List ℕ) (over over' given : Bool)
    (Recorded : List ℕ → Type 0) (Same : Type 0) : Type 0 where
  open_front : given ≡ false → (more : ℕ) → WantsMore limit held more → held' ≡ held
      → over' ≡ over → Same → IsGiven limit held held' over over' given Recorded Same
  whole_front : given ≡ true → (message rest : List ℕ) → IsWholeFrame limit held message rest
      → held' ≡ [] → over' ≡ over → Recorded message
      → IsGiven limit held held' over over' given Recorded Same
  bad_front : given ≡ true → LacksFrame limit held → held' ≡ [] → over' ≡ true → Same
      → IsGiven limit held held' over over' given Recorded Same
