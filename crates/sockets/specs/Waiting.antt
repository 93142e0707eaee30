-- How long events are waited for.
use Rattle.std.specs.Prelude.{◌≡◌, ℕ, Bool, false, true, Option, None, Some, min}
use Rattle.sockets.specs.declared.acceptor.Acceptor.{Acceptor}
use Rattle.sockets.specs.declared.standing.Standing.{Standing}
use Rattle.sockets.specs.declared.standing.Standing.TheVariants as stands

-- a connection may wait at the listener
abbrev pub IsReady : Acceptor → Type 0
IsReady a = a.standing ≡ stands.Ready

-- So many nanoseconds: none if a connection may wait or there is more to do, a pause of 50 ms where
-- accepting failed, and no more than `least`, if that is given.
abbrev pub wait_nanos : Standing → (has_more : Bool) → (least : Option ℕ) → Option ℕ
wait_nanos stands.Ready has_more least = Some 0
wait_nanos stands.Waits true least = Some 0
wait_nanos stands.Waits false least = least
wait_nanos stands.Pauses true least = Some 0
wait_nanos stands.Pauses false None = Some 50000000
wait_nanos stands.Pauses false (Some least) = Some (min least 50000000)
