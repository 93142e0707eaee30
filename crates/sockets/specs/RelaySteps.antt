-- What a step on a way does.
use Rattle.std.specs.Prelude.{◌≡◌, ◌≢◌, ◌⊎◌, List, [], ◌++◌, ℕ, Option, Result, Ok, Err}
use Rattle.std.specs.Io.KnownBytes.{Appends}
use Rattle.sockets.specs.declared.turned.RelayFault.{RelayFault}
use Rattle.sockets.specs.declared.turned.RelayFault.TheVariants.{Receiving, Sending}
use Rattle.sockets.specs.declared.turned.Turned.{Turned}
use Rattle.sockets.specs.declared.turned.Turned.TheVariants as turns
use Rattle.sockets.specs.declared.way.Stage.TheVariants.{Ending, Ended}
use Rattle.sockets.specs.RelayActs.{Fails, HasFailed, IsCounted, MovesOver, Tells, Waits, WayAct}
use Rattle.sockets.specs.RelayActs.{WayMoves, WayView, came, done}

-- Some of what is held goes over the link, or it can move no byte now, or it fails.
abbrev pub Sends : {T : Type 0} → Tells T → Result Turned RelayFault → (old new : WayView)
    → (to to' : T) → Type 0
Sends t (Ok turns.Again) old new to to' =
    (bytes : List ℕ) × (bytes ≢ []) × (old.held ≡ bytes ++ new.held) × (new.stage ≡ old.stage)
    × MovesOver t [] bytes to to'
Sends t (Ok turns.Waits) old new to to' = (new ≡ old) × IsCounted t t.waits to to'
Sends t (Err (Sending fault)) old new to to' = (new ≡ old) × HasFailed t to to'
Sends t result old new to to' = ⊥

-- Bytes come over the link, are held and are seen, or it tells its end, or it can move no byte now,
-- or it fails.
abbrev pub Receives : {F : Type 0} → Tells F → Result Turned RelayFault → (old new : WayView)
    → (from from' : F) → (seen seen' : Option (List ℕ)) → Type 0
Receives f (Ok turns.Again) old new from from' seen seen' =
    ((new.held ≢ []) × (new ≡ record old { held = new.held }) × MovesOver f new.held [] from from'
    × Appends seen seen' new.held)
    ⊎ ((new ≡ record old { stage = Ending }) × IsCounted f f.ends from from' × (seen' ≡ seen))
Receives f (Ok turns.Waits) old new from from' seen seen' =
    (new ≡ old) × IsCounted f f.waits from from' × (seen' ≡ seen)
Receives f (Err (Receiving fault)) old new from from' seen seen' =
    (new ≡ old) × HasFailed f from from' × (seen' ≡ seen)
Receives f result old new from from' seen seen' = ⊥

-- The sending over the link is ended, or it fails.
abbrev pub Finishes : {T : Type 0} → Tells T → Result Turned RelayFault → (old new : WayView)
    → (to to' : T) → Type 0
Finishes t (Ok turns.Again) old new to to' =
    (new ≡ record old { stage = Ended }) × IsCounted t t.endings to to'
Finishes t (Err (Sending fault)) old new to to' = (new ≡ old) × HasFailed t to to'
Finishes t result old new to to' = ⊥

-- A step on a way: an act does something, and what came is seen; or a link can move no byte now, or
-- it fails; or the way is over, and nothing is done.
abbrev pub WaySteps : {F T : Type 0} → Tells F → Tells T → Result Turned RelayFault
    → (old new : WayView) → (from from' : F) → (to to' : T) → (seen seen' : Option (List ℕ))
    → Type 0
WaySteps f t (Ok turns.Again) old new from from' to to' seen seen' =
    (act : WayAct) × (done act ≡ 1) × WayMoves f t act old new from from' to to'
    × Appends seen seen' (came act)
WaySteps f t (Ok turns.Over) old new from from' to to' seen seen' =
    (old.stage ≡ Ended) × (new ≡ old) × (from' ≡ from) × (to' ≡ to) × (seen' ≡ seen)
WaySteps f t (Ok turns.Waits) old new from from' to to' seen seen' =
    WayMoves f t Waits old new from from' to to' × (seen' ≡ seen)
WaySteps f t (Err fault) old new from from' to to' seen seen' =
    WayMoves f t (Fails fault) old new from from' to to' × (seen' ≡ seen)

-- What two steps came to, one on each way: there may be more to do where there is on one of them.
abbrev pub taken_together : Turned → Turned → Turned
taken_together turns.Again other = turns.Again
taken_together turns.Waits turns.Again = turns.Again
taken_together turns.Waits other = turns.Waits
taken_together turns.Over other = other
