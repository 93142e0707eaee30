-- What is done between two links.
use Rattle.std.specs.Prelude.{◌≡◌, ◌≢◌, ◌≤◌, ◌⊎◌, ℕ, ◌+◌, Option, List, [], ◌∷◌, ◌++◌, Result}
use Rattle.std.specs.Prelude.{Ok, Err}
use Rattle.std.specs.Io.KnownBytes.{Appends}
use Rattle.wire_stream.specs.{Rose}
use Rattle.sockets.specs.declared.turned.RelayFault.{RelayFault}
use Rattle.sockets.specs.declared.turned.RelayFault.TheVariants.{Receiving, Sending}
use Rattle.sockets.specs.declared.turned.Turned.{Turned}
use Rattle.sockets.specs.declared.turned.Turned.TheVariants as turns
use Rattle.sockets.specs.declared.way.Stage.{Stage}
use Rattle.sockets.specs.declared.way.Stage.TheVariants.{Open, Ending, Ended}

-- what came over one link and wasn't sent over the other yet, and how far the way is
pub record WayView : Type 0 where
  pub held : List ℕ
  pub stage : Stage

-- a way on which nothing came
abbrev pub new_way : WayView
new_way = record { held = []; stage = Open }

-- ---- links

-- what a link tells: the bytes that it received and sent, how often it told its end, how often it
-- could move no byte, how often it failed, and how often its sending was ended
pub record Tells (L : Type 0) : Type 0 where
  pub received : L → Option (List ℕ)
  pub sent : L → Option (List ℕ)
  pub ends : L → ℕ
  pub waits : L → ℕ
  pub failures : L → ℕ
  pub endings : L → ℕ

abbrev pub tells : {L : Type 0} → (received sent : L → Option (List ℕ))
    → (ends waits failures endings : L → ℕ) → Tells L
tells received sent ends waits failures endings =
    record {
      received = received;
      sent = sent;
      ends = ends;
      waits = waits;
      failures = failures;
      endings = endings;
    }

-- these bytes came over the link, and these went, and it didn't fail
pub record GoesOver {L : Type 0} (t : Tells L) (came went : List ℕ) (old new : L) : Type 0 where
  pub received : Appends (t.received old) (t.received new) came
  pub sent : Appends (t.sent old) (t.sent new) went
  pub works : t.failures new ≡ t.failures old

-- these bytes came over the link, or went: it told no end, and each of its calls moved some
pub record MovesOver {L : Type 0} (t : Tells L) (came went : List ℕ) (old new : L) : Type 0 where
  pub received : Appends (t.received old) (t.received new) came
  pub sent : Appends (t.sent old) (t.sent new) went
  pub ends : t.ends new ≡ t.ends old
  pub waits : t.waits new ≡ t.waits old
  pub works : t.failures new ≡ t.failures old

-- no byte came over the link or went, and this count rose
abbrev pub IsCounted : {L : Type 0} → Tells L → (L → ℕ) → (old new : L) → Type 0
IsCounted t count old new = Rose (count old) (count new) × GoesOver t [] [] old new

-- the link failed, and no byte came over it or went
pub record HasFailed {L : Type 0} (t : Tells L) (old new : L) : Type 0 where
  pub received : Appends (t.received old) (t.received new) []
  pub sent : Appends (t.sent old) (t.sent new) []
  pub fails : Rose (t.failures old) (t.failures new)

-- ---- acts on one way

-- An act on a way: bytes come over the one link, where nothing is held, and are held; the first of
-- those that are held go over the other; the one link tells its end; the sending over the other is
-- ended, where all was sent; no byte can be moved now, over the other link where some are held, and
-- else over the one; or one of the links fails.
pub data WayAct : Type 0 where
  Comes : (bytes : List ℕ) → WayAct
  Goes : (bytes : List ℕ) → WayAct
  Ends : WayAct
  EndsSending : WayAct
  Waits : WayAct
  Fails : (fault : RelayFault) → WayAct

-- the bytes that came in an act on a way, and those that went
abbrev pub came : WayAct → List ℕ
came (Comes bytes) = bytes
came act = []

abbrev pub went : WayAct → List ℕ
went (Goes bytes) = bytes
went act = []

-- 0 for an act in which the link waits or fails, and 1 for one that did something
abbrev pub done : WayAct → ℕ
done Waits = 0
done (Fails fault) = 0
done act = 1

-- the fault of an act, if it failed
abbrev pub fault_of : WayAct → List RelayFault
fault_of (Fails fault) = fault ∷ []
fault_of act = []

-- The act was done on a way, from the one link to the other.
abbrev pub WayMoves : {F T : Type 0} → Tells F → Tells T → WayAct → (old new : WayView)
    → (from from' : F) → (to to' : T) → Type 0
WayMoves f t (Comes bytes) old new from from' to to' =
    (old.stage ≡ Open) × (old.held ≡ []) × (bytes ≢ []) × (new ≡ record old { held = bytes })
    × MovesOver f bytes [] from from' × (to' ≡ to)
WayMoves f t (Goes bytes) old new from from' to to' =
    (bytes ≢ []) × (old.held ≡ bytes ++ new.held) × (new.stage ≡ old.stage)
    × MovesOver t [] bytes to to' × (from' ≡ from)
WayMoves f t Ends old new from from' to to' =
    (old.stage ≡ Open) × (old.held ≡ []) × (new ≡ record old { stage = Ending })
    × IsCounted f f.ends from from' × (to' ≡ to)
WayMoves f t EndsSending old new from from' to to' =
    (old.stage ≡ Ending) × (old.held ≡ []) × (new ≡ record old { stage = Ended })
    × IsCounted t t.endings to to' × (from' ≡ from)
WayMoves f t Waits old new from from' to to' =
    (new ≡ old) × (((old.held ≡ []) × IsCounted f f.waits from from' × (to' ≡ to))
    ⊎ ((old.held ≢ []) × IsCounted t t.waits to to' × (from' ≡ from)))
WayMoves f t (Fails (Receiving fault)) old new from from' to to' =
    (new ≡ old) × HasFailed f from from' × (to' ≡ to)
WayMoves f t (Fails (Sending fault)) old new from from' to to' =
    (new ≡ old) × HasFailed t to to' × (from' ≡ from)

-- ---- acts of a relay

-- two links, and the ways from the near one to the far one and back
pub record RelayView (N F : Type 0) : Type 0 where
  pub near : N
  pub far : F
  pub there : WayView
  pub back : WayView

-- a relay of two links between which nothing was done
abbrev pub new_relay : {N F : Type 0} → N → F → RelayView N F
new_relay near far = record { near = near; far = far; there = new_way; back = new_way }

-- an act on the way to the far link, or on the way back
pub data RelayAct : Type 0 where
  There : (act : WayAct) → RelayAct
  Back : (act : WayAct) → RelayAct

-- The act was done, and on the other way nothing was.
abbrev pub RelayMoves : {N F : Type 0} → Tells N → Tells F → RelayAct → (old new : RelayView N F)
    → Type 0
RelayMoves n f (There act) old new =
    WayMoves n f act old.there new.there old.near new.near old.far new.far × (new.back ≡ old.back)
RelayMoves n f (Back act) old new =
    WayMoves f n act old.back new.back old.far new.far old.near new.near × (new.there ≡ old.there)

-- These acts were done, one after another.
abbrev pub RelayRun : {N F : Type 0} → Tells N → Tells F → RelayView N F → List RelayAct
    → RelayView N F → Type 0
RelayRun n f old [] new = new ≡ old
RelayRun {N} {F} n f old (act ∷ acts) new =
    (mid : RelayView N F) × RelayMoves n f act old mid × RelayRun n f mid acts new

-- the bytes that came over the near link in these acts, and those that went over the far one
abbrev pub there_came : List RelayAct → List ℕ
there_came [] = []
there_came (There act ∷ acts) = came act ++ there_came acts
there_came (Back act ∷ acts) = there_came acts

abbrev pub there_went : List RelayAct → List ℕ
there_went [] = []
there_went (There act ∷ acts) = went act ++ there_went acts
there_went (Back act ∷ acts) = there_went acts

-- the bytes that came over the far link in these acts, and those that went over the near one
abbrev pub back_came : List RelayAct → List ℕ
back_came [] = []
back_came (There act ∷ acts) = back_came acts
back_came (Back act ∷ acts) = came act ++ back_came acts

abbrev pub back_went : List RelayAct → List ℕ
back_went [] = []
back_went (There act ∷ acts) = back_went acts
back_went (Back act ∷ acts) = went act ++ back_went acts

-- how many of these acts are on the way to the far link, and how many on the way back
abbrev pub count_there : List RelayAct → ℕ
count_there [] = 0
count_there (There act ∷ acts) = 1 + count_there acts
count_there (Back act ∷ acts) = count_there acts

abbrev pub count_back : List RelayAct → ℕ
count_back [] = 0
count_back (There act ∷ acts) = count_back acts
count_back (Back act ∷ acts) = 1 + count_back acts

-- how many of these acts did something
abbrev pub all_done : List RelayAct → ℕ
all_done [] = 0
all_done (There act ∷ acts) = done act + all_done acts
all_done (Back act ∷ acts) = done act + all_done acts

-- the faults of these acts
abbrev pub faults : List RelayAct → List RelayFault
faults [] = []
faults (There act ∷ acts) = fault_of act ++ faults acts
faults (Back act ∷ acts) = fault_of act ++ faults acts

-- ---- what a turn came to

-- both ways are over
abbrev pub IsOver : {N F : Type 0} → RelayView N F → Type 0
IsOver r = (r.there.stage ≡ Ended) × (r.back.stage ≡ Ended)

-- In the last acts a link could move no byte, in one for each way that isn't over.
pub data IsWaiting {N F : Type 0} (acts : List RelayAct) (r : RelayView N F) : Type 0 where
  both : (before : List RelayAct) → acts ≡ before ++ There Waits ∷ Back Waits ∷ []
      → IsWaiting acts r
  there : (before : List RelayAct) → acts ≡ before ++ There Waits ∷ [] → r.back.stage ≡ Ended
      → IsWaiting acts r
  back : (before : List RelayAct) → acts ≡ before ++ Back Waits ∷ [] → r.there.stage ≡ Ended
      → IsWaiting acts r

-- as many acts as steps were done on a way, or it is over
abbrev pub IsServed : (steps count : ℕ) → WayView → Type 0
IsServed steps count way = (count ≡ steps) ⊎ (way.stage ≡ Ended)

-- A turn of at most so many steps came to this: both ways are over; or no byte can be moved now; or
-- all steps were taken on each way that isn't over, and as many acts did something, or more; or a
-- link failed in the last act.
abbrev pub TurnedAs : {N F : Type 0} → ℕ → Result Turned RelayFault → List RelayAct
    → RelayView N F → Type 0
TurnedAs steps (Ok turns.Over) acts r = IsOver r
TurnedAs steps (Ok turns.Waits) acts r = IsWaiting acts r
TurnedAs steps (Ok turns.Again) acts r =
    (steps ≤ all_done acts) × IsServed steps (count_there acts) r.there
    × IsServed steps (count_back acts) r.back
TurnedAs steps (Err fault) acts r =
    (before : List RelayAct) × ((acts ≡ before ++ There (Fails fault) ∷ [])
    ⊎ (acts ≡ before ++ Back (Fails fault) ∷ []))

-- the fault that a turn told
abbrev pub told : Result Turned RelayFault → List RelayFault
told (Ok turned) = []
told (Err fault) = fault ∷ []

-- Acts were done, at most so many on each way, and it came to this. No act failed but the one that
-- it tells. What came on each way was seen.
pub record Turns {N F : Type 0} (n : Tells N) (f : Tells F) (steps : ℕ)
    (result : Result Turned RelayFault) (old new : RelayView N F)
    (there there' back back' : Option (List ℕ)) : Type 0 where
  pub acts : List RelayAct
  pub run : RelayRun n f old acts new
  pub few_there : count_there acts ≤ steps
  pub few_back : count_back acts ≤ steps
  pub comes_to : TurnedAs steps result acts new
  pub failed : faults acts ≡ told result
  pub there_seen : Appends there there' (there_came acts)
  pub back_seen : Appends back back' (back_came acts)
