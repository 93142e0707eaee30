-- What was served of a downstream, from what was done with it.
use Rattle.std.specs.Prelude.{◌≡◌, ◌⊎◌, ℕ, List, [], ◌∷◌, ◌++◌, Some, None}
use Rattle.wire_msg.specs.{Content, Message}
use Rattle.wire_peer.specs.{LogEntry, asked_by, entered}
use Rattle.wire_serve.specs.{IsServed}
use Rattle.wire_share.specs.Acts.{Answers, DownAct, Moves, PassesOn, Sends, Takes}
use Rattle.wire_share.specs.Sharing.{DownSeen}

-- the bytes that an act takes, those that it sends, and the entries that it makes
abbrev pub taken_by : DownAct → List ℕ
taken_by (Moves (Takes bytes)) = bytes
taken_by act = []

abbrev pub sent_by : DownAct → List ℕ
sent_by (Moves (Sends bytes)) = bytes
sent_by act = []

abbrev pub made_by : DownAct → List LogEntry
made_by (Moves move) = []
made_by (PassesOn m call made) = made
made_by (Answers m call answer made) = made

-- the same of acts, in order
abbrev pub of_acts : {X : Type 0} → (DownAct → List X) → List DownAct → List X
of_acts by [] = []
of_acts by (act ∷ acts) = by act ++ of_acts by acts

-- the one entry is that of this request with this answer; or with none, where memory ran out for it
abbrev pub IsEntryWith : (connection : ℕ) → Message → Content → List LogEntry → Type 0
IsEntryWith connection m answer made =
    (made ≡ entered connection (asked_by m) (Some (answer ∷ [])) ∷ [])
    ⊎ (made ≡ entered connection (asked_by m) None ∷ [])

-- Each act makes the entry of its request alone, with the answer that it gives. Where a request
-- that wants no reply is passed on, that is its own payload.
abbrev pub MakesOwn : (connection : ℕ) → DownAct → Type 0
MakesOwn connection (Moves move) = Unit {0}
MakesOwn connection (PassesOn m call made) =
    (made ≡ []) ⊎ IsEntryWith connection m m.content made
MakesOwn connection (Answers m call answer made) = IsEntryWith connection m answer made

abbrev pub EachMakesOwn : (connection : ℕ) → List DownAct → Type 0
EachMakesOwn connection [] = Unit {0}
EachMakesOwn connection (act ∷ acts) = MakesOwn connection act × EachMakesOwn connection acts

-- The connection was served with what was taken and sent, as `IsServed` says by the entries that
-- were made, and these have the answers that were given. A request that wants no reply is given no
-- answer, and its entry has its own payload in the place of one.
pub record IsAnswered (connection : ℕ) (acts : List DownAct) (d : DownSeen) : Type 0 where
  pub served : IsServed connection (of_acts taken_by acts) (of_acts made_by acts)
      (of_acts sent_by acts) d.conn
  pub own : EachMakesOwn connection acts
