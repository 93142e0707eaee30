-- The log of what a handler was asked and what it answered.
use Rattle.std.specs.Prelude.{◌≡◌, ℕ, ◌+◌, ◌<◌, ◌≤◌, max, List, [], ◌∷◌, ◌++◌, length, map, Option}
use Rattle.std.specs.Prelude.{Some, None, Result, Ok, Err}
use Rattle.wire_msg.specs.{Content}
use Rattle.wire_peer.specs.declared.handlers.HandlerStop.{HandlerStop}
use Rattle.wire_peer.specs.declared.log.Entry.{Entry}
use Rattle.wire_peer.specs.declared.log.Outcome.{Outcome}
use Rattle.wire_peer.specs.declared.log.Outcome.TheVariants.{Answered, Failed}
use Rattle.wire_peer.specs.declared.log.AskRefusal.{AskRefusal}
use Rattle.wire_peer.specs.declared.log.AskRefusal.TheVariants.{NotAsked, Stopped}
use Rattle.wire_peer.specs.AnswerLists.{answers_of}
use Rattle.wire_peer.specs.Contents.{buf_content}
use Rattle.wire_peer.specs.Requests.{Asked, IsCount}

-- an entry as its reader sees it: the answers, or none where the handler stopped
pub record LogEntry : Type 0 where
  pub connection : ℕ
  pub payload : Content
  pub answers : Option (List Content)

abbrev pub outcome_of : Outcome → Option (List Content)
outcome_of (Answered a) = Some (answers_of a)
outcome_of Failed = None

abbrev pub entry_of : Entry → LogEntry
entry_of e =
    record
    { connection = e.connection; payload = buf_content e.payload; answers = outcome_of e.outcome }

-- the entries of a log
abbrev pub log_of : List Entry → List LogEntry
log_of entries = map entry_of entries

-- the entry of a request that came over a connection
abbrev pub entered : ℕ → Asked → Option (List Content) → LogEntry
entered connection a answers =
    record { connection = connection; payload = a.payload; answers = answers }

-- The room of a log with so many entries, before and after one more was put: it stays where there
-- is some, and is at most doubled where there is none, for four at least.
pub record IsGrown (count old new : ℕ) : Type 0 where
  pub stays : count < old → new ≡ old
  pub doubles : old ≤ count → new ≤ count + max count 4

-- ---- runs

-- how a handler may answer, and how it may stop: from a state, at a request, and into a state
abbrev pub Does : Type 0 → Type 1
Does H = H → Asked → List Content → H → Type 0

abbrev pub Stops : Type 0 → Type 1
Stops H = H → Asked → HandlerStop → H → Type 0

-- from a state into a state the request got these answers, or the handler stopped
abbrev pub LogStep : {H : Type 0} → Does H → Stops H → H → Asked → Option (List Content) → H
    → Type 0
LogStep does stops h a (Some answers) h' = does h a answers h' × IsCount a (length answers)
LogStep does stops h a None h' = (stop : HandlerStop) × stops h a stop h'

-- From a state into a state these requests were asked, one after another, and these are their
-- entries.
abbrev pub RunOf : {H : Type 0} → Does H → Stops H → H → List Asked → List LogEntry → H → Type 0
RunOf does stops h [] [] h' = h ≡ h'
RunOf {H} does stops h (a ∷ others) (e ∷ es) h' =
    (mid : H) × (e.payload ≡ a.payload) × LogStep does stops h a e.answers mid
    × RunOf does stops mid others es h'
RunOf does stops h [] (e ∷ es) h' = ⊥
RunOf does stops h (a ∷ others) [] h' = ⊥

-- The handler was asked a request, from a state into a state: it gave answers, or stopped.
abbrev pub OutcomeStep : {H : Type 0} → Does H → Stops H → Asked → Option (List Content)
    → Result (Unit {0}) AskRefusal → H → H → Type 0
OutcomeStep does stops a (Some answers) (Ok _) h h' =
    does h a answers h' × IsCount a (length answers)
OutcomeStep does stops a None (Err (Stopped stop)) h h' = stops h a stop h'
OutcomeStep does stops a _ _ h h' = ⊥

-- A request that came over a connection was asked with this result, from a state and a log into a
-- state and a log.
abbrev pub AskStep : {H : Type 0} → Does H → Stops H → ℕ → Asked → Result (Unit {0}) AskRefusal → H
    → List LogEntry → H → List LogEntry → Type 0
AskStep does stops connection a (Ok _) h log h' log' =
    (answers : List Content) × does h a answers h' × IsCount a (length answers)
    × (log' ≡ log ++ entered connection a (Some answers) ∷ [])
AskStep does stops connection a (Err (Stopped stop)) h log h' log' =
    stops h a stop h' × (log' ≡ log ++ entered connection a None ∷ [])
AskStep does stops connection a (Err NotAsked) h log h' log' = (h' ≡ h) × (log' ≡ log)

-- the last entry has answers
abbrev pub IsLastAnswered : List LogEntry → Type 0
IsLastAnswered log =
    (before : List LogEntry) × (e : LogEntry) × (answers : List Content) × (log ≡ before ++ e ∷ [])
    × (e.answers ≡ Some answers)
