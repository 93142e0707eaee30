-- A connection that is served in turns, and what is done with it.
use Rattle.std.specs.Prelude.{◌≡◌, ◌≢◌, ℕ, ◌≤◌, ◌<◌, ◌⊎◌, Option, List, [], ◌∷◌, ◌++◌, length}
use Rattle.std.specs.Prelude.{Result, Ok, Err}
use Rattle.std.specs.Io.KnownBytes.{Appends}
use Rattle.wire_stream.specs.{Rose}
use Rattle.wire_peer.specs.{Does, LogEntry, Stops, log_of}
use Rattle.wire_peer.specs.declared.log.Logged.{Logged}
use Rattle.wire_peer.specs.declared.server_state.AnswerRefusal.{AnswerRefusal}
use Rattle.wire_peer.specs.declared.server_state.AnswerRefusal.TheVariants as refusals
use Rattle.wire_serve.specs.ServerConnections.{ConnAnswers, ConnTakes, ConnView, IsReady}
use Rattle.wire_serve.specs.ServerConnections.{ended_conn}
use Rattle.wire_serve.specs.ServerConnections.{new_conn, state_of}
use Rattle.wire_serve.specs.declared.cause.ConnState.TheVariants as conn_states
use Rattle.wire_serve.specs.declared.turned.Leave.TheVariants as leaves
use Rattle.wire_serve.specs.declared.turned.Turned.{Turned}
use Rattle.wire_serve.specs.declared.turned.Turned.TheVariants as turns

-- The server connection, the link, and the bytes that came over it and that the server connection
-- hasn't taken yet.
pub record SlotSeen (L : Type 0) : Type 0 where
  pub conn : ConnView
  pub link : L
  pub inlet : List ℕ

-- the slot of a connection at which nothing was done
abbrev pub new_slot : {L : Type 0} → ℕ → L → SlotSeen L
new_slot connection link = record { conn = new_conn connection; link = link; inlet = [] }

-- ---- links

-- what a link tells: the bytes that it received and sent, how often it told its end, how often it
-- could move no byte, and how often it failed
pub record Tells (L : Type 0) : Type 0 where
  pub received : L → Option (List ℕ)
  pub sent : L → Option (List ℕ)
  pub ends : L → ℕ
  pub waits : L → ℕ
  pub failures : L → ℕ

abbrev pub tells : {L : Type 0} → (received sent : L → Option (List ℕ))
    → (ends waits failures : L → ℕ) → Tells L
tells received sent ends waits failures = record {
  received = received;
  sent = sent;
  ends = ends;
  waits = waits;
  failures = failures;
}

-- These bytes came over the link, and these went.
pub record GoesOver {L : Type 0} (t : Tells L) (came went : List ℕ) (old new : L) : Type 0 where
  pub received : Appends (t.received old) (t.received new) came
  pub sent : Appends (t.sent old) (t.sent new) went

-- ---- acts

-- An act at a slot: bytes come over the link, the server connection takes some, answers its first
-- request, which makes entries, has bytes sent, or is told the end of the link; or the link can
-- move no byte, or it fails; or it is said what becomes of the bytes that are sent from now on.
pub data SlotAct : Type 0 where
  Receives : (bytes : List ℕ) → SlotAct
  Takes : (bytes : List ℕ) → SlotAct
  Answers : (result : Result ℕ AnswerRefusal) → (made : List LogEntry) → SlotAct
  Sends : (bytes : List ℕ) → SlotAct
  Ends : SlotAct
  Waits : SlotAct
  Fails : SlotAct
  SetsGate : SlotAct

-- bytes came over the link, where the server connection takes some and none were left
pub record IsReceived {L : Type 0} (t : Tells L) (bytes : List ℕ) (old new : SlotSeen L) : Type 0
  where
    pub ready : IsReady old.conn
    pub none_left : old.inlet ≡ []
    pub some : bytes ≢ []
    pub over : GoesOver t bytes [] old.link new.link
    pub conn : new.conn ≡ old.conn
    pub inlet : new.inlet ≡ bytes

-- the server connection took the first of the bytes that came
pub record IsTaken {L : Type 0} (bytes : List ℕ) (old new : SlotSeen L) : Type 0 where
  pub ready : IsReady old.conn
  pub some : bytes ≢ []
  pub first : old.inlet ≡ bytes ++ new.inlet
  pub takes : ConnTakes old.conn bytes new.conn
  pub link : new.link ≡ old.link

-- the first of the bytes that were to be sent were sent over the link
pub record IsSent {L : Type 0} (t : Tells L) (bytes : List ℕ) (old new : SlotSeen L) : Type 0 where
  pub some : bytes ≢ []
  pub rest : List ℕ
  pub first : old.conn.output ≡ bytes ++ rest
  pub over : GoesOver t [] bytes old.link new.link
  pub conn : new.conn ≡ record (old.conn) { output = rest }
  pub inlet : new.inlet ≡ old.inlet

-- the link told its end, where the server connection takes bytes and none were left, and the server
-- connection was told
pub record IsEnded {L : Type 0} (t : Tells L) (old new : SlotSeen L) : Type 0 where
  pub ready : IsReady old.conn
  pub none_left : old.inlet ≡ []
  pub told : Rose (t.ends old.link) (t.ends new.link)
  pub over : GoesOver t [] [] old.link new.link
  pub conn : new.conn ≡ ended_conn old.conn
  pub inlet : new.inlet ≡ []

-- nothing was done at the server connection, and no byte was moved
pub record IsIdle {L : Type 0} (t : Tells L) (old new : SlotSeen L) : Type 0 where
  pub over : GoesOver t [] [] old.link new.link
  pub conn : new.conn ≡ old.conn
  pub inlet : new.inlet ≡ old.inlet

-- the server connection answered its first request, when all that it had put out was sent
pub record IsAnswered {H L : Type 0} (does : Does H) (stops : Stops H)
    (result : Result ℕ AnswerRefusal) (made : List LogEntry) (old : SlotSeen L) (from : Logged H)
    (new : SlotSeen L) (to : Logged H) : Type 0 where
  pub all_sent : old.conn.output ≡ []
  pub answers : ConnAnswers does stops result old.conn from.handler (log_of from.entries.items)
      new.conn to.handler (log_of to.entries.items)
  pub logged : log_of to.entries.items ≡ log_of from.entries.items ++ made
  pub link : new.link ≡ old.link
  pub inlet : new.inlet ≡ old.inlet

-- the act was done at the slot, and nothing was asked
abbrev pub SlotMoves : {L : Type 0} → Tells L → SlotAct → SlotSeen L → SlotSeen L → Type 0
SlotMoves t (Receives bytes) old new = IsReceived t bytes old new
SlotMoves t (Takes bytes) old new = IsTaken bytes old new
SlotMoves t (Answers result made) old new = ⊥
SlotMoves t (Sends bytes) old new = IsSent t bytes old new
SlotMoves t Ends old new = IsEnded t old new
SlotMoves t Waits old new = IsIdle t old new × Rose (t.waits old.link) (t.waits new.link)
SlotMoves t Fails old new = IsIdle t old new × Rose (t.failures old.link) (t.failures new.link)
SlotMoves t SetsGate old new = IsIdle t old new

-- The act was done at the slot, with a handler and its log. Only an answer changes these.
abbrev pub SlotDoes : {H L : Type 0} → Does H → Stops H → Tells L → SlotAct → SlotSeen L → Logged H
    → SlotSeen L → Logged H → Type 0
SlotDoes does stops t (Answers result made) old from new to =
    IsAnswered does stops result made old from new to
SlotDoes does stops t act old from new to = SlotMoves t act old new × (to ≡ from)

-- These acts were done at the slot, one after another, with a handler and its log.
abbrev pub SlotRun : {H L : Type 0} → Does H → Stops H → Tells L → SlotSeen L → Logged H
    → List SlotAct → SlotSeen L → Logged H → Type 0
SlotRun does stops t old from [] new to = (new ≡ old) × (to ≡ from)
SlotRun {H} {L} does stops t old from (act ∷ acts) new to =
    (mid : SlotSeen L) × (then : Logged H) × SlotDoes does stops t act old from mid then
    × SlotRun does stops t mid then acts new to

-- Turns at the slot, one after another. Between them others had turns with the handler and its log.
abbrev pub SlotTurns : {H L : Type 0} → Does H → Stops H → Tells L → SlotSeen L
    → List (List SlotAct) → SlotSeen L → Type 0
SlotTurns does stops t old [] new = new ≡ old
SlotTurns {H} {L} does stops t old (acts ∷ others) new =
    (mid : SlotSeen L) × (from to : Logged H) × SlotRun does stops t old from acts mid to
    × SlotTurns does stops t mid others new

-- ---- what a turn came to

-- Something was done in the act: bytes were moved, the end was told, or a request got its answers
-- or closed the server connection.
abbrev pub Proceeds : SlotAct → Type 0
Proceeds (Receives bytes) = Unit {0}
Proceeds (Takes bytes) = Unit {0}
Proceeds (Answers (Ok entry) made) = Unit {0}
Proceeds (Answers (Err (refusals.NowClosed cause)) made) = Unit {0}
Proceeds (Sends bytes) = Unit {0}
Proceeds Ends = Unit {0}
Proceeds act = ⊥

abbrev pub AllProceed : List SlotAct → Type 0
AllProceed [] = Unit {0}
AllProceed (act ∷ acts) = Proceeds act × AllProceed acts

-- the server connection is open, or closed for this cause
abbrev pub StandsAs : Turned → ConnView → Type 0
StandsAs turns.Again f = state_of f ≡ conn_states.Open
StandsAs (turns.Over (leaves.Closed cause)) f = state_of f ≡ conn_states.Closed cause
StandsAs turned f = ⊥

-- A step that asks nothing came to this: something was done; or the link can move no byte now, or
-- it failed; or something was done, and the server connection closed, for this cause; or nothing
-- was done, since memory ran out for taking some of the bytes that came.
abbrev pub MovesAs : {L : Type 0} → Tells L → Turned → SlotSeen L → SlotSeen L → Type 0
MovesAs t turns.Again old new = (act : SlotAct) × SlotMoves t act old new × Proceeds act
MovesAs t turns.Waits old new = SlotMoves t Waits old new
MovesAs t (turns.Over (leaves.Link fault)) old new = SlotMoves t Fails old new
MovesAs t (turns.Over (leaves.Closed cause)) old new =
    (act : SlotAct) × SlotMoves t act old new × Proceeds act
    × (state_of new.conn ≡ conn_states.Closed cause)
MovesAs t (turns.Over leaves.OutOfMemory) old new =
    IsReady old.conn × (old.inlet ≢ []) × (new ≡ old)

-- A turn of at most so many steps came to this, by its acts and the slot after them: something was
-- done in each of all steps; or the link can move no byte now, or it failed, behind acts in which
-- something was done; or the server connection closed, for this cause; or, behind acts in which
-- something was done, memory ran out: in a step without an act, for taking some of the bytes that
-- came, or in the last act, for an answer.
abbrev pub TurnedAs : {L : Type 0} → Turned → ℕ → List SlotAct → SlotSeen L → Type 0
TurnedAs turns.Again steps acts s = (length acts ≡ steps) × AllProceed acts
TurnedAs turns.Waits steps acts s =
    (before : List SlotAct) × (acts ≡ before ++ Waits ∷ []) × AllProceed before
TurnedAs (turns.Over (leaves.Link fault)) steps acts s =
    (before : List SlotAct) × (acts ≡ before ++ Fails ∷ []) × AllProceed before
TurnedAs (turns.Over (leaves.Closed cause)) steps acts s =
    (state_of s.conn ≡ conn_states.Closed cause) × AllProceed acts
TurnedAs (turns.Over leaves.OutOfMemory) steps acts s =
    (AllProceed acts × (length acts < steps) × IsReady s.conn × (s.inlet ≢ []))
    ⊎ ((before : List SlotAct) × (made : List LogEntry)
    × (acts ≡ before ++ Answers (Err refusals.OutOfMemory) made ∷ []) × AllProceed before)

-- Acts were done, at most so many, and it came to this.
pub record Turns {H L : Type 0} (does : Does H) (stops : Stops H) (t : Tells L) (steps : ℕ)
    (turned : Turned) (old : SlotSeen L) (from : Logged H) (new : SlotSeen L) (to : Logged H)
    : Type 0 where
  pub acts : List SlotAct
  pub run : SlotRun does stops t old from acts new to
  pub few : length acts ≤ steps
  pub comes_to : TurnedAs turned steps acts new
