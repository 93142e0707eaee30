-- What is done with the two ends of a proxy, act by act.
use Rattle.std.specs.Prelude.{◌≡◌, ◌⊎◌, ℕ, ◌==◌, if◌then◌else◌, true, List, [], ◌∷◌, Option, Some}
use Rattle.std.specs.Prelude.{None, ◌++◌, Bool, false}
use Rattle.wire_msg.specs.{Content, Message}
use Rattle.wire_msg.specs.declared.payloads.Payload.{Payload}
use Rattle.wire_peer.specs.{LogEntry, WaitsAt, content_of}
use Rattle.wire_peer.specs.declared.echoing.Echo.{Echo}
use Rattle.wire_peer.specs.declared.call_table.ReadyReply.{ReadyReply}
use Rattle.wire_peer.specs.declared.calls.CallNo.{CallNo}
use Rattle.wire_serve.specs.{ConnTakes, IsReady, ended_conn}
use Rattle.wire_model.specs.{ClientAct}
use Rattle.wire_model.specs.Owners as owners
use Rattle.wire_share.specs.declared.awaited.Awaited.{Awaited}
use Rattle.wire_share.specs.Sharing.{DownSeen, IsGiven, Leaves, Waits, echoes, kind_by}

-- ---- at one downstream

-- Bytes are moved at a downstream: it takes some, some that were to be sent are, it is told the end
-- of those that come, or nothing is done.
pub data DownMove : Type 0 where
  Takes : (bytes : List ℕ) → DownMove
  Sends : (bytes : List ℕ) → DownMove
  Ends : DownMove
  Stays : DownMove

-- An act at a downstream: bytes are moved; its request is passed on as a call; or its request gets
-- the answer to that call. A request that is answered makes an entry, and so does one that wants no
-- reply, when it is passed on.
pub data DownAct : Type 0 where
  Moves : (move : DownMove) → DownAct
  PassesOn : (m : Message) → (call : Awaited) → (made : List LogEntry) → DownAct
  Answers : (m : Message) → (call : Awaited) → (answer : Content) → (made : List LogEntry)
      → DownAct

-- the bytes were moved
abbrev pub DownMoves : DownMove → DownSeen → DownSeen → Type 0
DownMoves (Takes bytes) old new =
    IsReady old.conn × ConnTakes old.conn bytes new.conn × (new.awaited ≡ old.awaited)
DownMoves (Sends bytes) old new =
    (rest : List ℕ) × (old.conn.output ≡ bytes ++ rest)
    × (new ≡ record old { conn = record (old.conn) { output = rest } })
DownMoves Ends old new = new ≡ record old { conn = ended_conn old.conn }
DownMoves Stays old new = new ≡ old

-- What became of a request that was made a call, as `GoesOn`, with the entries that it made; or
-- memory ran out for the entry of one that wants no reply, which waits on.
abbrev pub GoesWith : (more_to_come : Bool) → Awaited → List LogEntry → DownSeen → DownSeen
    → Type 0
GoesWith false call made old new = (new ≡ record old { awaited = Some call }) × (made ≡ [])
GoesWith true call made old new =
    (((h : Echo) × (leaves : Leaves echoes h old.conn new.conn) × (leaves.log ≡ made))
    × (new.awaited ≡ None))
    ⊎ ((new ≡ record old { awaited = Some call }) × (made ≡ []))

-- the act was done
abbrev pub DownDoes : DownAct → DownSeen → DownSeen → Type 0
DownDoes (Moves move) old new = DownMoves move old new
DownDoes (PassesOn m call made) old new =
    Waits old m × GoesWith m.flags.more_to_come call made old new
DownDoes (Answers m call answer made) old new =
    (old.awaited ≡ Some call) × WaitsAt old.conn.server 0 m
    × ((given : IsGiven answer old.conn new.conn) × (given.leaves.log ≡ made))
    × (new.awaited ≡ None)

-- these acts were done, one after another
abbrev pub DownRun : DownSeen → List DownAct → DownSeen → Type 0
DownRun old [] new = new ≡ old
DownRun old (act ∷ acts) new = (mid : DownSeen) × DownDoes act old mid × DownRun mid acts new

-- ---- at many

-- An act at a downstream d and an upstream u: bytes are moved at one of them; the request m of d,
-- whose payload this is, is passed on as a call of u; the reply that u has ready, which is this
-- message, is what the request m of d is answered with; or that reply is let go of.
pub data ShareAct : Type 0 where
  MovesDown : (d : ℕ) → (move : DownMove) → ShareAct
  SendsUp : (u : ℕ) → (bytes : List ℕ) → ShareAct
  TakesUp : (u : ℕ) → (bytes : List ℕ) → ShareAct
  EndsUp : (u : ℕ) → ShareAct
  Passes : (d u : ℕ) → (m : Message) → (payload : Payload) → (call : CallNo)
      → (made : List LogEntry) → ShareAct
  Gives : (d u : ℕ) → (m : Message) → (reply : ReadyReply) → (answer : Message)
      → (made : List LogEntry) → ShareAct
  LetsGo : (u : ℕ) → (reply : ReadyReply) → (answer : Message) → ShareAct

-- the payload is that of the request
abbrev pub IsFit : ShareAct → Type 0
IsFit (MovesDown d move) = Unit {0}
IsFit (SendsUp u bytes) = Unit {0}
IsFit (TakesUp u bytes) = Unit {0}
IsFit (EndsUp u) = Unit {0}
IsFit (Passes d u m payload call made) = content_of payload ≡ m.content
IsFit (Gives d u m reply answer made) = Unit {0}
IsFit (LetsGo u reply answer) = Unit {0}

-- each act is fit
abbrev pub AreFit : List ShareAct → Type 0
AreFit [] = Unit {0}
AreFit (act ∷ acts) = IsFit act × AreFit acts

-- what an act is at a downstream, if it is one there
abbrev pub act_at : ShareAct → ℕ → Option DownAct
act_at (MovesDown d move) e = if d == e then Some (Moves move) else None
act_at (SendsUp u bytes) e = None
act_at (TakesUp u bytes) e = None
act_at (EndsUp u) e = None
act_at (Passes d u m payload call made) e =
    if d == e then Some (PassesOn m (record { upstream = u; call = call.number }) made) else None
act_at (Gives d u m reply answer made) e =
    if d == e
    then Some (Answers m (record { upstream = u; call = reply.call }) answer.content made)
    else None
act_at (LetsGo u reply answer) e = None

-- what an act is to the client of an upstream, if it is one of that
abbrev pub act_of : ShareAct → ℕ → Option ClientAct
act_of (MovesDown d move) v = None
act_of (SendsUp u bytes) v = if u == v then Some (owners.SendsUp bytes) else None
act_of (TakesUp u bytes) v = if u == v then Some (owners.TakesDown bytes) else None
act_of (EndsUp u) v = if u == v then Some owners.EndsDown else None
act_of (Passes d u m payload call made) v =
    if u == v then Some (owners.Calls (kind_by m.flags.more_to_come) payload call) else None
act_of (Gives d u m reply answer made) v =
    if u == v then Some (owners.Collects reply answer) else None
act_of (LetsGo u reply answer) v =
    if u == v then Some (owners.Collects reply answer) else None

-- the act, if it is one, in front of the others
abbrev pub with_act : {A : Type 0} → Option A → List A → List A
with_act None acts = acts
with_act (Some act) acts = act ∷ acts

-- the acts at a downstream, in order, and those of an upstream's client
abbrev pub acts_at : List ShareAct → ℕ → List DownAct
acts_at [] d = []
acts_at (act ∷ acts) d = with_act (act_at act d) (acts_at acts d)

abbrev pub acts_of : List ShareAct → ℕ → List ClientAct
acts_of [] u = []
acts_of (act ∷ acts) u = with_act (act_of act u) (acts_of acts u)
