-- What an event does in a world.
use Rattle.std.specs.Prelude.{◌≡◌, ◌≢◌, ℕ, ◌+◌, ◌-◌, ◌<◌, ◌≤◌, ◌⊎◌, Bool, true, false}
use Rattle.std.specs.Prelude.{if◌then◌else◌, All, Option, None, Some, List, [], ◌∷◌, ◌++◌, length}
use Rattle.std.specs.Prelude.{take, Result, Ok, Err}
use Rattle.std.specs.Option.{ForSome}
use Rattle.std.specs.declared.alloc.Global.{Global}
use Rattle.std.specs.declared.vec.Vec.{Vec}
use Rattle.wire_msg.specs.{Content, IsContent}
use Rattle.wire_pool.specs.{PoolSeen, checked_in, checked_out, drawn}
use Rattle.wire_pool.specs.declared.pool_answers.CheckIn.TheVariants as ins
use Rattle.wire_pool.specs.declared.pool_answers.CheckOut.TheVariants as outs
use Rattle.wire_stream.specs.{CompletesHeader}
use Rattle.wire_peer.specs.{AnswerStep, ClientSeen, Does, LogEntry, MayTake, ServerView, Stops}
use Rattle.wire_peer.specs.{content_of}
use Rattle.wire_peer.specs.declared.calls.CallNo.{CallNo}
use Rattle.wire_peer.specs.declared.client_state.ClientState.TheVariants as clients
use Rattle.wire_peer.specs.declared.server_state.AnswerRefusal.{AnswerRefusal}
use Rattle.wire_peer.specs.declared.server_state.AnswerRefusal.TheVariants as answers
use Rattle.wire_peer.specs.declared.server_state.ServerCause.{ServerCause}
use Rattle.wire_peer.specs.declared.server_state.ServerState.{ServerState}
use Rattle.wire_peer.specs.declared.server_state.ServerState.TheVariants as servers
use Rattle.wire_model.specs.declared.events.Event.{Event}
use Rattle.wire_model.specs.declared.events.Event.TheVariants.{Open, Return, Call, Up, Down, Answer}
use Rattle.wire_model.specs.declared.events.Event.TheVariants.{CutUp, CutDown, Clear, Restart}
use Rattle.wire_model.specs.declared.events.Event.TheVariants.{RawOpen, Raw, RawTake}
use Rattle.wire_model.specs.declared.limits.WorldLimits.{WorldLimits}
use Rattle.wire_model.specs.declared.refusals.WorldRefusal.{WorldRefusal}
use Rattle.wire_model.specs.declared.refusals.WorldRefusal.TheVariants as refusals
use Rattle.wire_model.specs.declared.reports.Report.{Report}
use Rattle.wire_model.specs.declared.reports.Report.TheVariants as reports
use Rattle.wire_model.specs.Conns.{Conn, World, conn_at, new_conn, new_raw_conn, settled, with_conn}
use Rattle.wire_model.specs.Cuts.{cleared_world, cut_down, cut_up, dropped, is_healthy}
use Rattle.wire_model.specs.Cuts.{restarted_world}
use Rattle.wire_model.specs.Moves.{Calls, GivesRaw, MovesDown, MovesUp, TakesNone, TakesRaw}
use Rattle.wire_model.specs.Moves.{TakesUncopied, joined}
use Rattle.wire_model.specs.Needing.{connection_of}
use Rattle.wire_model.specs.Refusing.{RefusesCall, first_reason}

abbrev pub with_pool : {H : Type 0} → World H → PoolSeen → World H
with_pool w p = record w { pool = p }

-- the world with this pool, and one more connection, this one
abbrev pub opened : {H : Type 0} → World H → PoolSeen → Conn → World H
opened w p k = record w { pool = p; conns = w.conns ++ k ∷ [] }

-- ---- the pool

-- a connection is checked out of the pool: an idle one, or a new one
abbrev pub Opens : {H : Type 0} → WorldLimits → World H → (connection : ℕ) → (new : Bool) → World H
    → Type 0
Opens l old c false new =
    (p : PoolSeen) × (checked_out old.pool ≡ (outs.Use c, p)) × (new ≡ with_pool old p)
Opens l old c true new =
    (p : PoolSeen) × (checked_out old.pool ≡ (outs.Open c, p)) × (new ≡ opened old p (new_conn l c))

-- a lent connection that isn't raw is checked in, and kept or dropped
pub record Returns {H : Type 0} (old : World H) (c : ℕ) (kept : Bool) (new : World H) : Type 0 where
  pub k : Conn
  pub at : conn_at old.conns c ≡ Some k
  pub honest : k.raw ≡ false
  pub pool : PoolSeen
  pub checked : checked_in old.pool c (is_healthy k)
      ≡ (if kept then ins.Kept else ins.Dropped, pool)
  pub after : new ≡ (if kept then with_pool old pool else dropped (with_pool old pool) c)

-- ---- cuts

-- the way up of the connection is cut
pub record CutsUp {H : Type 0} (old : World H) (c : ℕ) (new : World H) : Type 0 where
  pub k : Conn
  pub at : conn_at old.conns c ≡ Some k
  pub uncut : k.up_cut ≡ false
  pub after : new ≡ with_conn old c (cut_up k)

-- the way down of a connection that isn't raw is cut, and the pending calls of its client are lost
pub record CutsDown {H : Type 0} (old : World H) (c : ℕ) (new : World H) : Type 0 where
  pub k : Conn
  pub at : conn_at old.conns c ≡ Some k
  pub honest : k.raw ≡ false
  pub uncut : k.down_cut ≡ false
  pub after : new ≡ settled (with_conn old c (cut_down k))

-- ---- answers

-- each answer is the content of a message
abbrev pub AreContents : List LogEntry → Type 0
AreContents log =
    All (λ (e : LogEntry). ForSome e.answers (All (λ (c : Content). ∥ IsContent c ∥₁))) log

-- the server of connection c answers its waiting request of index i, with this result
pub record Answers {H : Type 0} (does : Does H) (stops : Stops H) (old : World H) (c i : ℕ)
    (result : Result ℕ AnswerRefusal) (new : World H) : Type 0 where
  pub k : Conn
  pub at : conn_at old.conns c ≡ Some k
  pub server : ServerView
  pub handler : H
  pub log : List LogEntry
  pub step : AnswerStep does stops i result k.server old.handler old.log server handler log
  pub contents : AreContents log
  pub after : new
      ≡ record (with_conn old c (record k { server = server })) { log = log; handler = handler }

-- ---- how many bytes were moved

-- This many bytes were moved up: n, or fewer if there were no more or the server takes no more.
pub record AllUp {H : Type 0} {old new : World H} {c n : ℕ} (s : MovesUp old c n new) (moved : ℕ) :
    Type 0 where
  pub moved_are : moved ≡ length (joined s.pieces)
  pub fewer : moved < n → (s.rest ≡ []) ⊎ TakesNone s.server

-- This many bytes were moved down: n, or fewer if there were no more or the client is closed.
pub record AllDown {H : Type 0} {old new : World H} {c n : ℕ} (s : MovesDown old c n new)
    (moved : ℕ) : Type 0 where
  pub moved_are : moved ≡ length (joined s.pieces)
  pub fewer : moved < n → (s.rest ≡ []) ⊎ (s.client.state ≢ clients.Open)

-- why a server closed that was open before and is closed after
abbrev pub closed_now : ServerState → ServerState → Option ServerCause
closed_now servers.Open (servers.Closed cause) = Some cause
closed_now before after = None

-- This many bytes were fed to the server of a raw connection: all, or fewer if it takes no more.
-- This is why the server closed, if it did.
pub record AllTaken {H : Type 0} {old new : World H} {c : ℕ} {bytes : List ℕ}
    (s : TakesRaw old c bytes new) (moved : ℕ) (closed : Option ServerCause) : Type 0 where
  pub moved_are : moved ≡ length (joined s.pieces)
  pub fewer : (s.rest ≡ []) ⊎ TakesNone s.server
  pub closed_is : closed ≡ closed_now s.k.server.state s.server.state

-- ---- events

-- the event does what it is for, and this is its report
abbrev pub Succeeds : {H : Type 0} → Does H → Stops H → WorldLimits → World H → Event → Report
    → World H → Type 0
Succeeds does stops l old Open report new =
    (c : ℕ) × (made : Bool) × (report ≡ reports.Opened c made) × Opens l old c made new
Succeeds does stops l old (Return c) report new =
    (kept : Bool) × (report ≡ (if kept then reports.Kept else reports.Dropped))
    × Returns old c kept new
Succeeds does stops l old (Call c kind payload) report new =
    (no : CallNo) × (report ≡ reports.Called (length old.calls) no.id)
    × Calls old c kind (content_of payload) no new
Succeeds does stops l old (Up c n) report new =
    (s : MovesUp old c n new) × (moved : ℕ) × (report ≡ reports.Moved moved) × AllUp s moved
Succeeds {H} does stops l old (Down c n) report new =
    (mid : World H) × (s : MovesDown old c n mid) × (moved : ℕ) × (report ≡ reports.Moved moved)
    × AllDown s moved × (new ≡ settled mid)
Succeeds does stops l old (Answer c i) report new =
    ((e : ℕ) × (report ≡ reports.Entry e) × Answers does stops old c i (Ok e) new)
    ⊎
    ((cause : ServerCause) × (report ≡ reports.ClosedBy cause)
    × Answers does stops old c i (Err (answers.NowClosed cause)) new)
Succeeds does stops l old (CutUp c) report new = (report ≡ reports.Done) × CutsUp old c new
Succeeds does stops l old (CutDown c) report new = (report ≡ reports.Done) × CutsDown old c new
Succeeds does stops l old Clear report new = (report ≡ reports.Done) × (new ≡ cleared_world old)
Succeeds does stops l old Restart report new = (report ≡ reports.Done) × (new ≡ restarted_world old)
Succeeds does stops l old RawOpen report new =
    (c : ℕ) × (report ≡ reports.RawOpened c) × (old.pool.next ≡ Some c)
    × (new ≡ opened old (drawn old.pool) (new_raw_conn l c))
Succeeds does stops l old (Raw c bytes) report new =
    (s : TakesRaw old c bytes.now new) × (moved : ℕ) × (closed : Option ServerCause)
    × (report ≡ reports.RawMoved moved closed) × AllTaken s moved closed
Succeeds does stops l old (RawTake c n) report new =
    (s : GivesRaw old c n new) × (v : Vec ℕ Global) × (report ≡ reports.Bytes v)
    × (v.items ≡ s.bytes)

-- ---- out of memory

-- A server that may take bytes is given a piece that completes a good header, so it needs memory
-- for the message.
pub record WantsRoom (s : ServerView) (piece : List ℕ) : Type 0 where
  pub is_open : s.state ≡ servers.Open
  pub has_room : length s.waiting < s.window
  pub header : CompletesHeader s.limit s.held piece

-- A client that may take bytes is given a piece that completes a good header, so it needs memory
-- for the message.
pub record ClientWantsRoom (k : ClientSeen) (piece : List ℕ) : Type 0 where
  pub may : MayTake k
  pub header : CompletesHeader k.requests.limit k.held piece

-- at least one of the first n bytes of the output of the connection's server is there
pub record HasOutput {H : Type 0} (w : World H) (c n : ℕ) : Type 0 where
  pub k : Conn
  pub at : conn_at w.conns c ≡ Some k
  pub some : take n k.server.output ≢ []

-- What an event has done when memory runs out. Some of the bytes that it was to move were moved. A
-- reply that wasn't copied is part of no record.
abbrev pub PartDone : {H : Type 0} → WorldLimits → World H → Event → World H → Type 0
PartDone {H} l old (Call c kind payload) new = new ≡ old
PartDone {H} l old (Up c n) new =
    (s : MovesUp old c n new)
    × ((m : ℕ) × (m + length (joined s.pieces) ≤ n) × WantsRoom s.server (take m s.rest))
PartDone {H} l old (Down c n) new =
    ((s : MovesDown old c n new)
    × ((m : ℕ) × (m + length (joined s.pieces) ≤ n) × ClientWantsRoom s.client (take m s.rest)))
    ⊎
    ((mid : World H) × (s : MovesDown old c n mid)
    × TakesUncopied mid c (n - length (joined s.pieces)) new)
PartDone {H} l old (Answer c i) new = new ≡ old
PartDone {H} l old (Raw c bytes) new =
    (s : TakesRaw old c bytes.now new) × WantsRoom s.server s.rest
PartDone {H} l old (RawTake c n) new = (new ≡ old) × HasOutput old c n
PartDone {H} l old e new = ⊥

-- the event would make a connection; if memory runs out, it changes nothing
abbrev pub IsMaking : {H : Type 0} → World H → Event → Type 0
IsMaking old Open = (c : ℕ) × ((checked_out old.pool).0 ≡ outs.Open c)
IsMaking old RawOpen = Unit {0}
IsMaking old e = ⊥

-- memory runs out: part of the event is done, then its connection is cut both ways
pub record RunsOut {H : Type 0} (l : WorldLimits) (old : World H) (e : Event) (new : World H) :
    Type 0 where
  pub c : ℕ
  pub is : connection_of e ≡ Some c
  pub done : World H
  pub part : PartDone l old e done
  pub after : new ≡ dropped done c

-- The event is refused for the first check that it fails. If it fails none, the client may refuse
-- the call, or memory may run out. Nothing changes, unless memory ran out.
abbrev pub IsRefused : {H : Type 0} → WorldLimits → World H → Event → WorldRefusal → World H
    → Type 0
IsRefused l old e (refusals.Call refusal) new =
    (new ≡ old) × (first_reason old e ≡ None) × RefusesCall old e refusal
IsRefused l old e refusals.OutOfMemory new =
    (first_reason old e ≡ None) × (((new ≡ old) × IsMaking old e) ⊎ RunsOut l old e new)
IsRefused l old e refusal new = (new ≡ old) × (first_reason old e ≡ Some refusal)

-- The event has this result in the old world, and leaves the new one: it does what it is for
-- (`Succeeds`), or is refused (`IsRefused`).
abbrev pub Happens : {H : Type 0} → Does H → Stops H → WorldLimits → World H → Event
    → Result Report WorldRefusal → World H → Type 0
Happens does stops l old e (Ok report) new =
    (first_reason old e ≡ None) × Succeeds does stops l old e report new
Happens does stops l old e (Err refusal) new = IsRefused l old e refusal new

-- the events happen one after another, each with some result, and lead from the old world to the
-- new one
abbrev pub Run : {H : Type 0} → Does H → Stops H → WorldLimits → World H → List Event → World H
    → Type 0
Run does stops l old [] new = new ≡ old
Run {H} does stops l old (e ∷ es) new =
    (mid : World H) × ((r : Result Report WorldRefusal) × Happens does stops l old e r mid)
    × Run does stops l mid es new
