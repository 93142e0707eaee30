-- What a raw connection took and gave, and that its entries answer its own messages.
use Rattle.std.specs.Prelude.{◌≡◌, ◌≢◌, ℕ, suc, Bool, true, false, if◌then◌else◌, ◌==◌, ◌⊎◌, Option}
use Rattle.std.specs.Prelude.{None, Some, List, [], ◌∷◌, ◌++◌, length, map, slice_get, take, Result}
use Rattle.std.specs.Prelude.{Ok, Err}
use mathlib.Core.Logic.{inr}
use Rattle.wire_msg.specs.{Content, Message, Split}
use Rattle.wire_peer.specs.{Does, LogEntry, Stops, asked_by, chain, id_after, written}
use Rattle.wire_peer.specs.declared.server_state.ServerState.{ServerState}
use Rattle.wire_model.specs.declared.events.Event.{Event}
use Rattle.wire_model.specs.declared.events.Event.TheVariants as events
use Rattle.wire_model.specs.declared.limits.WorldLimits.{WorldLimits}
use Rattle.wire_model.specs.declared.refusals.WorldRefusal.{WorldRefusal}
use Rattle.wire_model.specs.declared.refusals.WorldRefusal.TheVariants as refusals
use Rattle.wire_model.specs.declared.reports.Report.{Report}
use Rattle.wire_model.specs.Conns.{Conn, World, conn_at, opening}
use Rattle.wire_model.specs.Machines.{Call, EntryOf, Foreign, Machine}
use Rattle.wire_model.specs.Moves.{joined}
use Rattle.wire_model.specs.Shown.{IsStopped}
use Rattle.wire_model.specs.Happening.{Happens, Run}

-- ---- along a run

-- the bytes that the server of raw connection c took in this event
abbrev pub taken_in :
    {H : Type 0} (does : Does H) (stops : Stops H) (l : WorldLimits) (c : ℕ) (old new : World H)
    (e : Event) (r : Result Report WorldRefusal)
    → Happens does stops l old e r new → List ℕ
taken_in does stops l c old new (events.Raw d bytes) (Ok report) s =
    if d == c then joined s.1.0.pieces else []
taken_in does stops l c old new (events.Raw d bytes) (Err refusals.OutOfMemory) (_, inr s) =
    if d == c then joined s.part.0.pieces else []
taken_in does stops l c old new e r s = []

-- the bytes that were taken away from its output in this event
abbrev pub given_in :
    {H : Type 0} (does : Does H) (stops : Stops H) (l : WorldLimits) (c : ℕ) (old new : World H)
    (e : Event) (r : Result Report WorldRefusal)
    → Happens does stops l old e r new → List ℕ
given_in does stops l c old new (events.RawTake d n) (Ok report) s =
    if d == c then s.1.0.bytes else []
given_in does stops l c old new e r s = []

-- the bytes that the server of raw connection c took in a run
abbrev pub taken :
    {H : Type 0} (does : Does H) (stops : Stops H) (l : WorldLimits) (c : ℕ) (old new : World H)
    (es : List Event)
    → Run does stops l old es new → List ℕ
taken does stops l c old new [] run = []
taken does stops l c old new (e ∷ es) run =
    taken_in does stops l c old run.0 e run.1.0 run.1.1 ++ taken does stops l c run.0 new es run.2

-- the bytes that were taken away from its output in a run
abbrev pub given :
    {H : Type 0} (does : Does H) (stops : Stops H) (l : WorldLimits) (c : ℕ) (old new : World H)
    (es : List Event)
    → Run does stops l old es new → List ℕ
given does stops l c old new [] run = []
given does stops l c old new (e ∷ es) run =
    given_in does stops l c old run.0 e run.1.0 run.1.1 ++ given does stops l c run.0 new es run.2

-- ---- strangers

-- the calls and strangers of a connection, in the order in which they appeared
abbrev pub calls_of : ℕ → List Call → List Call
calls_of c [] = []
calls_of c (x ∷ xs) = if x.connection == c then x ∷ calls_of c xs else calls_of c xs

-- the strangers of a raw connection ask, one by one, what the messages ask
abbrev pub AreMessages : ℕ → List Message → List Call → Type 0
AreMessages c ms calls = map (λ (x : Call). x.asked) (calls_of c calls) ≡ map asked_by ms

-- ---- entries

-- An entry of a raw connection: the index of the message that it answers, the message, the answers,
-- and whether their replies were put out.
pub record RawEntry : Type 0 where
  pub index : ℕ
  pub message : Message
  pub answers : Option (List Content)
  pub gives : Bool

abbrev pub entry_by : ℕ → RawEntry → LogEntry
entry_by c t = record { connection = c; payload = t.message.content; answers = t.answers }

-- the entries of one connection
abbrev pub entries_of : ℕ → List LogEntry → List LogEntry
entries_of c [] = []
entries_of c (en ∷ log) = if en.connection == c then en ∷ entries_of c log else entries_of c log

abbrev pub all_of : Option (List Content) → List Content
all_of None = []
all_of (Some answers) = answers

-- the replies of these entries, in order, with ids from this one on
abbrev pub raw_replies : ℕ → List RawEntry → List Message
raw_replies id [] = []
raw_replies id (t ∷ ts) =
    if t.gives
    then chain id t.message.id (all_of t.answers) ++ raw_replies (id_after id (all_of t.answers)) ts
    else raw_replies id ts

-- An entry gives its replies if it has answers and its message wants a reply, unless it is the last
-- entry and an answer closed the server. The entry is the one of index i among this many.
abbrev pub GivesReplies : ServerState → ℕ → ℕ → RawEntry → Type 0
GivesReplies s many i t =
    ((t.gives ≡ true) × (t.message.flags.more_to_come ≡ false) × (t.answers ≢ None)
    × (suc i ≡ many → IsStopped s → ⊥))
    ⊎
    (((t.gives ≡ false) × (t.message.flags.more_to_come ≡ true))
    ⊎ ((t.gives ≡ false) × (suc i ≡ many) × IsStopped s))

-- The stranger of the entry's message names the entry in the log. The stranger has the index of the
-- message among the calls of connection c, and the entry has index i among the entries of
-- connection c.
pub record IsNamed (c : ℕ) (calls : List Call) (log : List LogEntry) (i : ℕ) (t : RawEntry) :
    Type 0 where
  pub stranger : Call
  pub at : slice_get (calls_of c calls) t.index ≡ Some stranger
  pub e : ℕ
  pub names : EntryOf stranger e
  pub entry : slice_get log e ≡ Some (entry_by c t)
  pub before : length (entries_of c (take e log)) ≡ i

-- What the server of raw connection c took splits into messages and a rest. Its entries, in log
-- order, answer some of these messages, each at most once, and the stranger of each such message
-- names its entry.
pub record AnswersOwn (limit c : ℕ) (taken : List ℕ) (calls : List Call) (log : List LogEntry) :
    Type 0 where
  pub messages : List Message
  pub rest : List ℕ
  pub split : Split limit taken messages rest
  pub strangers : AreMessages c messages calls
  pub foreign : (i : ℕ) (x : Call) → slice_get (calls_of c calls) i ≡ Some x → x.state ≡ Foreign
  pub raw_entries : List RawEntry
  pub entries : entries_of c log ≡ map (entry_by c) raw_entries
  pub are : (i : ℕ) (t : RawEntry) → slice_get raw_entries i ≡ Some t
      → slice_get messages t.index ≡ Some t.message
  pub named : (i : ℕ) (t : RawEntry) → slice_get raw_entries i ≡ Some t → IsNamed c calls log i t
  pub once : (i j : ℕ) (t u : RawEntry) → slice_get raw_entries i ≡ Some t
      → slice_get raw_entries j ≡ Some u → t.index ≡ u.index → i ≡ j

-- What the server gave is exactly the replies of its own entries, each to the message that its
-- entry answers, in log order and with ids from 1.
pub record GivesOwn (limit c : ℕ) (taken given : List ℕ) (state : ServerState) (calls : List Call)
    (log : List LogEntry) : Type 0 where
  pub own : AnswersOwn limit c taken calls log
  pub right : (i : ℕ) (t : RawEntry) → slice_get own.raw_entries i ≡ Some t
      → GivesReplies state (length own.raw_entries) i t
  pub given_is : given ≡ written (raw_replies 1 own.raw_entries)

-- ---- of all raw connections

-- each raw connection of the world has the property
abbrev pub OfEachRaw : {H : Type 0} → World H → (ℕ → Conn → Type 0) → Type 0
OfEachRaw w P = (c : ℕ) (k : Conn) → conn_at w.conns c ≡ Some k → k.raw ≡ true → P c k

-- in this run each raw connection has answered only messages of its own
abbrev pub RawAnswerOwn :
    {H : Type 0} (does : Does H) (stops : Stops H) (l : WorldLimits) (first : H) (es : List Event)
    (w : World H)
    → Run does stops l (opening l first) es w → Machine H → Type 0
RawAnswerOwn does stops l first es w run m =
    OfEachRaw w
    (λ c k. AnswersOwn l.limit c (taken does stops l c (opening l first) w es run) m.calls w.log)

-- In this run each raw connection has given only the replies of its own entries. What it gave is
-- what was taken away, followed by its server's output.
abbrev pub RawGiveOwn :
    {H : Type 0} (does : Does H) (stops : Stops H) (l : WorldLimits) (first : H) (es : List Event)
    (w : World H)
    → Run does stops l (opening l first) es w → Machine H → Type 0
RawGiveOwn does stops l first es w run m =
    OfEachRaw w (λ c k. GivesOwn l.limit c (taken does stops l c (opening l first) w es run)
    (given does stops l c (opening l first) w es run ++ k.server.output) k.server.state m.calls
    w.log)
