-- What serving one connection does.
use Rattle.std.specs.Prelude.{◌≡◌, ◌≢◌, ℕ, ◌<◌, ◌≤◌, ◌⊎◌, List, [], ◌∷◌, ◌++◌, length, Option, Some}
use Rattle.std.specs.Prelude.{None, true, false}
use Rattle.std.specs.Io.KnownBytes.{Appends}
use Rattle.wire_msg.specs.{AreSpelled, Content, IsBad, IsOpen, Message, Split}
use Rattle.wire_peer.specs.{Asked, Does, LogEntry, LogStep, RunOf, Stops, asked_by, is_longer}
use Rattle.wire_peer.specs.{log_of, new_server, next_id, replies, written}
use Rattle.wire_peer.specs.declared.handlers.HandlerStop.TheVariants as stop
use Rattle.wire_peer.specs.declared.log.Logged.{Logged}
use Rattle.wire_stream.specs.{AddsTurns, Rose, Turn}
use Rattle.wire_end.specs.NextRequests.{HasGoodHeader}
use Rattle.wire_end.specs.ServerEnds.{ServerEndSeen, new_server_end}
use Rattle.wire_end.specs.declared.serving.ServeEnd.{ServeEnd}
use Rattle.wire_end.specs.declared.serving.ServeEnd.TheVariants.{Ended, EndedInside, Fault, Link}
use Rattle.wire_end.specs.declared.serving.ServeEnd.TheVariants.{Later, Budget, ReplyTooLarge}
use Rattle.wire_end.specs.declared.serving.ServeEnd.TheVariants.{OutOfMemory, HandlerFailed}

-- nothing was done at the end, and a request may wait
abbrev pub IsUnused : {L : Type 0} → ServerEndSeen L → Type 0
IsUnused e =
    (1 ≤ e.server.window)
    × (e ≡ new_server_end (new_server e.server.connection e.server.window e.server.limit) e.link)

-- ---- what is sent

abbrev pub requests_of : List Message → List Asked
requests_of [] = []
requests_of (m ∷ ms) = asked_by m ∷ requests_of ms

-- the replies to a message, by its entry, with ids from one on, and the reply id that is next after
-- them
abbrev pub replies_to : ℕ → Message → Option (List Content) → List Message
replies_to id m (Some answers) = replies id m.id (asked_by m) answers
replies_to id m None = []

abbrev pub id_behind : ℕ → Message → Option (List Content) → ℕ
id_behind id m (Some answers) = next_id id (asked_by m) answers
id_behind id m None = id

-- all that is sent for these messages, by their entries, and the reply id that is next then
abbrev pub serve_out : ℕ → List Message → List LogEntry → List ℕ
serve_out id (m ∷ ms) (e ∷ es) =
    written (replies_to id m e.answers) ++ serve_out (id_behind id m e.answers) ms es
serve_out id [] es = []
serve_out id (m ∷ ms) [] = []

abbrev pub last_id : ℕ → List Message → List LogEntry → ℕ
last_id id (m ∷ ms) (e ∷ es) = last_id (id_behind id m e.answers) ms es
last_id id [] es = id
last_id id (m ∷ ms) [] = id

-- ---- entries

-- all of them are of this connection
abbrev pub AreOf : ℕ → List LogEntry → Type 0
AreOf connection [] = Unit {0}
AreOf connection (e ∷ es) = (e.connection ≡ connection) × AreOf connection es

-- the handler stopped at none of them
abbrev pub AreAnswered : List LogEntry → Type 0
AreAnswered [] = Unit {0}
AreAnswered (e ∷ es) = (e.answers ≢ None) × AreAnswered es

-- ---- the table of ends

-- what is seen of a log and a link at one moment
pub record Seen (H : Type 0) : Type 0 where
  pub handler : H
  pub log : List LogEntry
  pub received : Option (List ℕ)
  pub sent : Option (List ℕ)
  pub turns : Option (List Turn)
  pub failures : ℕ
  pub ends : ℕ
  pub waits : ℕ

-- what is seen of these, by what a link's kind tells of its links
abbrev pub seen : {H L : Type 0} → (received sent : L → Option (List ℕ))
    → (turns : L → Option (List Turn)) → (failures ends waits : L → ℕ) → Logged H → L → Seen H
seen received sent turns failures ends waits logged link = record {
  handler = logged.handler;
  log = log_of logged.entries.items;
  received = received link;
  sent = sent link;
  turns = turns link;
  failures = failures link;
  ends = ends link;
  waits = waits link;
}

-- all these messages were answered, and all their replies were sent
pub record AllSent (ms : List Message) (made : List LogEntry) (gave : List ℕ) : Type 0 where
  pub sent : gave ≡ serve_out 1 ms made
  pub answered : AreAnswered made

-- At a call of `recv` the messages in what had been received were the first of these, theirs are
-- the first of these entries, and all their replies had been sent.
pub record IsInTurn (limit : ℕ) (came went : Option (List ℕ)) (ms : List Message)
    (made : List LogEntry) (t : Turn) : Type 0 where
  pub got : List ℕ
  pub gave : List ℕ
  pub early : List Message
  pub late : List Message
  pub past : List LogEntry
  pub after : List LogEntry
  pub rest : List ℕ
  pub received : Appends came t.received got
  pub sent : Appends went t.sent gave
  pub messages : ms ≡ early ++ late
  pub entries : made ≡ past ++ after
  pub split : Split limit got early rest
  pub all : AllSent early past gave

-- each of them was
abbrev pub AreInTurn : ℕ → (came went : Option (List ℕ)) → List Message → List LogEntry → List Turn
    → Type 0
AreInTurn limit came went ms made [] = Unit {0}
AreInTurn limit came went ms made (t ∷ ts) =
    IsInTurn limit came went ms made t × AreInTurn limit came went ms made ts

-- The last of these messages and its entry. Those before it were answered, all their replies were
-- sent, and then this part of the last one's.
pub record LastSent {H : Type 0} (does : Does H) (stops : Stops H) (from to : H) (ms : List Message)
    (made : List LogEntry) (gave part : List ℕ) : Type 0 where
  pub early : List Message
  pub message : Message
  pub past : List LogEntry
  pub entry : LogEntry
  pub mid : H
  pub messages : ms ≡ early ++ message ∷ []
  pub entries : made ≡ past ++ entry ∷ []
  pub run : RunOf does stops from (requests_of early) past mid
  pub step : LogStep does stops mid (asked_by message) entry.answers to
  pub sent : gave ≡ serve_out 1 early past ++ part
  pub answered : AreAnswered past

-- the replies to the last message
abbrev pub last_replies :
    {H : Type 0} {does : Does H} {stops : Stops H} {from to : H} {ms : List Message}
    {made : List LogEntry} {gave part : List ℕ}
    → LastSent does stops from to ms made gave part → List Message
last_replies l = replies_to (last_id 1 l.early l.past) l.message l.entry.answers

-- From a state into a state the handler stopped at a request because memory ran out, or it answered
-- and memory ran out for these replies, none of which is longer than the limit.
abbrev pub WantedMemory : {H : Type 0} → Stops H → ℕ → H → Message → List Message
    → Option (List Content) → H → Type 0
WantedMemory stops limit h m rs None h' = stops h (asked_by m) stop.OutOfMemory h'
WantedMemory stops limit h m rs (Some answers) h' =
    (m.flags.more_to_come ≡ false) × (is_longer limit rs ≡ false)

-- The link cut serving short: between two messages, or before all replies to the last one were
-- sent.
abbrev pub IsCut : {H : Type 0} → Does H → Stops H → (budget : ℕ) → Seen H → Seen H → List Message
    → List LogEntry → (gave : List ℕ) → Type 0
IsCut does stops budget old new ms made gave =
    AreAnswered made
    ×
    (((length made < budget) × AllSent ms made gave)
    ⊎ ((part : List ℕ) × (lost : List ℕ)
    × (l : LastSent does stops old.handler new.handler ms made gave part)
    × (written (last_replies l) ≡ part ++ lost)))

-- What each end of serving says of the log and the link before and now, of the messages that have
-- entries, those entries, what was sent, and what was received behind those messages.
abbrev pub EndsAs : {H : Type 0} → Does H → Stops H → (limit budget : ℕ) → ServeEnd → Seen H
    → Seen H → List Message → List LogEntry → (got gave rest : List ℕ) → Type 0
EndsAs does stops limit budget Ended old new ms made got gave rest =
    (new.failures ≡ old.failures) × Rose old.ends new.ends × (length made < budget)
    × AllSent ms made gave × Split limit got ms rest × (rest ≡ [])
EndsAs does stops limit budget EndedInside old new ms made got gave rest =
    (new.failures ≡ old.failures) × Rose old.ends new.ends × (length made < budget)
    × AllSent ms made gave × Split limit got ms rest × (rest ≢ []) × IsOpen limit rest
EndsAs does stops limit budget (Fault f) old new ms made got gave rest =
    (new.failures ≡ old.failures) × (new.ends ≡ old.ends) × (length made < budget)
    × AllSent ms made gave × Split limit got ms rest × IsBad limit rest f
EndsAs does stops limit budget Budget old new ms made got gave rest =
    (new.failures ≡ old.failures) × (new.ends ≡ old.ends) × (length made ≡ budget)
    × AllSent ms made gave
EndsAs does stops limit budget Link old new ms made got gave rest =
    Rose old.failures new.failures × (new.ends ≡ old.ends)
    × IsCut does stops budget old new ms made gave
EndsAs does stops limit budget Later old new ms made got gave rest =
    (new.failures ≡ old.failures) × (new.ends ≡ old.ends) × Rose old.waits new.waits
    × IsCut does stops budget old new ms made gave
EndsAs does stops limit budget ReplyTooLarge old new ms made got gave rest =
    (new.failures ≡ old.failures) × (new.ends ≡ old.ends)
    × (l : LastSent does stops old.handler new.handler ms made gave [])
    × (is_longer limit (last_replies l) ≡ true)
EndsAs does stops limit budget HandlerFailed old new ms made got gave rest =
    (new.failures ≡ old.failures) × (new.ends ≡ old.ends)
    × (l : LastSent does stops old.handler new.handler ms made gave []) × (l.entry.answers ≡ None)
    × stops l.mid (asked_by l.message) stop.Failed new.handler
EndsAs does stops limit budget OutOfMemory old new ms made got gave rest =
    (new.failures ≡ old.failures) × (new.ends ≡ old.ends)
    ×
    ((AllSent ms made gave × (length made < budget) × HasGoodHeader limit rest)
    ⊎ ((l : LastSent does stops old.handler new.handler ms made gave [])
    × WantedMemory stops limit l.mid l.message (last_replies l) l.entry.answers
    new.handler))

-- Serving a connection ended so. It received the bytes of these messages and a rest. These are the
-- first messages of each split of what was received, and each of them has an entry, in order. It
-- called `recv` only once each message that had come was answered, and all its replies were sent.
pub record Served {H : Type 0} (does : Does H) (stops : Stops H) (connection limit budget : ℕ)
    (end : ServeEnd) (old new : Seen H) : Type 0 where
  pub ms : List Message
  pub made : List LogEntry
  pub joined : List ℕ
  pub rest : List ℕ
  pub gave : List ℕ
  pub received : Appends old.received new.received (joined ++ rest)
  pub sent : Appends old.sent new.sent gave
  pub logged : new.log ≡ old.log ++ made
  pub spelled : AreSpelled limit ms joined
  pub first : (all : List Message) (left : List ℕ) → Split limit (joined ++ rest) all left
      → (others : List Message) × (all ≡ ms ++ others) × Split limit rest others left
  pub run : RunOf does stops old.handler (requests_of ms) made new.handler
  pub connected : AreOf connection made
  pub within : length made ≤ budget
  pub in_turn : (ts : List Turn) × AddsTurns old.turns new.turns ts
      × AreInTurn limit old.received old.sent ms made ts
  pub ends : EndsAs does stops limit budget end old new ms made (joined ++ rest) gave rest
