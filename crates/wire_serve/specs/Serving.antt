-- What was served of a connection so far.
use Rattle.std.specs.Prelude.{◌≡◌, ◌≢◌, ℕ, Bool, true, false, List, [], ◌∷◌, ◌++◌, Option, Some}
use Rattle.wire_msg.specs.{Content, Message, SpellsMsg}
use Rattle.wire_peer.specs.{LogEntry, asked_by, entered, next_id, replies, written}
use Rattle.wire_query.specs.{Query, SpellsQuery, message_of}
use Rattle.wire_serve.specs.ServerConnections.{ConnView, state_of}
use Rattle.wire_serve.specs.Respelling.{Respells}
use Rattle.wire_serve.specs.declared.cause.ConnState.TheVariants as conn_states
use Rattle.wire_serve.specs.Slots.{Answers, GoesOver, Receives, Sends, SlotAct, SlotSeen, Takes}
use Rattle.wire_serve.specs.Slots.{Tells}

-- the bytes spell a request, as a message or as a query, and this message asks the same
abbrev pub SpellsRequest : (queried : Bool) → Message → List ℕ → Type 0
SpellsRequest false m bytes = SpellsMsg m bytes
SpellsRequest true m bytes = (q : Query) × SpellsQuery q bytes × (m ≡ message_of q)

-- These bytes are put out for a request with these answers, with reply ids from one on: its
-- replies, or the OP_REPLY of the reply where it came as a query.
abbrev pub IsPutOut : (queried : Bool) → ℕ → Message → List Content → List ℕ → Type 0
IsPutOut false id m answers out = out ≡ written (replies id m.id (asked_by m) answers)
IsPutOut true id m answers out = Respells (written (replies id m.id (asked_by m) answers)) out

-- the entry of a request of a connection with these answers
abbrev pub answered_entry : ℕ → Message → List Content → LogEntry
answered_entry connection m answers = entered connection (asked_by m) (Some answers)

-- A connection was served, request by request: these bytes came, these entries were made, these
-- bytes were put out, and this reply id is next. Nothing was; or what was before, and then a
-- request came, it got its entry, and its replies were put out.
pub data Serves (connection : ℕ) : (came : List ℕ) → (made : List LogEntry) → (out : List ℕ)
    → (next : ℕ) → Type 0 where
  nothing : Serves connection [] [] [] 1
  and_then : {came out : List ℕ} {made : List LogEntry} {next : ℕ} (queried : Bool) (m : Message)
      (bytes reply : List ℕ) (answers : List Content) → Serves connection came made out next
      → SpellsRequest queried m bytes → IsPutOut queried next m answers reply
      → Serves connection (came ++ bytes) (made ++ answered_entry connection m answers ∷ [])
      (out ++ reply) (next_id next (asked_by m) answers)

-- These bytes came at a server connection, these entries were made, and these bytes were sent. All
-- requests were answered, and the rest of the bytes are gathered or held; or one more request came,
-- and it waits; or it got its entry but no reply, and the server connection is closed. What was put
-- out and isn't sent is to be sent.
pub data IsServed (connection : ℕ) (came : List ℕ) (made : List LogEntry) (sent : List ℕ)
    (f : ConnView) : Type 0 where
  all_answered : {done out : List ℕ} → Serves connection done made out f.server.next_id
      → f.server.waiting ≡ [] → came ≡ done ++ (f.part ++ f.server.held)
      → out ≡ sent ++ f.output → IsServed connection came made sent f
  one_waits : {done out : List ℕ} (m : Message) (bytes request : List ℕ)
      → Serves connection done made out f.server.next_id → f.server.waiting ≡ request ∷ []
      → SpellsRequest f.queried m bytes → SpellsMsg m request → came ≡ done ++ bytes
      → f.part ++ f.server.held ≡ [] → out ≡ sent ++ f.output
      → IsServed connection came made sent f
  one_lost : {done out : List ℕ} {before : List LogEntry} {next : ℕ} (queried : Bool) (m : Message)
      (bytes : List ℕ) (answers : Option (List Content)) → Serves connection done before out next
      → SpellsRequest queried m bytes → came ≡ done ++ bytes
      → made ≡ before ++ entered connection (asked_by m) answers ∷ []
      → f.server.waiting ≡ [] → state_of f ≢ conn_states.Open → out ≡ sent ++ f.output
      → IsServed connection came made sent f

-- ---- of acts

-- the entries that an act makes, the bytes that came over the link, and those that went
abbrev pub made_by : SlotAct → List LogEntry
made_by (Answers result made) = made
made_by act = []

abbrev pub sent_by : SlotAct → List ℕ
sent_by (Sends bytes) = bytes
sent_by act = []

abbrev pub received_by : SlotAct → List ℕ
received_by (Receives bytes) = bytes
received_by act = []

-- the bytes that the server connection takes
abbrev pub taken_by : SlotAct → List ℕ
taken_by (Takes bytes) = bytes
taken_by act = []

-- the same of the acts of turns, in order
abbrev pub of_acts : {X : Type 0} → (SlotAct → List X) → List SlotAct → List X
of_acts by [] = []
of_acts by (act ∷ acts) = by act ++ of_acts by acts

abbrev pub of_turns : {X : Type 0} → (SlotAct → List X) → List (List SlotAct) → List X
of_turns by [] = []
of_turns by (acts ∷ others) = of_acts by acts ++ of_turns by others

-- A slot that began at this link was served, and these bytes came over the link since then, these
-- entries were made, and these bytes went. The connection is served with what the server connection
-- took of the bytes that came.
pub record SlotServed {L : Type 0} (t : Tells L) (connection : ℕ) (first : L) (came : List ℕ)
    (made : List LogEntry) (went : List ℕ) (s : SlotSeen L) : Type 0 where
  pub number : s.conn.server.connection ≡ connection
  pub taken_over : s.conn.server.output ≡ []
  pub over : GoesOver t came went first s.link
  pub taken : List ℕ
  pub parts : came ≡ taken ++ s.inlet
  pub served : IsServed connection taken made went s.conn
