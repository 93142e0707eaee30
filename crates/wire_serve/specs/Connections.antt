-- What a turn at one slot of many does, and what is done with connections, call by call.
use Rattle.std.specs.Prelude.{◌≡◌, ℕ, ◌+◌, ◌==◌, if◌then◌else◌, Option, None, Some, List, []}
use Rattle.std.specs.Prelude.{◌∷◌, ◌++◌, Bool, true, false}
use Rattle.slab.specs.Slab.{SameValues, Slab, Updates, get}
use Rattle.wire_peer.specs.{Does, LogEntry, Stops, log_of}
use Rattle.wire_peer.specs.declared.log.Logged.{Logged}
use Rattle.wire_serve.specs.declared.turned.Turned.{Turned}
use Rattle.wire_serve.specs.declared.gated_link.Gate.{Gate}
use Rattle.wire_serve.specs.Slots.{SetsGate, SlotAct, SlotMoves, SlotRun, SlotSeen, Tells, Turns}
use Rattle.wire_serve.specs.Slots.{new_slot}

-- The slot of this key took a turn with the handler and its log, and every other slot stayed as it
-- was; or there is no such slot, and nothing changed.
abbrev pub IsTurned : {H L : Type 0} → Does H → Stops H → Tells L → (key steps : ℕ) → Option Turned
    → Slab (SlotSeen L) → Logged H → Slab (SlotSeen L) → Logged H → Type 0
IsTurned does stops t key steps None old from new to =
    (get old key ≡ None) × (new ≡ old) × (to ≡ from)
IsTurned {H} {L} does stops t key steps (Some turned) old from new to =
    (s s' : SlotSeen L) × (get old key ≡ Some s) × Updates old new key (Some s')
    × Turns does stops t steps turned s from s' to

-- The link of the slot of this key has this gate and moved no byte, and every other slot stayed as
-- it was; or there is no such slot, and nothing changed.
abbrev pub IsGated : {L : Type 0} → Tells L → (L → Gate) → (key : ℕ) → Gate → (is_there : Bool)
    → Slab (SlotSeen L) → Slab (SlotSeen L) → Type 0
IsGated t gate key to false old new = (get old key ≡ None) × (new ≡ old)
IsGated {L} t gate key to true old new =
    (s s' : SlotSeen L) × (get old key ≡ Some s) × Updates old new key (Some s')
    × SlotMoves t SetsGate s s' × (gate s'.link ≡ to)

-- ---- connections

-- What a caller sees of connections: the slots by their keys, the handler with its log, and the
-- number of the next connection.
pub record ConnsSeen (H L : Type 0) : Type 0 where
  pub slots : Slab (SlotSeen L)
  pub logged : Logged H
  pub next : ℕ

abbrev pub conns_seen : {H L : Type 0} → Slab (SlotSeen L) → Logged H → (next : ℕ) → ConnsSeen H L
conns_seen slots logged next = record { slots = slots; logged = logged; next = next }

-- no connections yet, and this handler to ask
pub record AreNewConns {H L : Type 0} (first : H) (conns : ConnsSeen H L) : Type 0 where
  pub slots : (key : ℕ) → get conns.slots key ≡ None
  pub handler : conns.logged.handler ≡ first
  pub empty : log_of conns.logged.entries.items ≡ []
  pub next : conns.next ≡ 1

-- An act with connections: a connection is opened over a link and has this key, the slot of a
-- connection does these acts, the connection of a key is closed, these entries are forgotten, or
-- nothing is done.
pub data ConnsAct (L : Type 0) : Type 0 where
  Opens : (key : ℕ) → (link : L) → ConnsAct L
  Acts : (key connection : ℕ) → (acts : List SlotAct) → ConnsAct L
  Closes : (key : ℕ) → ConnsAct L
  Forgets : (told : List LogEntry) → ConnsAct L
  Stays : ConnsAct L

-- a slot at which nothing was done has this key, which was free, and the next number
pub record IsOpened {H L : Type 0} (key : ℕ) (link : L) (old new : ConnsSeen H L) : Type 0 where
  pub free : get old.slots key ≡ None
  pub slots : Updates old.slots new.slots key (Some (new_slot old.next link))
  pub logged : new.logged ≡ old.logged
  pub next : new.next ≡ old.next + 1

-- the slot of this key, which is that of this connection, did the acts, and every other slot stayed
pub record IsActed {H L : Type 0} (does : Does H) (stops : Stops H) (t : Tells L)
    (key connection : ℕ) (acts : List SlotAct) (old new : ConnsSeen H L) : Type 0 where
  pub slot : SlotSeen L
  pub at : get old.slots key ≡ Some slot
  pub number : slot.conn.server.connection ≡ connection
  pub after : SlotSeen L
  pub slots : Updates old.slots new.slots key (Some after)
  pub run : SlotRun does stops t slot old.logged acts after new.logged
  pub next : new.next ≡ old.next

-- the slot of this key is gone, if there was one
pub record IsClosed {H L : Type 0} (key : ℕ) (old new : ConnsSeen H L) : Type 0 where
  pub slots : Updates old.slots new.slots key None
  pub logged : new.logged ≡ old.logged
  pub next : new.next ≡ old.next

-- the first entries of the log, which were these, are gone
pub record IsForgotten {H L : Type 0} (told : List LogEntry) (old new : ConnsSeen H L) : Type 0
  where
    pub entries : log_of old.logged.entries.items ≡ told ++ log_of new.logged.entries.items
    pub handler : new.logged.handler ≡ old.logged.handler
    pub slots : new.slots ≡ old.slots
    pub next : new.next ≡ old.next

-- each key has the slot that it had, and nothing else changed
pub record IsSame {H L : Type 0} (old new : ConnsSeen H L) : Type 0 where
  pub slots : SameValues old.slots new.slots
  pub logged : new.logged ≡ old.logged
  pub next : new.next ≡ old.next

-- the act was done with the connections
abbrev pub ConnsDo : {H L : Type 0} → Does H → Stops H → Tells L → ConnsAct L → ConnsSeen H L
    → ConnsSeen H L → Type 0
ConnsDo does stops t (Opens key link) old new = IsOpened key link old new
ConnsDo does stops t (Acts key connection acts) old new =
    IsActed does stops t key connection acts old new
ConnsDo does stops t (Closes key) old new = IsClosed key old new
ConnsDo does stops t (Forgets told) old new = IsForgotten told old new
ConnsDo does stops t Stays old new = IsSame old new

-- these acts were done with the connections, one after another
abbrev pub ConnsRun : {H L : Type 0} → Does H → Stops H → Tells L → ConnsSeen H L
    → List (ConnsAct L) → ConnsSeen H L → Type 0
ConnsRun does stops t old [] new = new ≡ old
ConnsRun {H} {L} does stops t old (act ∷ acts) new =
    (mid : ConnsSeen H L) × ConnsDo does stops t act old mid × ConnsRun does stops t mid acts new

-- the entries that were forgotten in these acts, in order
abbrev pub told_in : {L : Type 0} → List (ConnsAct L) → List LogEntry
told_in [] = []
told_in (Opens key link ∷ acts) = told_in acts
told_in (Acts key connection slot_acts ∷ acts) = told_in acts
told_in (Closes key ∷ acts) = told_in acts
told_in (Forgets told ∷ acts) = told ++ told_in acts
told_in (Stays ∷ acts) = told_in acts

-- the turns of the slot of connection c, in order
abbrev pub turns_of : {L : Type 0} → (c : ℕ) → List (ConnsAct L) → List (List SlotAct)
turns_of c [] = []
turns_of c (Opens key link ∷ acts) = turns_of c acts
turns_of c (Acts key connection slot_acts ∷ acts) =
    if connection == c then slot_acts ∷ turns_of c acts else turns_of c acts
turns_of c (Closes key ∷ acts) = turns_of c acts
turns_of c (Forgets told ∷ acts) = turns_of c acts
turns_of c (Stays ∷ acts) = turns_of c acts
