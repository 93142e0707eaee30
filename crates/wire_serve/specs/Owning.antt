-- That who serves connections is an owner of servers: what the server of each connection was fed,
-- and what it gave.
use Rattle.std.specs.Prelude.{◌≡◌, ℕ, zero, suc, Option, None, Some, List, [], ◌∷◌, ◌++◌}
use Rattle.std.specs.Prelude.{length, slice_get}
use Rattle.slab.specs.Slab.{get}
use Rattle.wire_msg.specs.{Content, Message, SpellsMsg, canonical}
use Rattle.wire_query.specs.{Query, SpellsQuery, message_of}
use Rattle.wire_peer.specs.{Asked, Does, LogEntry, RunOf, ServerView, Stops, asked_by, log_of}
use Rattle.wire_peer.specs.{replies, written}
use Rattle.wire_serve.specs.ServerConnections.{ConnView}
use Rattle.wire_serve.specs.Connections.{Acts, Closes, ConnsAct, ConnsSeen, Forgets, Opens, Stays}
use Rattle.wire_serve.specs.Connections.{told_in}
use Rattle.wire_serve.specs.Connections.{turns_of}
use Rattle.wire_serve.specs.Respelling.{NoRespelling, Respells}
use Rattle.wire_serve.specs.Slots.{SlotAct, SlotSeen, Tells}
use Rattle.wire_serve.specs.Serving.{SlotServed, of_turns, received_by, sent_by, taken_by}
use Rattle.wire_serve.specs.declared.cause.CloseCause.{CloseCause}
use Rattle.wire_model.specs.Hostile.{entries_of}
use Rattle.wire_model.specs.{Made, ServerAct, ServerEnds, ServersGrow, Turn, bytes_sent_down}
use Rattle.wire_model.specs.{bytes_taken_up, deeds_of, first_servers_of, server_acts_at, server_at}
use Rattle.wire_msg.specs.declared.header.TheConstants.{MAX_MESSAGE_LEN}

-- ---- one connection, in two spellings

-- These bytes of whole requests came at a server connection, and its server was fed these: each
-- message as it is, and in the place of each query the message that asks the same.
pub data FedAs : (came fed : List ℕ) → Type 0 where
  none_came : FedAs [] []
  and_a_message : {came fed : List ℕ} (m : Message) (bytes : List ℕ) → FedAs came fed
      → SpellsMsg m bytes → FedAs (came ++ bytes) (fed ++ bytes)
  and_a_query : {came fed : List ℕ} (q : Query) (bytes : List ℕ) → FedAs came fed
      → SpellsQuery q bytes → FedAs (came ++ bytes) (fed ++ canonical (message_of q))

-- What came at a server connection, and what its server was fed, are whole requests, and of one
-- more request what the server connection gathers or the server holds.
pub record IsFed (came fed : List ℕ) (f : ConnView) : Type 0 where
  pub came_whole : List ℕ
  pub fed_whole : List ℕ
  pub requests : FedAs came_whole fed_whole
  pub came_is : came ≡ came_whole ++ (f.part ++ f.server.held)
  pub fed_is : fed ≡ fed_whole ++ f.server.held

-- A server gave these bytes, and its server connection put these out: what an answer gave as it is,
-- or the OP_REPLY in its place.
pub data GivenAs : (given out : List ℕ) → Type 0 where
  none_given : GivenAs [] []
  and_as_it_is : {given out : List ℕ} (bytes : List ℕ) → GivenAs given out
      → GivenAs (given ++ bytes) (out ++ bytes)
  and_respelled : {given out : List ℕ} (bytes reply : List ℕ) → GivenAs given out
      → Respells bytes reply → GivenAs (given ++ bytes) (out ++ reply)

-- these are the bytes of what one answer gave: the replies to one request
abbrev pub IsOneAnswer : List ℕ → Type 0
IsOneAnswer bytes =
    (id : ℕ) × (m : Message) × (answers : List Content)
    × (bytes ≡ written (replies id m.id (asked_by m) answers))

-- The server connection put out all that its server gave; or all but what the last answer gave, and
-- then the server connection closed, since that has no OP_REPLY.
pub data IsGiven (given out : List ℕ) (f : ConnView) : Type 0 where
  all_put_out : GivenAs given out → IsGiven given out f
  last_lost : {before : List ℕ} (lost : List ℕ) (cause : CloseCause) → GivenAs before out
      → given ≡ before ++ lost → IsOneAnswer lost → NoRespelling lost cause
      → f.cause ≡ Some cause → f.server.waiting ≡ [] → IsGiven given out f

-- Connection c was served over this link by these turns, and has these entries in the log. This is
-- its slot, as it is or was when it was closed, and its server, with which these acts were done.
-- The server was fed the requests that the server connection took. It gave what the server
-- connection put out: what was sent, and then what is to be sent.
pub record HasServer {L : Type 0} (t : Tells L) (c : ℕ) (link : L) (turns : List (List SlotAct))
    (entries : List LogEntry) (slot : SlotSeen L) (acts : List ServerAct) (server : ServerView)
    : Type 0 where
  pub served : SlotServed t c link (of_turns received_by turns) entries (of_turns sent_by turns)
      slot
  pub is : server ≡ slot.conn.server
  pub fed : IsFed (of_turns taken_by turns) (bytes_taken_up acts) slot.conn
  pub given : IsGiven (bytes_sent_down acts) (of_turns sent_by turns ++ slot.conn.output)
      slot.conn

-- ---- all of them

-- the links over which connections were opened in these acts, in order
abbrev pub links_in : {L : Type 0} → List (ConnsAct L) → List L
links_in [] = []
links_in (Opens key link ∷ acts) = link ∷ links_in acts
links_in (Acts key connection turn ∷ acts) = links_in acts
links_in (Closes key ∷ acts) = links_in acts
links_in (Forgets told ∷ acts) = links_in acts
links_in (Stays ∷ acts) = links_in acts

-- the link of connection c, which are numbered from 1
abbrev pub link_at : {L : Type 0} → List L → (c : ℕ) → Option L
link_at links zero = None
link_at links (suc i) = slice_get links i

-- Nothing was done with connection c: it has no turns and no entries.
pub record IsUnused {L : Type 0} (c : ℕ) (acts : List (ConnsAct L)) (log : List LogEntry) : Type 0
  where
    pub turns : turns_of c acts ≡ []
    pub entries : entries_of c log ≡ []

-- Connections that began with this handler, and with which these acts were done, did what an owner
-- of servers does who makes them one after another, each with room for one request. The owner's log
-- is the entries that were forgotten, and then those that are there: a run of the handler from its
-- first state. Each connection has the server of its number, and was served over the link that it
-- was opened over. Its last slot is the one that it has, or had when it was closed. No other
-- connection has turns or entries.
pub record OwnsServers {H L : Type 0} (does : Does H) (stops : Stops H) (t : Tells L)
    (made : ℕ → Made) (first : H) (acts : List (ConnsAct L)) (conns : ConnsSeen H L) : Type 0 where
  pub turns : List Turn
  pub servers : ServerEnds H
  pub grown : ServersGrow does stops MAX_MESSAGE_LEN made
      (first_servers_of MAX_MESSAGE_LEN made 0 first) turns
      servers
  pub opened : conns.next ≡ suc (length servers.servers)
  pub log : servers.log ≡ told_in acts ++ log_of conns.logged.entries.items
  pub handler : servers.handler ≡ conns.logged.handler
  pub asked : List Asked
  pub run : RunOf does stops first asked servers.log servers.handler
  pub last : ℕ → Option (SlotSeen L)
  pub connections : (c : ℕ) (s : ServerView) → server_at servers.servers c ≡ Some s
      → (slot : SlotSeen L) × (link : L) × (last c ≡ Some slot)
      × (link_at (links_in acts) c ≡ Some link)
      × HasServer t c link (turns_of c acts) (entries_of c servers.log) slot
      (server_acts_at c (deeds_of turns)) s
  pub slots : (key : ℕ) (slot : SlotSeen L) → get conns.slots key ≡ Some slot
      → (server_at servers.servers slot.conn.server.connection ≡ Some slot.conn.server)
      × (last slot.conn.server.connection ≡ Some slot)
  pub no_other : (c : ℕ) → server_at servers.servers c ≡ None
      → IsUnused c acts servers.log
