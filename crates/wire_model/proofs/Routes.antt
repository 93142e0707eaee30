-- Which of the machine's calls are on the ways of one connection.
use Rattle.std.proofs.Common.{◌≡◌, ℕ, ◌<◌, Bool, true, false, List, [], ◌∷◌, ◌++◌, length, map, Option, Some, None, ap, subst, sym, ◌∙◌}
use Rattle.std.specs.Prelude.{ℤ, pos, slice_get}
use Rattle.std.specs.List.{flat_map}
use Rattle.wire_msg.specs.{Content, IsOpen, Message, SpellsMsg, canonical}
use Rattle.wire_peer.specs.{Asked, LogEntry, Table, allows_more, are_left, asked_by, bearer, chain, without, written}
use Rattle.wire_peer.specs.declared.call_table.Outstanding.{Outstanding}
use Rattle.wire_peer.specs.declared.call_table.ReadyReply.{ReadyReply}
use Rattle.wire_peer.specs.declared.calls.CallKind.{CallKind}
use Rattle.wire_peer.specs.declared.client_state.ClientState.{ClientState}
use Rattle.wire_peer.specs.declared.client_state.ClientState.TheVariants as clients
use Rattle.wire_peer.specs.declared.server_state.ServerState.{ServerState}
use Rattle.wire_peer.specs.declared.server_state.ServerState.TheVariants as servers
use Rattle.wire_model.specs.Conns.{Conn}
use Rattle.wire_model.specs.Machines.{Call, CallIs, OnWay, Waiting, Answered, Pending, Machine}
use Rattle.wire_model.specs.Shown.{IsOpenOrStopped}
use Rattle.wire_model.proofs.Lists.{Has, Each}
use Rattle.wire_model.proofs.Exacts.{Exact}
use Rattle.wire_model.proofs.Ranks.{rank}
use Rattle.wire_model.proofs.Wires.{Fit}
use Rattle.wire_model.proofs.Chains.{AllFit, IsReplyId, IsRequestId}
use Rattle.wire_model.proofs.Bearers.{Idle}

abbrev pub lives : ClientState → Bool
lives clients.Open = true
lives (clients.Closed cause) = false

abbrev pub server_lives : ServerState → Bool
server_lives servers.Open = true
server_lives (servers.Closed cause) = false

-- A request on its way or waiting: its index among the machine's calls, its index among the records, its number among its
-- client's calls, its id, its kind and what it asks. The kind and the number of a stranger don't matter.
pub record Tag : Type 0 where
  pub call : ℕ
  pub index : ℕ
  pub number : ℕ
  pub id : ℤ
  pub kind : CallKind
  pub asked : Asked

-- the replies of one entry that are due: the answers to come, the id of the next reply, and that of the last one if
-- there was one
pub record Due : Type 0 where
  pub tag : Tag
  pub last : Option ℤ
  pub next : ℕ
  pub left : List Content
  pub entry : ℕ

pub record Route : Type 0 where
  pub onway : List Tag
  pub waiting : List Tag
  pub due : List Due

abbrev pub request_message : ℤ → Asked → Message
request_message id a = record { id = id; response_to = pos 0; flags = record { more_to_come = a.more_to_come; exhaust_allowed = a.exhaust_allowed }; content = a.payload }

abbrev pub tag_message : Tag → Message
tag_message t = request_message t.id t.asked

abbrev pub to_of : Option ℤ → ℤ → ℤ
to_of None id = id
to_of (Some last) id = last

abbrev pub due_messages : Due → List Message
due_messages d = chain d.next (to_of d.last d.tag.id) d.left

abbrev pub sent : Tag → List ℕ
sent t = canonical (tag_message t)

abbrev pub spelled : Due → List ℕ
spelled d = written (due_messages d)

-- these bytes are the request of the tag
pub record IsRequest (bytes : List ℕ) (t : Tag) : Type 0 where
  pub message : Message
  pub spells : SpellsMsg message bytes
  pub id : message.id ≡ t.id
  pub asked : asked_by message ≡ t.asked

-- one by one
abbrev pub AreRequests : List (List ℕ) → List Tag → Type 0
AreRequests [] [] = Unit {0}
AreRequests [] (t ∷ ts) = ⊥
AreRequests (b ∷ bs) [] = ⊥
AreRequests (b ∷ bs) (t ∷ ts) = IsRequest b t × AreRequests bs ts

abbrev pub as_outstanding : Tag → Option ℤ → Outstanding
as_outstanding t last = record { call = t.number; kind = t.kind; last = last }

abbrev pub tag_calls : List Tag → List ℕ
tag_calls ts = map (λ t. t.call) ts

abbrev pub due_calls : List Due → List ℕ
due_calls ds = map (λ d. d.tag.call) ds

abbrev pub OnWayAt : ℕ → Call → Type 0
OnWayAt c x = (x.connection ≡ c) × (x.place ≡ OnWay)

abbrev pub WaitingAt : ℕ → Call → Type 0
WaitingAt c x = (x.connection ≡ c) × (x.place ≡ Waiting)

abbrev pub DueAt : ℕ → Call → Type 0
DueAt c x = (x.connection ≡ c) × (x.state ≡ Pending) × ((e : ℕ) × (x.place ≡ Answered e))

pub record TagIs (calls : List Call) (t : Tag) : Type 0 where
  pub x : Call
  pub at : CallIs calls t.call x
  pub asked : x.asked ≡ t.asked
  pub index : rank calls t.call ≡ t.index

-- at least one is to come; more than one only where that is allowed
abbrev pub Fair : Bool → List Content → Type 0
Fair exhaust_allowed [] = ⊥
Fair exhaust_allowed (a ∷ rest) = are_left rest ≡ true → exhaust_allowed ≡ true

pub record DueIs {H : Type 0} (m : Machine H) (d : Due) : Type 0 where
  pub tag : TagIs m.calls d.tag
  pub place : tag.x.place ≡ Answered d.entry
  pub entry : LogEntry
  pub in_log : slice_get m.log d.entry ≡ Some entry
  pub answers : entry.answers ≡ Some (tag.x.parts ++ d.left)
  pub fair : Fair d.tag.asked.exhaust_allowed d.left

-- each number is less than all after it
abbrev pub Rising : List ℕ → Type 0
Rising [] = Unit {0}
Rising (i ∷ is) = ((j : ℕ) → Has j is → i < j) × Rising is

-- what waits at the server; a raw connection has nothing else
pub record WaitFits {H : Type 0} (c : ℕ) (requests : List (List ℕ)) (m : Machine H) (waiting : List Tag) : Type 0 where
  pub same : AreRequests requests waiting
  pub are : Exact (WaitingAt c) m.calls (tag_calls waiting)
  pub tags : Each (TagIs m.calls) waiting

pub record UpFits {H : Type 0} (limit c : ℕ) (held output : List ℕ) (m : Machine H) (onway : List Tag) : Type 0 where
  pub bytes : held ++ output ≡ flat_map sent onway
  pub still_open : IsOpen limit held
  pub fit : Each (λ t. Fit limit (tag_message t)) onway
  pub are : Exact (OnWayAt c) m.calls (tag_calls onway)
  pub tags : Each (TagIs m.calls) onway
  pub rising : Rising (tag_calls onway)

-- the request is outstanding under its id, and its number gives the index of its record
pub record Bears (os : Table) (indexes : List ℕ) (t : Tag) (last : Option ℤ) : Type 0 where
  pub bearer_is : bearer t.id os ≡ Some (as_outstanding t last)
  pub at : slice_get indexes t.number ≡ Some t.index
  pub exhaust_allowed : allows_more t.kind ≡ t.asked.exhaust_allowed

-- no call has had a part, except perhaps the one of the first replies that are due
abbrev pub IdleBut : Option ℤ → ℤ → Table → Type 0
IdleBut None id os = Idle os
IdleBut (Some last) id os = Idle (without id os)

abbrev pub Streams : Table → List Due → Type 0
Streams os [] = Idle os
Streams os (d ∷ ds) = IdleBut d.last d.tag.id os × Each (λ a. a.last ≡ None) ds

pub record DownFits {H : Type 0} (limit c : ℕ) (held output : List ℕ) (reply : Option ReadyReply) (os : Table) (indexes : List ℕ) (m : Machine H) (due : List Due) : Type 0 where
  pub bytes : held ++ output ≡ flat_map spelled due
  pub still_open : IsOpen limit held
  pub no_reply : reply ≡ None
  pub fit : Each (λ d. AllFit limit (due_messages d)) due
  pub are : Exact (DueAt c) m.calls (due_calls due)
  pub tags : Each (DueIs m) due
  pub rising : Rising (map (λ d. d.entry) due)
  pub ids : Each (λ d. Bears os indexes d.tag d.last) due
  pub streams : Streams os due

-- each acknowledged one is outstanding under its id
abbrev pub IdsFit : Table → List ℕ → List Tag → Type 0
IdsFit os indexes ts = Each (λ t. t.asked.more_to_come ≡ false → Bears os indexes t None) ts

-- the numbers with which the two ends of connection c were made, and their next ids
pub record IsMade (limit c : ℕ) (k : Conn) : Type 0 where
  pub limit_up : k.server.limit ≡ limit
  pub limit_down : k.client.requests.limit ≡ limit
  pub connection : k.server.connection ≡ c
  pub reply_id : IsReplyId k.server.next_id
  pub request_id : IsRequestId k.client.requests.next_id
  pub numbered : (n : ℕ) → k.client.requests.next_number ≡ Some n → n ≡ length k.calls

-- so is another connection whose ends have the same numbers
pub made_alike : (limit c : ℕ) (k l : Conn) → l.server.limit ≡ k.server.limit → l.server.connection ≡ k.server.connection → l.server.next_id ≡ k.server.next_id → l.client.requests.limit ≡ k.client.requests.limit
    → l.client.requests.next_id ≡ k.client.requests.next_id → l.client.requests.next_number ≡ k.client.requests.next_number → l.calls ≡ k.calls → IsMade limit c k → IsMade limit c l
made_alike limit c k l up conn reply down request number calls made = record {
  limit_up = up ∙ made.limit_up;
  limit_down = down ∙ made.limit_down;
  connection = conn ∙ made.connection;
  reply_id = subst IsReplyId (sym reply) made.reply_id;
  request_id = subst IsRequestId (sym request) made.request_id;
  numbered = λ n at. made.numbered n (sym number ∙ at) ∙ sym (ap length calls);
}

pub record Fits {H : Type 0} (limit c : ℕ) (k : Conn) (m : Machine H) (r : Route) : Type 0 where
  pub made : IsMade limit c k
  pub raw_is : k.raw ≡ m.raw c
  pub client_is : lives k.client.state ≡ m.client_lives c
  pub server_is : server_lives k.server.state ≡ m.server_lives c
  pub wait : m.server_lives c ≡ true → WaitFits c k.server.waiting m r.waiting
  pub up : m.server_lives c ≡ true → k.raw ≡ false → UpFits limit c k.server.held k.client.requests.output m r.onway
  pub down : m.client_lives c ≡ true → DownFits limit c k.client.held k.server.output k.client.reply k.client.requests.outstanding k.calls m r.due
  pub onway_ids : m.client_lives c ≡ true → m.server_lives c ≡ true → IdsFit k.client.requests.outstanding k.calls r.onway
  pub waiting_ids : m.client_lives c ≡ true → m.server_lives c ≡ true → IdsFit k.client.requests.outstanding k.calls r.waiting
  pub up_uncut : k.raw ≡ false → k.up_cut ≡ false → IsOpenOrStopped k.server.state
  pub down_uncut : k.raw ≡ false → k.down_cut ≡ false → k.client.state ≡ clients.Open
