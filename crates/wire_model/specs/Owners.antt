-- The owners of the ends, each by itself: what the owner of a client, or of the servers, holds, and
-- what it does call by call.
use Rattle.std.specs.Prelude.{◌≡◌, ℕ, zero, suc, ℤ, pos, ◌≤ℤ◌, FitsSigned, Option, None, Some, List}
use Rattle.std.specs.Prelude.{[], ◌∷◌, ◌++◌, map, slice_get, slice_set, Result}
use Rattle.std.specs.Int.{w32}
use Rattle.wire_msg.specs.{Message, SpellsMsg}
use Rattle.wire_msg.specs.declared.payloads.Payload.{Payload}
use Rattle.wire_peer.specs.{AnswerStep, ClientSeen, Does, IsCalled, LogEntry, ServerView, Stops}
use Rattle.wire_peer.specs.{called, content_of, ended, new_client, new_server, released}
use Rattle.wire_peer.specs.declared.call_table.ReadyReply.{ReadyReply}
use Rattle.wire_peer.specs.declared.calls.CallKind.{CallKind}
use Rattle.wire_peer.specs.declared.calls.CallNo.{CallNo}
use Rattle.wire_peer.specs.declared.server_state.AnswerRefusal.{AnswerRefusal}
use Rattle.wire_model.specs.Happening.{AreContents}
use Rattle.wire_model.specs.Moves.{ClientTakes, ServerTakes, put_at, with_client_output}
use Rattle.wire_model.specs.Moves.{with_server_output}
use Rattle.wire_model.specs.Conns.{Record, lost_record, new_record}
use Rattle.wire_model.specs.Machines.{asked_as}
use Rattle.wire_model.specs.Cuts.{ended_server}

-- ---- the owner of a client

-- a client, and the records of its calls, by their numbers
pub record ClientEnd : Type 0 where
  pub client : ClientSeen
  pub records : List Record

-- an act of a client's owner: it makes a call, sends bytes, feeds bytes, collects a reply, or tells
-- the end
pub data ClientAct : Type 0 where
  Calls : (kind : CallKind) → (payload : Payload) → (number : CallNo) → ClientAct
  SendsUp : (bytes : List ℕ) → ClientAct
  TakesDown : (bytes : List ℕ) → ClientAct
  Collects : (reply : ReadyReply) → (m : Message) → ClientAct
  EndsDown : ClientAct

-- The act leads from the old end to the new one: the client makes a call, its first output bytes
-- are sent, it takes bytes, its ready reply is recorded and released, or it is told the end.
abbrev pub ClientDoes : ℕ → ClientAct → ClientEnd → ClientEnd → Type 0
ClientDoes c (Calls kind payload number) old new =
    IsCalled old.client kind (content_of payload) number
    × (new ≡ record {
      client = called old.client kind (content_of payload) number;
      records = old.records ++ new_record c (asked_as kind (content_of payload)) ∷ [];
    })
ClientDoes c (SendsUp bytes) old new =
    (rest : List ℕ) × (old.client.requests.output ≡ bytes ++ rest)
    × (new ≡ record { client = with_client_output old.client rest; records = old.records })
ClientDoes c (TakesDown bytes) old new =
    (client : ClientSeen) × ClientTakes old.client bytes client
    × (new ≡ record { client = client; records = old.records })
ClientDoes c (Collects reply m) old new =
    (old.client.reply ≡ Some reply) × SpellsMsg m old.client.held
    × (new ≡ record {
      client = released old.client;
      records = put_at (Some reply.call) m.content reply.last old.records;
    })
ClientDoes c EndsDown old new =
    new ≡ record { client = ended old.client; records = map lost_record old.records }

-- the acts of a client's owner, one after another, lead from the old end to the new one
abbrev pub ClientRun : ℕ → ClientEnd → List ClientAct → ClientEnd → Type 0
ClientRun c old [] new = new ≡ old
ClientRun c old (a ∷ acts) new =
    (mid : ClientEnd) × ClientDoes c a old mid × ClientRun c mid acts new

-- the bytes that an act sends, and those that it takes
abbrev pub sent_by : ClientAct → List ℕ
sent_by (Calls kind payload number) = []
sent_by (SendsUp bytes) = bytes
sent_by (TakesDown bytes) = []
sent_by (Collects reply m) = []
sent_by EndsDown = []

abbrev pub taken_by : ClientAct → List ℕ
taken_by (Calls kind payload number) = []
taken_by (SendsUp bytes) = []
taken_by (TakesDown bytes) = bytes
taken_by (Collects reply m) = []
taken_by EndsDown = []

-- the bytes that the acts sent, joined, and those that they took
abbrev pub bytes_sent : List ClientAct → List ℕ
bytes_sent [] = []
bytes_sent (act ∷ acts) = sent_by act ++ bytes_sent acts

abbrev pub bytes_taken : List ClientAct → List ℕ
bytes_taken [] = []
bytes_taken (act ∷ acts) = taken_by act ++ bytes_taken acts

-- ---- the owner of the servers

-- the servers, by the numbers of their connections, from 1, and one handler with its log
pub record ServerEnds (H : Type 0) : Type 0 where
  pub servers : List ServerView
  pub log : List LogEntry
  pub handler : H

-- an act with one of the servers: its owner feeds bytes, has a request answered, sends bytes, or
-- tells the end
pub data ServerAct : Type 0 where
  TakesUp : (bytes : List ℕ) → ServerAct
  Answers : (i : ℕ) → (result : Result ℕ AnswerRefusal) → ServerAct
  SendsDown : (bytes : List ℕ) → ServerAct
  EndsUp : ServerAct

-- the bytes that such an act sends, and those that it takes
abbrev pub sent_down_by : ServerAct → List ℕ
sent_down_by (TakesUp bytes) = []
sent_down_by (Answers i result) = []
sent_down_by (SendsDown bytes) = bytes
sent_down_by EndsUp = []

abbrev pub taken_up_by : ServerAct → List ℕ
taken_up_by (TakesUp bytes) = bytes
taken_up_by (Answers i result) = []
taken_up_by (SendsDown bytes) = []
taken_up_by EndsUp = []

-- the bytes that the acts with one server sent, joined, and those that they took
abbrev pub bytes_sent_down : List ServerAct → List ℕ
bytes_sent_down [] = []
bytes_sent_down (act ∷ acts) = sent_down_by act ++ bytes_sent_down acts

abbrev pub bytes_taken_up : List ServerAct → List ℕ
bytes_taken_up [] = []
bytes_taken_up (act ∷ acts) = taken_up_by act ++ bytes_taken_up acts

-- the server of a connection
abbrev pub server_at : List ServerView → ℕ → Option ServerView
server_at ss zero = None
server_at ss (suc i) = slice_get ss i

-- the servers, with this one for the connection of this number
abbrev pub server_set : List ServerView → ℕ → ServerView → List ServerView
server_set ss zero s = ss
server_set ss (suc i) s = slice_set ss i s

-- a server takes bytes, has its first bytes sent, or is told the end
abbrev pub ServerMoves : ServerAct → ServerView → ServerView → Type 0
ServerMoves (TakesUp bytes) s s' = ServerTakes s bytes s'
ServerMoves (Answers i result) s s' = ⊥
ServerMoves (SendsDown bytes) s s' =
    (rest : List ℕ) × (s.output ≡ bytes ++ rest) × (s' ≡ with_server_output s rest)
ServerMoves EndsUp s s' = s' ≡ ended_server s

-- a server answers a request that waits, or refuses to; or it moves, and its handler and the log
-- stay
abbrev pub ServerDoes : {H : Type 0} → Does H → Stops H → ServerAct → ServerView → List LogEntry → H
    → ServerView → List LogEntry → H → Type 0
ServerDoes does stops (Answers i result) s log h s' log' h' =
    AnswerStep does stops i result s h log s' h' log' × AreContents log'
ServerDoes does stops act s log h s' log' h' =
    ServerMoves act s s' × (log' ≡ log) × (h' ≡ h)

-- ---- one server

-- a server, with the handler and the log
pub record ServerEnd (H : Type 0) : Type 0 where
  pub server : ServerView
  pub log : List LogEntry
  pub handler : H

-- what is done with one server, act after act
abbrev pub ServerRun : {H : Type 0} → Does H → Stops H → ServerEnd H → List ServerAct → ServerEnd H
    → Type 0
ServerRun does stops old [] new = new ≡ old
ServerRun {H} does stops old (act ∷ acts) new = (mid : ServerEnd H)
    × ServerDoes does stops act old.server old.log old.handler mid.server mid.log mid.handler
    × ServerRun does stops mid acts new

-- the same where it answers nothing
abbrev pub ServerMovesOn : ServerView → List ServerAct → ServerView → Type 0
ServerMovesOn old [] new = new ≡ old
ServerMovesOn old (act ∷ acts) new =
    (mid : ServerView) × ServerMoves act old mid × ServerMovesOn mid acts new

-- ---- the servers

-- the servers, with the handler and the log of one of them
abbrev pub among : {H : Type 0} → List ServerView → ServerEnd H → ServerEnds H
among servers one = record { servers = servers; log = one.log; handler = one.handler }

-- the act is done with the server of connection c, and the other servers stay as they are
pub record ServersDo {H : Type 0} (does : Does H) (stops : Stops H) (c : ℕ) (act : ServerAct)
    (old new : ServerEnds H) : Type 0 where
  pub s : ServerView
  pub at : server_at old.servers c ≡ Some s
  pub s' : ServerView
  pub does_ : ServerDoes does stops act s old.log old.handler s' new.log new.handler
  pub after : new.servers ≡ server_set old.servers c s'

-- ---- connections that are made before anything happens

-- the numbers with which a client and its server are made
pub record Made : Type 0 where
  pub first_id : ℤ
  pub client_window : ℕ
  pub server_window : ℕ

-- each first id is from 1 to the greatest int32
abbrev pub AreMade : (ℕ → Made) → Type 0
AreMade made = (c : ℕ) → (pos 1 ≤ℤ (made c).first_id) × FitsSigned w32 (made c).first_id

-- a client before its first call
abbrev pub first_end : (limit : ℕ) → (ℕ → Made) → ℕ → ClientEnd
first_end limit made c = record {
  client = new_client (made c).first_id (made c).client_window limit;
  records = [];
}

-- servers before their first requests
abbrev pub first_servers : (limit : ℕ) → (ℕ → Made) → ℕ → List ServerView
first_servers limit made zero = []
first_servers limit made (suc k) =
    first_servers limit made k ++ new_server (suc k) (made (suc k)).server_window limit ∷ []

abbrev pub first_servers_of : {H : Type 0} → (limit : ℕ) → (ℕ → Made) → ℕ → H → ServerEnds H
first_servers_of limit made k h =
    record { servers = first_servers limit made k; log = []; handler = h }
