-- Connections whose two ends are apart: a client here, a server there, and bytes in flight between
-- them. Each step is one public call at one end, or a cut.
use Rattle.std.specs.Prelude.{◌≡◌, ℕ, zero, suc, ◌-◌, ◌<◌, ◌≤◌, Bool, true, false, ◌==◌}
use Rattle.std.specs.Prelude.{if◌then◌else◌, Option, None, Some, List, [], ◌∷◌, ◌++◌, length, map}
use Rattle.std.specs.Prelude.{slice_get, slice_set, take, drop, Result, ℤ, pos, ◌≤ℤ◌, FitsSigned}
use Rattle.std.specs.Int.{w32}
use Rattle.wire_msg.specs.{Content, Message, SpellsMsg}
use Rattle.wire_msg.specs.declared.payloads.Payload.{Payload}
use Rattle.wire_peer.specs.{AnswerStep, ClientSeen, Does, IsCalled, LogEntry, MayTake, ServerView}
use Rattle.wire_peer.specs.{Stops, Takes, TakesBytes, called, content_of, ended, new_client}
use Rattle.wire_peer.specs.{new_server, released}
use Rattle.wire_peer.specs.declared.call_table.ReadyReply.{ReadyReply}
use Rattle.wire_peer.specs.declared.calls.CallKind.{CallKind}
use Rattle.wire_peer.specs.declared.calls.CallNo.{CallNo}
use Rattle.wire_peer.specs.declared.server_state.AnswerRefusal.{AnswerRefusal}
use Rattle.wire_peer.specs.declared.server_state.ServerState.TheVariants as servers
use Rattle.wire_model.specs.Happening.{AreContents}
use Rattle.wire_model.specs.Conns.{Record, new_record}
use Rattle.wire_model.specs.Machines.{asked_as, lost_state}
use Rattle.wire_model.specs.Cuts.{ended_server}
use Rattle.wire_model.specs.Moves.{put_at, with_client_output, with_server_output}

-- ---- what there is

-- One way of a connection: the bytes in flight, in order; and, if it is cut, how many of them still
-- arrive.
pub record Way : Type 0 where
  pub bytes : List ℕ
  pub left : Option ℕ

-- A client, a server, and the two ways between them; for each call of the client, by its number,
-- the index of its record; and whether each end was told that no more bytes come.
pub record Pair : Type 0 where
  pub client : ClientSeen
  pub server : ServerView
  pub calls : List ℕ
  pub up : Way
  pub down : Way
  pub server_told : Bool
  pub client_told : Bool

-- the pairs; the records of all calls, as the owners of the clients keep them; and one handler with
-- its log
pub record System (H : Type 0) : Type 0 where
  pub pairs : List Pair
  pub calls : List Record
  pub log : List LogEntry
  pub handler : H

-- a system without pairs, calls and entries
abbrev pub no_pairs : {H : Type 0} → H → System H
no_pairs h = record { pairs = []; calls = []; log = []; handler = h }

-- ---- pairs, numbered from 1

-- the pair with this number
abbrev pub pair_at : List Pair → ℕ → Option Pair
pair_at ps zero = None
pair_at ps (suc i) = slice_get ps i

abbrev pub pair_set : List Pair → ℕ → Pair → List Pair
pair_set ps zero p = ps
pair_set ps (suc i) p = slice_set ps i p

abbrev pub with_pair : {H : Type 0} → System H → ℕ → Pair → System H
with_pair s c p = record s { pairs = pair_set s.pairs c p }

abbrev pub idle_way : Way
idle_way = record { bytes = []; left = None }

-- a client and a server before their first call
abbrev pub new_pair : (c limit : ℕ) (first_id : ℤ) (client_window server_window : ℕ) → Pair
new_pair c limit first_id client_window server_window = record {
  client = new_client first_id client_window limit;
  server = new_server c server_window limit;
  calls = [];
  up = idle_way;
  down = idle_way;
  server_told = false;
  client_told = false;
}

abbrev pub paired : {H : Type 0} → System H → Pair → System H
paired s p = record { pairs = s.pairs ++ p ∷ []; calls = s.calls; log = s.log; handler = s.handler }

-- ---- ways

-- the way with these bytes in flight after the others
abbrev pub put_in : Way → List ℕ → Way
put_in w bytes = record { bytes = w.bytes ++ bytes; left = w.left }

-- n more bytes can still arrive
abbrev pub Comes : Option ℕ → ℕ → Type 0
Comes None n = Unit {0}
Comes (Some left) n = n ≤ left

abbrev pub fewer : Option ℕ → ℕ → Option ℕ
fewer None n = None
fewer (Some left) n = Some (left - n)

-- a piece of the bytes in flight arrived, and its first n bytes were taken
pub record Taken (old : Way) (piece : List ℕ) (n : ℕ) (new : Way) : Type 0 where
  pub rest : List ℕ
  pub first : old.bytes ≡ piece ++ rest
  pub comes : Comes old.left (length piece)
  pub within : n ≤ length piece
  pub after : new ≡ record { bytes = drop n piece ++ rest; left = fewer old.left n }

-- The way is cut: only the first n of the bytes in flight still arrive, and none that are put in
-- later.
pub record IsCut (old : Way) (n : ℕ) (new : Way) : Type 0 where
  pub comes : Comes old.left n
  pub within : n ≤ length old.bytes
  pub after : new ≡ record { bytes = old.bytes; left = Some n }

-- ---- what a step leaves of a pair

-- the first n bytes of the client's output were sent
abbrev pub client_sent : Pair → ℕ → Pair
client_sent p n = record p {
  client = with_client_output p.client (drop n p.client.requests.output);
  up = put_in p.up (take n p.client.requests.output);
}

abbrev pub server_sent : Pair → ℕ → Pair
server_sent p n = record p {
  server = with_server_output p.server (drop n p.server.output);
  down = put_in p.down (take n p.server.output);
}

abbrev pub server_ended : Pair → Pair
server_ended p = record p { server = ended_server p.server; server_told = true }

abbrev pub client_ended : Pair → Pair
client_ended p = record p { client = ended p.client; client_told = true }

-- ---- what a step leaves of the system

-- the system after the client made a call, whose record is the last one
abbrev pub issued : {H : Type 0} → System H → ℕ → Pair → CallKind → Content → CallNo → System H
issued s c p kind payload number = record {
  pairs = pair_set s.pairs c (record p {
    client = called p.client kind payload number;
    calls = p.calls ++ length s.calls ∷ [];
  });
  calls = s.calls ++ new_record c (asked_as kind payload) ∷ [];
  log = s.log;
  handler = s.handler;
}

-- the system after an answer, with the server, the handler and the log that it left
abbrev pub answered : {H : Type 0} → System H → ℕ → Pair → ServerView → H → List LogEntry → System H
answered s c p server handler log = record {
  pairs = pair_set s.pairs c (record p { server = server });
  calls = s.calls;
  log = log;
  handler = handler;
}

-- the system after the ready reply went into the record of its call, and was released
abbrev pub collected : {H : Type 0} → System H → ℕ → Pair → ReadyReply → Content → System H
collected s c p reply part = record {
  pairs = pair_set s.pairs c (record p { client = released p.client });
  calls = put_at (slice_get p.calls reply.call) part reply.last s.calls;
  log = s.log;
  handler = s.handler;
}

-- the record, in which a pending call of this connection is lost
abbrev pub lost_at : ℕ → Record → Record
lost_at c x = record {
  connection = x.connection;
  asked = x.asked;
  parts = x.parts;
  state = if x.connection == c then lost_state x.state else x.state;
}

abbrev pub given_up : {H : Type 0} → System H → ℕ → Pair → System H
given_up s c p = record s {
  pairs = pair_set s.pairs c (client_ended p);
  calls = map (lost_at c) s.calls;
}

-- ---- the steps

module _ (H : Type 0) (does : Does H) (stops : Stops H) (limit : ℕ) where
  pub data Step (old new : System H) : Type 0 where
    -- a client and a server are made, with this limit on messages, and two ways between them
    pairs : (first_id : ℤ) (client_window server_window : ℕ) → pos 1 ≤ℤ first_id
        → FitsSigned w32 first_id
        → new ≡ paired old
        (new_pair (suc (length old.pairs)) limit first_id client_window server_window)
        → Step old new
    -- the client makes a call
    calls : (c : ℕ) (p : Pair) (kind : CallKind) (payload : Payload) (number : CallNo)
        → pair_at old.pairs c ≡ Some p
        → IsCalled p.client kind (content_of payload) number
        → new ≡ issued old c p kind (content_of payload) number → Step old new
    -- the client's first n bytes are sent
    sends_up : (c : ℕ) (p : Pair) (n : ℕ) → pair_at old.pairs c ≡ Some p
        → n ≤ length p.client.requests.output → new ≡ with_pair old c (client_sent p n)
        → Step old new
    -- the server is fed a piece that arrived, and takes n bytes
    feeds_up : (c : ℕ) (p : Pair) (piece : List ℕ) (n : ℕ) (server : ServerView) (way : Way)
        → pair_at old.pairs c ≡ Some p
        → p.server.state ≡ servers.Open → length p.server.waiting < p.server.window
        → TakesBytes p.server piece n server → Taken p.up piece n way
        → new ≡ with_pair old c (record p { server = server; up = way }) → Step old new
    -- the server answers a request that waits, or refuses to
    answers : (c : ℕ) (p : Pair) (i : ℕ) (result : Result ℕ AnswerRefusal) (server : ServerView)
        (handler : H) (log : List LogEntry) → pair_at old.pairs c ≡ Some p
        → AnswerStep does stops i result p.server old.handler old.log server handler log
        → AreContents log
        → new ≡ answered old c p server handler log → Step old new
    -- the server's first n bytes are sent
    sends_down : (c : ℕ) (p : Pair) (n : ℕ) → pair_at old.pairs c ≡ Some p
        → n ≤ length p.server.output → new ≡ with_pair old c (server_sent p n) → Step old new
    -- the client is fed a piece that arrived, and takes n bytes
    feeds_down : (c : ℕ) (p : Pair) (piece : List ℕ) (n : ℕ) (client : ClientSeen) (way : Way)
        → pair_at old.pairs c ≡ Some p
        → MayTake p.client → Takes p.client piece n client → Taken p.down piece n way
        → new ≡ with_pair old c (record p { client = client; down = way }) → Step old new
    -- the client's owner collects the reply that is ready
    collects : (c : ℕ) (p : Pair) (reply : ReadyReply) (m : Message)
        → pair_at old.pairs c ≡ Some p → p.client.reply ≡ Some reply → SpellsMsg m p.client.held
        → new ≡ collected old c p reply m.content → Step old new
    -- an end is told that no more bytes come: the server, or the client
    ends_up : (c : ℕ) (p : Pair) → pair_at old.pairs c ≡ Some p
        → new ≡ with_pair old c (server_ended p) → Step old new
    ends_down : (c : ℕ) (p : Pair) → pair_at old.pairs c ≡ Some p → new ≡ given_up old c p
        → Step old new
    -- a way is cut, and neither end is told
    cuts_up : (c : ℕ) (p : Pair) (n : ℕ) (way : Way) → pair_at old.pairs c ≡ Some p
        → IsCut p.up n way → new ≡ with_pair old c (record p { up = way }) → Step old new
    cuts_down : (c : ℕ) (p : Pair) (n : ℕ) (way : Way) → pair_at old.pairs c ≡ Some p
        → IsCut p.down n way → new ≡ with_pair old c (record p { down = way }) → Step old new

  -- steps lead from the first system to the last one
  pub data Steps (first : System H) : System H → Type 0 where
    stay : Steps first first
    go : {mid last : System H} → Steps first mid → Step mid last → Steps first last

-- steps lead from the first system to the last one, with this limit on messages
abbrev pub Trace : {H : Type 0} → Does H → Stops H → ℕ → System H → System H → Type 0
Trace {H} does stops limit first last = Steps H does stops limit first last
