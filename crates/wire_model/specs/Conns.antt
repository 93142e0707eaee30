-- A world: its pool, its connections, each with its two ends, the records of the calls, and one
-- log.
use Rattle.std.specs.Prelude.{ℕ, zero, suc, pos, ◌≤ℤ◌, FitsSigned, Bool, true, false, if◌then◌else◌}
use Rattle.std.specs.Prelude.{Option, None, Some, List, [], ◌∷◌, ◌++◌, map, slice_get, slice_set}
use Rattle.std.specs.Int.{w32}
use Rattle.wire_msg.specs.{Content}
use Rattle.wire_pool.specs.{IsPoolMax, PoolSeen, new_pool}
use Rattle.wire_peer.specs.{Asked, ClientSeen, IsLimit, IsWindow, LogEntry, ServerView, new_client}
use Rattle.wire_peer.specs.{new_server}
use Rattle.wire_peer.specs.declared.client_state.ClientCause.TheVariants as client_causes
use Rattle.wire_peer.specs.declared.client_state.ClientState.{ClientState}
use Rattle.wire_peer.specs.declared.client_state.ClientState.TheVariants.{Open, Closed}
use Rattle.wire_model.specs.declared.limits.WorldLimits.{WorldLimits}
use Rattle.wire_model.specs.Machines.{State, Pending, Done, Sent, lost_state}

-- a call, as its caller sees it
pub record Record : Type 0 where
  pub connection : ℕ
  pub asked : Asked
  pub parts : List Content
  pub state : State

-- A connection: its two ends, its client's calls in order, each by its index among the world's
-- calls, and which ways are cut. A raw connection has no client of ours: in its place is one that
-- was closed from the start and has no output.
pub record Conn : Type 0 where
  pub raw : Bool
  pub client : ClientSeen
  pub server : ServerView
  pub calls : List ℕ
  pub up_cut : Bool
  pub down_cut : Bool

-- The pool, the connections, the calls, the log and the handler.
pub record World (H : Type 0) : Type 0 where
  pub pool : PoolSeen
  pub conns : List Conn
  pub calls : List Record
  pub log : List LogEntry
  pub handler : H

-- a world in which nothing has happened
abbrev pub opening : {H : Type 0} → WorldLimits → H → World H
opening l h =
    record { pool = new_pool l.connections; conns = []; calls = []; log = []; handler = h }

-- ---- connections, numbered from 1

-- the connection with this number
abbrev pub conn_at : List Conn → ℕ → Option Conn
conn_at ks zero = None
conn_at ks (suc i) = slice_get ks i

abbrev pub conn_set : List Conn → ℕ → Conn → List Conn
conn_set ks zero k = ks
conn_set ks (suc i) k = slice_set ks i k

abbrev pub with_conn : {H : Type 0} → World H → ℕ → Conn → World H
with_conn w c k = record w { conns = conn_set w.conns c k }

abbrev pub new_conn : WorldLimits → ℕ → Conn
new_conn l c = record {
  raw = false;
  client = new_client l.first_id l.window l.limit;
  server = new_server c l.window l.limit;
  calls = [];
  up_cut = false;
  down_cut = false;
}

-- the client of a raw connection: closed from the start
abbrev pub no_client : (window limit : ℕ) → ClientSeen
no_client window limit =
    record (new_client (pos 1) window limit) { state = Closed client_causes.Ended }

abbrev pub new_raw_conn : WorldLimits → ℕ → Conn
new_raw_conn l c = record {
  raw = true;
  client = no_client l.window l.limit;
  server = new_server c l.window l.limit;
  calls = [];
  up_cut = false;
  down_cut = false;
}

-- ---- records

-- the record of a new call: sent if it is unacknowledged, and else pending
abbrev pub new_record : ℕ → Asked → Record
new_record c a =
    record
    { connection = c; asked = a; parts = []; state = if a.more_to_come then Sent else Pending }

-- the record with one more part; with the last part the call is done
abbrev pub given_record : Record → Content → Bool → Record
given_record x part last =
    record {
      connection = x.connection;
      asked = x.asked;
      parts = x.parts ++ part ∷ [];
      state = if last then Done else x.state;
    }

abbrev pub lost_record : Record → Record
lost_record x =
    record
    { connection = x.connection; asked = x.asked; parts = x.parts; state = lost_state x.state }

abbrev pub is_closed : ClientState → Bool
is_closed Open = false
is_closed (Closed cause) = true

abbrev pub has_closed_client : Option Conn → Bool
has_closed_client None = false
has_closed_client (Some k) = is_closed k.client.state

-- a pending call is lost when its client is closed
abbrev pub settled_record : List Conn → Record → Record
settled_record ks x = if has_closed_client (conn_at ks x.connection) then lost_record x else x

abbrev pub settled : {H : Type 0} → World H → World H
settled w = record w { calls = map (settled_record w.conns) w.calls }

-- ---- limits

-- each of a world's limits is within its range
pub record AreGood (l : WorldLimits) : Type 0 where
  pub first_id : pos 1 ≤ℤ l.first_id
  pub first_fits : FitsSigned w32 l.first_id
  pub window_is : IsWindow l.window
  pub limit_is : IsLimit l.limit
  pub max_is : IsPoolMax l.connections
