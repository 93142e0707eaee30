-- A connection, as a world sees it.
use Rattle.std.specs.Prelude.{◌≡◌, ℕ, ◌&&◌, not, Bool, true, false, List, Option, Some, None}
use Rattle.wire_peer.specs.{ClientSeen, ServerView}
use Rattle.wire_peer.specs.declared.client_state.ClientState.TheVariants.{Open}
use Rattle.wire_peer.specs.declared.server_state.ServerCause.TheVariants.{ReplyTooLarge, NoMemory}
use Rattle.wire_peer.specs.declared.server_state.ServerCause.TheVariants.{HandlerFailed}
use Rattle.wire_peer.specs.declared.server_state.ServerState.{ServerState}
use Rattle.wire_peer.specs.declared.server_state.ServerState.TheVariants as servers
use Rattle.wire_model.specs.{Conn, is_empty, no_client}

-- the connection with these parts; without a client it is raw
abbrev pub conn_of : Option ClientSeen → ServerView → List ℕ → (up_cut down_cut : Bool) → Conn
conn_of None server calls up_cut down_cut =
    record {
      raw = true;
      client = no_client server.window server.limit;
      server = server;
      calls = calls;
      up_cut = up_cut;
      down_cut = down_cut;
    }
conn_of (Some client) server calls up_cut down_cut =
    record {
      raw = false;
      client = client;
      server = server;
      calls = calls;
      up_cut = up_cut;
      down_cut = down_cut;
    }

-- an open client has no reply ready
abbrev pub IsReleased : Option ClientSeen → Type 0
IsReleased None = Unit {0}
IsReleased (Some client) = client.state ≡ Open → client.reply ≡ None

-- an answer closed the server
abbrev pub is_stopped : ServerState → Bool
is_stopped (servers.Closed ReplyTooLarge) = true
is_stopped (servers.Closed NoMemory) = true
is_stopped (servers.Closed HandlerFailed) = true
is_stopped s = false

-- neither way of the connection is cut, no answer closed its server, nothing is on the ways, and no
-- request waits
abbrev pub is_quiet : Conn → Bool
is_quiet k =
    not k.up_cut
    && (not k.down_cut
    && (not (is_stopped k.server.state)
    && (is_empty k.client.requests.output
    && (is_empty k.server.output && is_empty k.server.waiting))))
