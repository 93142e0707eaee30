-- Requests that are passed on, and those that wait.
use Rattle.std.specs.Prelude.{◌≡◌, ℕ, ◌||◌, Bool, true, false, List, Option, Some, None, nat_eq}
use Rattle.indexmap.specs.IndexMap.{get}
use Rattle.wire_msg.specs.{Message}
use Rattle.wire_msg.specs.declared.payloads.Payload.{Payload}
use Rattle.wire_peer.specs.{LogEntry}
use Rattle.wire_peer.specs.declared.calls.CallNo.{CallNo}
use Rattle.wire_share.specs.Acts.{Passes}
use Rattle.wire_share.specs.Cores.{CoreAct, CoreDoes, CoreRun, CoreSeen, Finishes, LosesUp, OpensUp}
use Rattle.wire_share.specs.Cores.{Shares}
use Rattle.wire_share.specs.Running.{seen}
use Rattle.wire_share.specs.Sharing.{Waits}
use Rattle.wire_share.specs.declared.awaited.Awaited.{Awaited}
use Rattle.wire_share.specs.declared.client.Client as connections
use Rattle.wire_share.specs.declared.shared_core.Core.{Core}
use Rattle.shared_proxy.specs.Closing.{AreAll, Closes, IsClosed}
use Rattle.shared_proxy.specs.Queues.{is_behind, is_full}
use Rattle.shared_proxy.specs.declared.client.Client.{Client}
use Rattle.shared_proxy.specs.declared.server.Server.{Server}
use Rattle.shared_proxy.specs.declared.servers.Servers.{Servers}
use Rattle.shared_proxy.specs.declared.sharing.Sharing.{Sharing}

-- This request of the client is to be passed on: the client is open and awaits no reply, and all
-- that was to be sent to it was sent.
abbrev pub Asks : CoreSeen → (number : ℕ) → Message → Type 0
Asks s number m =
    (x : connections.Client) × (s.downs number ≡ Some x) × Waits x.downstream m

-- A request of the client was passed on over this connection, and nothing else was done.
pub record GoesOver (number upstream : ℕ) (old new : Core) : Type 0 where
  pub m : Message
  pub payload : Payload
  pub call : CallNo
  pub made : List LogEntry
  pub passes : CoreDoes (Shares (Passes number upstream m payload call made)) (seen old) (seen new)

-- No request of the client is to be passed on, and nothing was done.
pub record NoneAsks (number : ℕ) (old new : Core) : Type 0 where
  pub none : (m : Message) → Asks (seen old) number m → ⊥
  pub same : seen new ≡ seen old

-- What became of the request of a client at this connection: it was passed on over that; or there
-- was none, and nothing was done; or the client was closed.
pub data Went (number upstream : ℕ) (old new : Sharing) : Type 0 where
  went_over : GoesOver number upstream old.core new.core → Went number upstream old new
  none_asked : NoneAsks number old.core new.core → Went number upstream old new
  was_closed : IsClosed number old new → Went number upstream old new

-- The request of a client waits for this connection, and it has to: that is full, or the first one
-- that waits for it is another client's.
pub record IsBlocked (number upstream : ℕ) (now : Sharing) : Type 0 where
  pub client : Client
  pub client_at : get nat_eq now.clients.map number ≡ Some client
  pub waits_at : client.waits_at ≡ Some upstream
  pub server : Server
  pub server_at : get nat_eq now.servers.map upstream ≡ Some server
  pub has_to : (is_full now.core upstream || is_behind number server.blocked.items) ≡ true

-- ---- a place

-- a connection to the server is opened or let go of
abbrev pub is_placing : CoreAct → Bool
is_placing (OpensUp u use_) = true
is_placing (Finishes u) = true
is_placing (LosesUp u) = true
is_placing act = false

-- Connections to the server were opened and let go of, and nothing else was done.
pub record Places (old new : Core) : Type 0 where
  pub acts : List CoreAct
  pub placings : AreAll is_placing acts
  pub run : CoreRun (seen old) acts (seen new)

-- Once there was a place for it, a request of the client was passed on, over one connection.
pub record PassesOn (number : ℕ) (old new : Core) : Type 0 where
  pub placed : Core
  pub before : Places old placed
  pub upstream : ℕ
  pub over : GoesOver number upstream placed new

-- Where there was no place for its request, or it can't be passed on there, the client was closed.
pub record IsRefused (number : ℕ) (old new : Sharing) : Type 0 where
  pub placed : Core
  pub before : Places old.core placed
  pub closes : Closes number placed new.core
  pub gone : get nat_eq new.clients.map number ≡ None

-- ---- who awaits a reply

-- the client awaits the reply to this call
abbrev pub AwaitsCall : Core → (number : ℕ) → Awaited → Type 0
AwaitsCall core number call =
    (x : connections.Client) × ((seen core).downs number ≡ Some x)
    × (x.downstream.awaited ≡ Some call)

-- it is noted at the connection, if that is there, that this client awaits the reply to this call
abbrev pub IsNoted : (call number upstream : ℕ) → Servers → Type 0
IsNoted call number upstream now =
    (server : Server) → get nat_eq now.map upstream ≡ Some server
    → get nat_eq server.callers call ≡ Some number
