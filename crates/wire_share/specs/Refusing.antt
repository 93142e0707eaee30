-- Why nothing is done with the core that was asked for.
use Rattle.std.specs.Prelude.{◌≡◌, ◌≢◌, ℕ, Some, Result, Ok, Err}
use Rattle.wire_msg.specs.{Message}
use Rattle.wire_peer.specs.{WaitsAt}
use Rattle.wire_peer.specs.declared.call_table.ReadyReply.{ReadyReply}
use Rattle.wire_serve.specs.{state_of}
use Rattle.wire_serve.specs.declared.cause.ConnState.TheVariants as conn_states
use Rattle.wire_share.specs.{PassStep}
use Rattle.wire_share.specs.Sharing.{Awaits}
use Rattle.wire_share.specs.Routing.{RoutesSeen}
use Rattle.wire_share.specs.Cores.{CoreSeen, IsPlaced}
use Rattle.wire_share.specs.declared.client.Client.{Client}
use Rattle.wire_share.specs.declared.server.Server.{Server}
use Rattle.wire_share.specs.declared.refusals.GiveRefusal.{GiveRefusal}
use Rattle.wire_share.specs.declared.refusals.GiveRefusal.TheVariants as given
use Rattle.wire_share.specs.declared.refusals.PassRefusal.{PassRefusal}
use Rattle.wire_share.specs.declared.steps.PassFault.{PassFault}
use Rattle.wire_share.specs.declared.steps.PassFault.TheVariants as faults

-- this request of the client waits
abbrev pub AsksFor : CoreSeen → (d : ℕ) → Message → Type 0
AsksFor s d m = (x : Client) × (s.downs d ≡ Some x) × WaitsAt x.downstream.conn.server 0 m

-- No request of client d is passed on over connection u, for this fault: it may not go there, or
-- none waits; or that is refused, as `PassStep` says. Nothing changes then. Or memory ran out.
abbrev pub PassFails : PassFault → (d u : ℕ) → CoreSeen → CoreSeen → Type 0
PassFails faults.Elsewhere d u old new =
    (new ≡ old) × ((m : Message) → AsksFor old d m → IsPlaced old d u m → ⊥)
PassFails (faults.Refused refusal) d u old new =
    (new ≡ old) × (x : Client) × (y : Server) × (old.downs d ≡ Some x) × (old.ups u ≡ Some y)
    × PassStep (Err refusal) x.downstream y.upstream x.downstream y.upstream
PassFails faults.OutOfMemory d u old new = Unit {0}

-- the fault of a request that was not passed on, and had this result
abbrev pub refused_as : Result (Unit {0}) PassRefusal → PassFault
refused_as (Ok _) = faults.Elsewhere
refused_as (Err refusal) = faults.Refused refusal

-- What a reply tells isn't noted, for this refusal: the client awaits none that is ready there, or
-- no request of it waits; or it is closed; or memory ran out.
abbrev pub FollowFails : GiveRefusal → Client → Server → RoutesSeen → RoutesSeen → Type 0
FollowFails given.NotAwaited x y old new =
    (new ≡ old) × ((reply : ReadyReply) (m : Message) → Awaits x.downstream y.upstream reply
    → WaitsAt x.downstream.conn.server 0 m → ⊥)
FollowFails given.Closed x y old new =
    (new ≡ old) × (state_of x.downstream.conn ≢ conn_states.Open)
FollowFails given.OutOfMemory x y old new = Unit {0}

-- No reply of connection u is given to client d, for this refusal: it awaits none that is ready
-- there, or no request of it waits; or it is closed. Nothing changes then. Or memory ran out.
abbrev pub GiveFails : GiveRefusal → (d u : ℕ) → CoreSeen → CoreSeen → Type 0
GiveFails given.NotAwaited d u old new =
    (new ≡ old) × ((x : Client) (y : Server) (reply : ReadyReply) (m : Message)
    → old.downs d ≡ Some x → old.ups u ≡ Some y → Awaits x.downstream y.upstream reply
    → WaitsAt x.downstream.conn.server 0 m → ⊥)
GiveFails given.Closed d u old new =
    (new ≡ old) × (x : Client) × (old.downs d ≡ Some x)
    × (state_of x.downstream.conn ≢ conn_states.Open)
GiveFails given.OutOfMemory d u old new = Unit {0}
