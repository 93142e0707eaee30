-- The laws of the core.
use Rattle.std.specs.Prelude.{◌≡◌, ℕ, pos, false, true, ◌<◌, List, [], ◌∷◌, ◌++◌, Some, None}
use Rattle.wire_msg.specs.{Message}
use Rattle.wire_msg.specs.declared.header.TheConstants.{MAX_MESSAGE_LEN}
use Rattle.wire_msg.specs.declared.payloads.Payload.{Payload}
use Rattle.wire_peer.specs.{LogEntry}
use Rattle.wire_peer.specs.declared.calls.CallNo.{CallNo}
use Rattle.wire_model.specs.{ClientEnd, ClientRun, Made, first_end}
use Rattle.wire_share.specs.{DownSeen, new_downstream}
use Rattle.wire_share.specs.Acts.{AreFit, DownRun, Passes, ShareAct, acts_at, acts_of}
use Rattle.wire_share.specs.Mixing.{IsAmong, NeverMixed}
use Rattle.wire_share.specs.declared.awaited.Awaited.{Awaited}
use Rattle.wire_share.specs.declared.need.Need.TheVariants as needs
use Rattle.wire_share.specs.declared.client.Client.{Client}
use Rattle.wire_share.specs.declared.server.Server.{Server}
use Rattle.wire_share.specs.Cores.{ClosesDown, CoreAct, CoreSeen, Finishes, LosesUp, OpensDown}
use Rattle.wire_share.specs.Cores.{CoreRun, IsPlaced, OpensUp, RunsOut, Shares, begins_in}
use Rattle.wire_share.specs.Cores.{need_in, new_core}
use Rattle.wire_share.specs.Placing.{serves}
use Rattle.wire_share.specs.Routing.{found}

-- the acts of wire_share among these
abbrev pub shared_in : List CoreAct → List ShareAct
shared_in [] = []
shared_in (Shares act ∷ acts) = act ∷ shared_in acts
shared_in (OpensDown d ∷ acts) = shared_in acts
shared_in (ClosesDown d ∷ acts) = shared_in acts
shared_in (OpensUp u use_ ∷ acts) = shared_in acts
shared_in (Finishes u ∷ acts) = shared_in acts
shared_in (LosesUp u ∷ acts) = shared_in acts
shared_in (RunsOut ∷ acts) = shared_in acts

-- ---- what the core keeps

-- Each connection whose reply a client awaits is there, and no number above the last one is used.
pub record IsKept (s : CoreSeen) : Type 0 where
  pub wanted : (d : ℕ) (x : Client) (call : Awaited) → s.downs d ≡ Some x
      → x.downstream.awaited ≡ Some call → (y : Server) × (s.ups call.upstream ≡ Some y)
  pub numbered : (u : ℕ) → s.opened < u → s.ups u ≡ None

-- ---- laws

-- If a request that needs a connection to be kept went over u, each one that went over u is of that
-- one client.
abbrev pub AuthenticatedAlone : List ShareAct → Type 0
AuthenticatedAlone acts =
    (d e u : ℕ) (m n : Message) (p q : Payload) (call other : CallNo) (made told : List LogEntry)
    → IsAmong (Passes d u m p call made) acts → need_in m ≡ needs.Kept
    → IsAmong (Passes e u n q other told) acts → e ≡ d

-- the act is one of them
abbrev pub IsIn : CoreAct → List CoreAct → Type 0
IsIn act acts = (before after : List CoreAct) × (acts ≡ before ++ act ∷ after)

-- no client awaits a reply of a connection that was lost
abbrev pub Told : List CoreAct → CoreSeen → Type 0
Told acts now =
    (u d : ℕ) (x : Client) (call : Awaited) → IsIn (LosesUp u) acts
    → now.downs d ≡ Some x → x.downstream.awaited ≡ Some call → call.upstream ≡ u → ⊥

-- ---- the ends

-- the client of an upstream is made with these numbers
abbrev pub own_made : ℕ → Made
own_made u = record { first_id = pos 1; client_window = 1024; server_window = 1024 }

-- What was done at each end, from its beginning: at each client, and at each connection to the
-- server, whether it is there now or is gone.
pub record AreEnds (acts : List ShareAct) (now : CoreSeen) (downs : ℕ → DownSeen)
    (ends : ℕ → ClientEnd) : Type 0 where
  pub fit : AreFit acts
  pub below : (d : ℕ) → DownRun (new_downstream d) (acts_at acts d) (downs d)
  pub above : (u : ℕ) → ClientRun u (first_end MAX_MESSAGE_LEN own_made u) (acts_of acts u) (ends u)
  pub here : (d : ℕ) (x : Client) → now.downs d ≡ Some x → x.downstream ≡ downs d
  pub there : (u : ℕ) (y : Server) → now.ups u ≡ Some y → y.upstream.client ≡ (ends u).client

-- answers are never mixed
pub record Unmixed (acts : List ShareAct) (now : CoreSeen) : Type 0 where
  pub downs : ℕ → DownSeen
  pub ends : ℕ → ClientEnd
  pub are_ends : AreEnds acts now downs ends
  pub never : NeverMixed acts ends

-- ---- routes

-- Each request that goes over a connection is where it may be, as the acts before it left all: over
-- the one that its client keeps; or else over the one where the routes say that its cursor or its
-- transaction lives, if that is there and serves it.
abbrev pub Routed : List CoreAct → Type 0
Routed acts =
    (before after : List CoreAct) (d u : ℕ) (m : Message) (p : Payload) (call : CallNo)
    (made : List LogEntry) → acts ≡ before ++ Shares (Passes d u m p call made) ∷ after
    → (s : CoreSeen) × CoreRun new_core before s × IsPlaced s d u m

-- Where the routes tell of such a connection, the request goes over that.
abbrev pub GoesThere : Type 0
GoesThere =
    (s : CoreSeen) (d u v : ℕ) (m : Message) (x : Client) (y : Server) → IsPlaced s d u m
    → s.downs d ≡ Some x → x.kept ≡ None → begins_in m ≡ false
    → found s.routes (need_in m) ≡ Some v → s.ups v ≡ Some y → serves (need_in m) d y.used ≡ true
    → u ≡ v

-- ---- all laws

-- Some acts led to this state from the beginning, and keep all laws.
pub record LawfulRun (now : CoreSeen) : Type 0 where
  pub acts : List CoreAct
  pub run : CoreRun new_core acts now
  pub alone : AuthenticatedAlone (shared_in acts)
  pub kept : IsKept now
  pub told : Told acts now
  pub unmixed : Unmixed (shared_in acts) now
  pub routed : Routed acts

abbrev pub IsLawful : CoreSeen → Type 0
IsLawful now = ∥ LawfulRun now ∥₁
