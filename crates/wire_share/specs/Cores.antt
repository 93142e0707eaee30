-- What a caller sees of the core, and what is done with it, act by act.
use Rattle.std.specs.Prelude.{◌≡◌, ◌⊎◌, ℕ, ℤ, ◌+◌, ◌==◌, true, false, Bool, if◌then◌else◌}
use Rattle.std.specs.Prelude.{List, [], ◌∷◌, ◌++◌, map, Option, Some, None, is_some, nat_eq}
use Rattle.indexmap.specs.IndexMap.{get}
use Rattle.bson_elem.specs.{IsBytes, Tree}
use Rattle.wire_msg.specs.{Message}
use Rattle.wire_peer.specs.{content_of}
use Rattle.wire_model.specs.{Record, asked_as, lost_record, new_record, put_at}
use Rattle.wire_model.specs.{ClientAct}
use Rattle.wire_model.specs.Owners as owners
use Rattle.wire_share.specs.declared.awaited.Awaited.{Awaited}
use Rattle.wire_share.specs.declared.need.Need.{Need}
use Rattle.wire_share.specs.declared.need.SessionId.{SessionId}
use Rattle.wire_share.specs.{UpSeen, new_downstream, new_upstream}
use Rattle.wire_share.specs.Acts.{DownAct, DownDoes, Gives, IsFit}
use Rattle.wire_share.specs.Acts.{Passes, ShareAct, TakesUp, act_at, act_of}
use Rattle.wire_share.specs.Needs.{begun_by, command_in, need_of}
use Rattle.wire_share.specs.Routing.{RoutesSeen, after_begin, after_loss, after_reply, found}
use Rattle.wire_share.specs.Routing.{no_routes, without_begin, without_cursor}
use Rattle.wire_share.specs.declared.client.Client.{Client}
use Rattle.wire_share.specs.declared.state.State.{State}
use Rattle.wire_share.specs.declared.server.Server.{Server}
use Rattle.wire_share.specs.declared.placing.Place.{Place}
use Rattle.wire_share.specs.declared.placing.Place.TheVariants as places
use Rattle.wire_share.specs.declared.uses.Use.{Use}
use Rattle.wire_share.specs.declared.uses.Use.TheVariants as used
use Rattle.wire_share.specs.Placing.{home, is_home, serves, used_up}

-- The clients and the connections to the server, by their numbers, where cursors and transactions
-- live, and how many of both there were.
pub record CoreSeen : Type 0 where
  pub downs : ℕ → Option Client
  pub ups : ℕ → Option Server
  pub routes : RoutesSeen
  pub accepted : ℕ
  pub opened : ℕ

abbrev pub new_core : CoreSeen
new_core = record {
  downs = λ d. None;
  ups = λ u. None;
  routes = no_routes;
  accepted = 0;
  opened = 0;
}

-- what is seen of a core
abbrev pub core_seen : State → CoreSeen
core_seen s = record {
  downs = λ d. get nat_eq s.downs d;
  ups = λ u. get nat_eq s.ups u;
  routes = s.routes;
  accepted = s.accepted;
  opened = s.opened;
}

abbrev pub new_client : ℕ → Client
new_client d = record { downstream = new_downstream d; kept = None }

abbrev pub new_server : ℕ → Use → Server
new_server u use_ = record { upstream = new_upstream u; used = use_ }

-- An act with the core: one of wire_share; a client is accepted, or closed; a connection to the
-- server is opened for this use, is used no more, or is lost; or memory runs out.
pub data CoreAct : Type 0 where
  Shares : (act : ShareAct) → CoreAct
  OpensDown : (d : ℕ) → CoreAct
  ClosesDown : (d : ℕ) → CoreAct
  OpensUp : (u : ℕ) → (use_ : Use) → CoreAct
  Finishes : (u : ℕ) → CoreAct
  LosesUp : (u : ℕ) → CoreAct
  RunsOut : CoreAct

-- ---- the ends

-- the value at a number is this one, and each other stays
abbrev pub Puts : {A : Type 0} → (ℕ → A) → ℕ → A → (ℕ → A) → Type 0
Puts old k value new = (j : ℕ) → new j ≡ (if k == j then value else old j)

-- the records of an upstream's calls, once its client does this
abbrev pub recorded : ℕ → ClientAct → List Record → List Record
recorded u (owners.Calls kind payload number) records =
    records ++ new_record u (asked_as kind (content_of payload)) ∷ []
recorded u (owners.SendsUp bytes) records = records
recorded u (owners.TakesDown bytes) records = records
recorded u (owners.Collects reply m) records =
    put_at (Some reply.call) m.content reply.last records
recorded u owners.EndsDown records = map lost_record records

-- an upstream's client does this, whatever is recorded of its calls
abbrev pub UpDoes : ℕ → ClientAct → UpSeen → UpSeen → Type 0
UpDoes u act old new = (new.number ≡ old.number) × ((records : List Record)
    → owners.ClientDoes u act (record { client = old.client; records = records })
    (record { client = new.client; records = recorded u act records }))

-- how a connection is used once its client does this
abbrev pub used_by : ClientAct → Use → Use
used_by (owners.Calls kind payload number) use_ = used_up use_
used_by act use_ = use_

-- what an act is to a client, and to a connection to the server; none, and it stays
abbrev pub DownPart : Option DownAct → Option Client → Option Client → Type 0
DownPart None old new = new ≡ old
DownPart (Some act) old new =
    (x y : Client) × (old ≡ Some x) × (new ≡ Some y)
    × DownDoes act x.downstream y.downstream × (y.kept ≡ x.kept)

abbrev pub UpPart : ℕ → Option ClientAct → Option Server → Option Server → Type 0
UpPart u None old new = new ≡ old
UpPart u (Some act) old new =
    (x y : Server) × (old ≡ Some x) × (new ≡ Some y)
    × UpDoes u act x.upstream y.upstream × (y.used ≡ used_by act x.used)

-- ---- over which connection

-- the command of a request
abbrev pub command_of : Message → Tree
command_of m = command_in m.content.body

-- what a request needs, and whether a transaction begins with it
abbrev pub need_in : Message → Need
need_in m = need_of (command_of m)

abbrev pub begins_in : Message → Bool
begins_in m = is_some (begun_by (command_of m))

-- The request of client d may go over connection u: that serves it, and is the one where it has to
-- go, if there is one.
pub record IsPlaced (s : CoreSeen) (d u : ℕ) (m : Message) : Type 0 where
  pub client : Client
  pub client_at : s.downs d ≡ Some client
  pub server : Server
  pub server_at : s.ups u ≡ Some server
  pub serves_ : serves (need_in m) d server.used ≡ true
  pub goes_home : is_home (home s.ups (need_in m) (begins_in m) d client.kept
      (found s.routes (need_in m))) u ≡ true

-- the one connection where the request of this client has to go, if there is one
abbrev pub home_of : CoreSeen → (d : ℕ) → Message → Client → Option ℕ
home_of s d m x =
    home s.ups (need_in m) (begins_in m) d x.kept (found s.routes (need_in m))

-- The request may go over this connection; or over a new one, used so, as it has no home; or it may
-- not go to its home, which is gone, and so nowhere.
abbrev pub IsPlace : CoreSeen → (d : ℕ) → Message → Place → Type 0
IsPlace s d m (places.At u) = IsPlaced s d u m
IsPlace s d m (places.New use_) =
    (x : Client) × (s.downs d ≡ Some x) × (serves (need_in m) d use_ ≡ true)
    × (home_of s d m x ≡ None)
IsPlace s d m (places.Gone u) =
    (x : Client) × (s.downs d ≡ Some x) × (home_of s d m x ≡ Some u) × (IsPlaced s d u m → ⊥)

-- a request goes where it may
abbrev pub IsPermitted : ShareAct → CoreSeen → Type 0
IsPermitted (Passes d u m payload call made) s = IsPlaced s d u m
IsPermitted act s = Unit {0}

-- ---- routes

-- a transaction that begins is noted, or there was no memory to
abbrev pub NotesBegin : Option SessionId → ℕ → RoutesSeen → RoutesSeen → Type 0
NotesBegin None u old new = new ≡ old
NotesBegin (Some session) u old new =
    (new ≡ after_begin session u old) ⊎ (new ≡ without_begin session old)

-- what a reply tells is noted, or there was no memory for the cursor that it opens
abbrev pub Follows : Tree → Tree → ℕ → RoutesSeen → RoutesSeen → Type 0
Follows request reply u old new =
    ∥ ((new ≡ after_reply request reply u old)
    ⊎ ((id : ℤ) × (new ≡ without_cursor request id old))) ∥₁

abbrev pub RoutesDo : ShareAct → RoutesSeen → RoutesSeen → Type 0
RoutesDo (Passes d u m payload call made) old new =
    NotesBegin (begun_by (command_of m)) u old new
RoutesDo (Gives d u m reply answer made) old new =
    Follows (command_of m) answer.content.body u old new
RoutesDo act old new = new ≡ old

-- ---- acts

-- what is taken is bytes
abbrev pub AreBytes : ShareAct → Type 0
AreBytes (TakesUp u bytes) = IsBytes bytes
AreBytes act = Unit {0}

-- an act of wire_share was done: each end did its part, and where a request goes it may
pub record IsShared (act : ShareAct) (old new : CoreSeen) : Type 0 where
  pub fit : IsFit act
  pub bytes : AreBytes act
  pub permitted : IsPermitted act old
  pub downs : (d : ℕ) → DownPart (act_at act d) (old.downs d) (new.downs d)
  pub ups : (u : ℕ) → UpPart u (act_of act u) (old.ups u) (new.ups u)
  pub routes : RoutesDo act old.routes new.routes
  pub accepted : new.accepted ≡ old.accepted
  pub opened : new.opened ≡ old.opened

-- a client has the next number
pub record IsAccepted (d : ℕ) (old new : CoreSeen) : Type 0 where
  pub number : d ≡ old.accepted + 1
  pub downs : Puts old.downs d (Some (new_client d)) new.downs
  pub ups : (u : ℕ) → new.ups u ≡ old.ups u
  pub routes : new.routes ≡ old.routes
  pub accepted : new.accepted ≡ d
  pub opened : new.opened ≡ old.opened

-- a client is gone
pub record IsClosed (d : ℕ) (old new : CoreSeen) : Type 0 where
  pub downs : Puts old.downs d None new.downs
  pub ups : (u : ℕ) → new.ups u ≡ old.ups u
  pub routes : new.routes ≡ old.routes
  pub accepted : new.accepted ≡ old.accepted
  pub opened : new.opened ≡ old.opened

-- the client that has a connection opened for itself keeps it
abbrev pub keeping : ℕ → Client → Option Client
keeping u x = Some (record { downstream = x.downstream; kept = Some u })

abbrev pub KeepsFor : Use → ℕ → (ℕ → Option Client) → (ℕ → Option Client) → Type 0
KeepsFor (used.Kept owner) u old new =
    (x : Client) × (old owner ≡ Some x) × (x.kept ≡ None) × Puts old owner (keeping u x) new
KeepsFor use_ u old new = (d : ℕ) → new d ≡ old d

-- the client that is to keep a connection is there, and keeps none
abbrev pub MayKeep : Use → (ℕ → Option Client) → Type 0
MayKeep (used.Kept owner) downs = (x : Client) × (downs owner ≡ Some x) × (x.kept ≡ None)
MayKeep use_ downs = Unit {0}

-- a connection to the server has the next number
pub record IsOpened (u : ℕ) (use_ : Use) (old new : CoreSeen) : Type 0 where
  pub number : u ≡ old.opened + 1
  pub downs : KeepsFor use_ u old.downs new.downs
  pub ups : Puts old.ups u (Some (new_server u use_)) new.ups
  pub routes : new.routes ≡ old.routes
  pub accepted : new.accepted ≡ old.accepted
  pub opened : new.opened ≡ u

-- a connection to the server is used no more
pub record IsFinished (u : ℕ) (old new : CoreSeen) : Type 0 where
  pub server : Server
  pub server_at : old.ups u ≡ Some server
  pub downs : (d : ℕ) → new.downs d ≡ old.downs d
  pub ups : Puts old.ups u (Some (record { upstream = server.upstream; used = used.Over })) new.ups
  pub routes : new.routes ≡ old.routes
  pub accepted : new.accepted ≡ old.accepted
  pub opened : new.opened ≡ old.opened

-- the client awaits a reply of this connection
abbrev pub is_call_of : ℕ → Option Awaited → Bool
is_call_of u None = false
is_call_of u (Some call) = call.upstream == u

abbrev pub hangs_on : ℕ → Client → Bool
hangs_on u x = is_call_of u x.downstream.awaited

-- without the clients that hang on a connection
abbrev pub unless_hung : ℕ → Option Client → Option Client
unless_hung u None = None
unless_hung u (Some x) = if hangs_on u x then None else Some x

-- A connection to the server is lost: it is gone, with what lived on it, and with each client that
-- awaits a reply of it. The one that keeps it, if one does, stays, and has no other.
pub record IsLost (u : ℕ) (old new : CoreSeen) : Type 0 where
  pub server : Server
  pub server_at : old.ups u ≡ Some server
  pub downs : (d : ℕ) → new.downs d ≡ unless_hung u (old.downs d)
  pub ups : Puts old.ups u None new.ups
  pub routes : new.routes ≡ after_loss u old.routes
  pub accepted : new.accepted ≡ old.accepted
  pub opened : new.opened ≡ old.opened

-- memory ran out while what a reply tells was noted, and the routes may be others
pub record IsOut (old new : CoreSeen) : Type 0 where
  pub downs : (d : ℕ) → new.downs d ≡ old.downs d
  pub ups : (u : ℕ) → new.ups u ≡ old.ups u
  pub accepted : new.accepted ≡ old.accepted
  pub opened : new.opened ≡ old.opened

-- the act was done
abbrev pub CoreDoes : CoreAct → CoreSeen → CoreSeen → Type 0
CoreDoes (Shares act) old new = IsShared act old new
CoreDoes (OpensDown d) old new = IsAccepted d old new
CoreDoes (ClosesDown d) old new = IsClosed d old new
CoreDoes (OpensUp u use_) old new = IsOpened u use_ old new
CoreDoes (Finishes u) old new = IsFinished u old new
CoreDoes (LosesUp u) old new = IsLost u old new
CoreDoes RunsOut old new = IsOut old new

-- these acts were done, one after another
abbrev pub CoreRun : CoreSeen → List CoreAct → CoreSeen → Type 0
CoreRun old [] new = new ≡ old
CoreRun old (act ∷ acts) new = (mid : CoreSeen) × CoreDoes act old mid × CoreRun mid acts new

-- some acts led from the one to the other
abbrev pub Ran : CoreSeen → CoreSeen → Type 0
Ran old new = (acts : List CoreAct) × CoreRun old acts new
