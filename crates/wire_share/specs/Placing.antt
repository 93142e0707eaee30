-- Over which connection a request may go.
use Rattle.std.specs.Prelude.{◌≡◌, ℕ, Bool, true, false, ◌==◌, if◌then◌else◌, Option, Some, None}
use Rattle.std.specs.Prelude.{[], Result, Ok, Err}
use Rattle.wire_share.specs.declared.need.Need.{Need}
use Rattle.wire_share.specs.declared.need.Need.TheVariants as needs
use Rattle.wire_share.specs.declared.refusals.PassRefusal.{PassRefusal}
use Rattle.wire_share.specs.declared.refusals.PassRefusal.TheVariants as passing
use Rattle.wire_share.specs.declared.placing.Place.{Place}
use Rattle.wire_share.specs.declared.placing.Place.TheVariants as places
use Rattle.wire_share.specs.declared.uses.Use.{Use}
use Rattle.wire_share.specs.declared.uses.Use.TheVariants as used
use Rattle.wire_share.specs.declared.server.Server.{Server}

-- what a connection may be shared for
abbrev pub is_common : Need → Bool
is_common needs.Any = true
is_common (needs.Cursor id) = true
is_common (needs.Transaction session) = true
is_common needs.Own = false
is_common needs.Kept = false

-- what lives on one connection
abbrev pub is_routed : Need → Bool
is_routed needs.Any = false
is_routed (needs.Cursor id) = true
is_routed (needs.Transaction session) = true
is_routed needs.Own = false
is_routed needs.Kept = false

abbrev pub is_own : Need → Bool
is_own needs.Own = true
is_own need = false

-- a request of a client that needs this may go over a connection that is used so
abbrev pub serves : Need → (client : ℕ) → Use → Bool
serves need client used.Shared = is_common need
serves need client used.Once = is_own need
serves need client (used.Kept owner) = owner == client
serves need client (used.Transaction beginner) = is_routed need
serves need client used.Over = false

-- how a connection is used once a request goes over it
abbrev pub used_up : Use → Use
used_up used.Shared = used.Shared
used_up used.Once = used.Over
used_up (used.Kept owner) = used.Kept owner
used_up (used.Transaction beginner) = used.Transaction beginner
used_up used.Over = used.Over

-- the request was passed on, with this result
abbrev pub was_passed : Result (Unit {0}) PassRefusal → Bool
was_passed (Ok _) = true
was_passed (Err passing.NothingWaits) = false
was_passed (Err (passing.Call refusal)) = false
was_passed (Err passing.OutOfMemory) = true

-- how a connection is used after that
abbrev pub used_after : (passed : Bool) → Use → Use
used_after true use_ = used_up use_
used_after false use_ = use_

-- the connection is there and serves
abbrev pub is_served_by : Need → (client : ℕ) → Option Server → Bool
is_served_by need client None = false
is_served_by need client (Some s) = serves need client s.used

-- this connection, if it is there and serves
abbrev pub if_serves : (ℕ → Option Server) → Need → (client : ℕ) → Option ℕ → Option ℕ
if_serves ups need client None = None
if_serves ups need client (Some u) =
    if is_served_by need client (ups u) then Some u else None

-- The one connection over which a request goes: the one that its client keeps; else the one on
-- which its cursor or its transaction lives, if that serves it, and it begins no transaction.
abbrev pub home : (ℕ → Option Server) → Need → (begins : Bool) → (client : ℕ)
    → (kept found : Option ℕ) → Option ℕ
home ups need begins client (Some u) found = Some u
home ups need true client None found = None
home ups need false client None found = if_serves ups need client found

-- this one, if there is one
abbrev pub is_home : Option ℕ → ℕ → Bool
is_home None u = true
is_home (Some v) u = v == u

-- the connection is there and serves; or a new one would, used so
abbrev pub MayServe : (ℕ → Option Server) → Need → (client : ℕ) → Place → Type 0
MayServe ups need client (places.At u) = is_served_by need client (ups u) ≡ true
MayServe ups need client (places.New use_) = serves need client use_ ≡ true
MayServe ups need client (places.Gone u) = ⊥

-- ---- whose it is

-- it is of this client alone, or for a transaction that it began
abbrev pub is_of : (client : ℕ) → Use → Bool
is_of client (used.Kept owner) = owner == client
is_of client (used.Transaction beginner) = beginner == client
is_of client use_ = false

abbrev pub is_transaction : Use → Bool
is_transaction (used.Transaction beginner) = true
is_transaction use_ = false

-- the client that alone uses it
abbrev pub owner_by : Use → Option ℕ
owner_by (used.Kept owner) = Some owner
owner_by use_ = None

abbrev pub owner_of : Option Server → Option ℕ
owner_of None = None
owner_of (Some s) = owner_by s.used

-- nobody uses it any more, and the calls over it are over
pub record IsDone (s : Server) : Type 0 where
  pub over : s.used ≡ used.Over
  pub answered : s.upstream.client.requests.outstanding ≡ []
  pub all_sent : s.upstream.client.requests.output ≡ []
  pub given : s.upstream.client.reply ≡ None
