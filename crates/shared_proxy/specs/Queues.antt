-- The requests that wait for a connection, and how busy it is.
use Rattle.std.specs.Prelude.{◌≡◌, ℕ, ◌+◌, ◌-◌, ◌^◌, ◌==◌, ◌||◌, ◌≤◌, min, not, nat_eq, nat_le}
use Rattle.std.specs.Prelude.{Bool, true, false, List, [], ◌∷◌, filter, length, if◌then◌else◌}
use Rattle.std.specs.Prelude.{Option, Some, None}
use Rattle.std.specs.List.{IsAmong, All}
use Rattle.std.specs.VecDeque.{deque_len}
use Rattle.indexmap.specs.IndexMap.{get}
use Rattle.wire_share.specs.Running.{output_over, seen}
use Rattle.wire_share.specs.declared.server.Server as connections
use Rattle.wire_share.specs.declared.shared_core.Core.{Core}
use Rattle.shared_proxy.specs.declared.server.Server.{Server}
use Rattle.shared_proxy.specs.declared.servers.Servers.{Servers}

-- so many bytes wait to be sent over a connection that no other request is passed on
abbrev pub is_full : Core → ℕ → Bool
is_full core upstream = nat_le 1048576 (length (output_over ((seen core).ups upstream)))

-- the first one that waits is another client's
abbrev pub is_behind : (client : ℕ) → List ℕ → Bool
is_behind client [] = false
is_behind client (first ∷ others) = not (first == client)

-- the clients that wait without this one
abbrev pub without : (client : ℕ) → List ℕ → List ℕ
without client waiting = filter (λ other. not (nat_eq other client)) waiting

-- what waits and who awaits a reply stays
pub record SameQueues (old new : Server) : Type 0 where
  pub callers : new.callers ≡ old.callers
  pub blocked : new.blocked ≡ old.blocked

-- how many calls over a connection await a reply
abbrev pub calls_over : Option connections.Server → ℕ
calls_over None = 2 ^ 64 - 1
calls_over (Some y) = length y.upstream.client.requests.outstanding

-- How busy a connection is: by the calls that await a reply over it; or, if it is full or requests
-- wait for it, by more than any number of calls, and by how many wait.
abbrev pub load_of : (calls : ℕ) → (full : Bool) → Option Server → ℕ
load_of calls full None = 2 ^ 64 - 1
load_of calls full (Some s) =
    if full || not (deque_len s.blocked == 0)
    then min (65536 + deque_len s.blocked) (2 ^ 64 - 1)
    else calls

abbrev pub load_in : Servers → Core → ℕ → ℕ
load_in servers core upstream =
    load_of (calls_over ((seen core).ups upstream)) (is_full core upstream)
    (get nat_eq servers.map upstream)

-- the connection is one of these, and none of them is less busy
pub record IsLeastBusy (load : ℕ → ℕ) (numbers : List ℕ) (upstream : ℕ) : Type 0 where
  pub among : IsAmong numbers upstream
  pub least : All (λ other. load upstream ≤ load other) numbers

-- none of these is there
abbrev pub AreGone : (load : ℕ → ℕ) → List ℕ → Type 0
AreGone load numbers = All (λ other. 2 ^ 64 - 1 ≤ load other) numbers
