-- What is done with the connections that are shared.
use Rattle.std.specs.Prelude.{◌≡◌, ◌≢◌, ℕ, ◌||◌, Bool, true, false, List, [], ◌∷◌, Option, Some}
use Rattle.std.specs.Prelude.{None, nat_eq, is_some}
use Rattle.indexmap.specs.IndexMap.{get, keys}
use Rattle.sockets.specs.{with_key}
use Rattle.shared_proxy.specs.Queues.{is_behind}
use Rattle.shared_proxy.specs.Sides.{token_of}
use Rattle.shared_proxy.specs.declared.client.Client.{Client}
use Rattle.shared_proxy.specs.declared.server.Server.{Server}
use Rattle.shared_proxy.specs.declared.sharing.Sharing.{Sharing}
use Rattle.shared_proxy.specs.declared.side.Side.TheVariants as sides

-- No client came or went, no request is held for longer or let go, and what accepts and connects is
-- the same.
pub record SameClients (old new : Sharing) : Type 0 where
  pub clients : new.clients ≡ old.clients
  pub delays : new.delays ≡ old.delays
  pub connector : new.connector ≡ old.connector

-- the same, where something may have changed of a client that is there
pub record SameNumbers (old new : Sharing) : Type 0 where
  pub clients : keys new.clients.map ≡ keys old.clients.map
  pub ended : new.clients.ended ≡ old.clients.ended
  pub delays : new.delays ≡ old.delays
  pub connector : new.connector ≡ old.connector

-- each client but this one is there as before
abbrev pub OthersStay : (number : ℕ) → (old new : Sharing) → Type 0
OthersStay number old new =
    (other : ℕ) → other ≢ number
    → get nat_eq new.clients.map other ≡ get nat_eq old.clients.map other

-- the first of the clients whose requests wait is to take a turn
abbrev pub woken : List ℕ → List ℕ → List ℕ
woken [] due = due
woken (first ∷ others) due = with_key (token_of (sides.Client first)) due

-- those that are to take a turn, once the first client that waits for this connection is woken, if
-- that is there and not full
abbrev pub unblocked : (full : Bool) → Option Server → List ℕ → List ℕ
unblocked full None due = due
unblocked true (Some s) due = due
unblocked false (Some s) due = woken s.blocked.items due

-- the request of a client, if it is there, has to wait for a connection, if that is there
abbrev pub has_to_wait : (full : Bool) → (number : ℕ) → Option Client → Option Server → Bool
has_to_wait full number None s = false
has_to_wait full number (Some x) None = false
has_to_wait full number (Some x) (Some s) = full || is_behind number s.blocked.items
