-- What makes and frees the core of a handle.
use Rattle.std.specs.Prelude.{◌≡◌, ◌≢◌, ℕ, ℤ, Option, None, Some, Ok, Err}
use Rattle.wire_peer.specs.{IsNewServer, IsSetupRefusal, ServerView, new_client}
use Rattle.wire_peer.specs.declared.client_state.ClientRefusal.{ClientRefusal}
use Rattle.wire_peer.specs.declared.server_state.ServerRefusal.{ServerRefusal}
use Rattle.core_handles.specs.declared.cores.Core.{Core}
use Rattle.core_handles.specs.declared.cores.Core.TheVariants.{Client, Server}
use Rattle.core_handles.specs.Numbers.{server_setup_number, setup_number}

-- the core is put into the handle; or there is no memory for it, and the handle has no core
pub data IsPut (core : Core) (new : Option Core) : ℕ → Type 0 where
  has_it : {w : ℕ} → new ≡ Some core → w ≡ 0 → IsPut core new w
  no_memory : {w : ℕ} → new ≡ None → w ≡ 254 → IsPut core new w

-- A client is put into a handle of no core, or there is no memory for it; or one of the numbers is
-- out of range, or the handle has a core, and nothing changes.
pub data IsMade (first_id : ℤ) (window limit : ℕ) (old new : Option Core) : ℕ → Type 0 where
  is_put : {w : ℕ} → old ≡ None
      → ((e : ClientRefusal) → IsSetupRefusal first_id window limit e → ⊥)
      → IsPut (Client (new_client first_id window limit)) new w
      → IsMade first_id window limit old new w
  is_refused : {w : ℕ} (e : ClientRefusal) → old ≡ None
      → IsSetupRefusal first_id window limit e → new ≡ None → w ≡ setup_number e
      → IsMade first_id window limit old new w
  in_use : {w : ℕ} → old ≢ None → new ≡ old → w ≡ 9 → IsMade first_id window limit old new w

-- A server is put into a handle of no core, or there is no memory for it; or one of the numbers is
-- out of range, or the handle has a core, and nothing changes. Its connection has the number 0.
pub data IsServerMade (window limit : ℕ) (old new : Option Core) : ℕ → Type 0 where
  server_put : {w : ℕ} (s : ServerView) → old ≡ None → IsNewServer 0 window limit (Ok s)
      → IsPut (Server s) new w → IsServerMade window limit old new w
  server_refused : {w : ℕ} (e : ServerRefusal) → old ≡ None → IsNewServer 0 window limit (Err e)
      → new ≡ None → w ≡ server_setup_number e → IsServerMade window limit old new w
  server_in_use : {w : ℕ} → old ≢ None → new ≡ old → w ≡ 9 → IsServerMade window limit old new w

-- the core is freed, or there was none
abbrev pub IsFreed : Option Core → Option Core → ℕ → Type 0
IsFreed (Some core) new w = (new ≡ None) × (w ≡ 0)
IsFreed None new w = (new ≡ None) × (w ≡ 255)
