-- Why a client is closed, and why it isn't made.
use Rattle.std.specs.Prelude.{ℕ, ℤ, pos, ◌<ℤ◌, ◌≤ℤ◌}
use Rattle.wire_peer.specs.Limits.{IsLimit, IsWindow}
use Rattle.wire_peer.specs.declared.client_state.ClientRefusal.{ClientRefusal}
use Rattle.wire_peer.specs.declared.client_state.ClientRefusal.TheVariants.{BadFirstId, BadWindow}
use Rattle.wire_peer.specs.declared.client_state.ClientRefusal.TheVariants.{BadLimit}

-- the first number that is outside its range
abbrev pub IsSetupRefusal : ℤ → ℕ → ℕ → ClientRefusal → Type 0
IsSetupRefusal first_id window limit BadFirstId = first_id <ℤ pos 1
IsSetupRefusal first_id window limit BadWindow = (pos 1 ≤ℤ first_id) × (IsWindow window → ⊥)
IsSetupRefusal first_id window limit BadLimit =
    (pos 1 ≤ℤ first_id) × IsWindow window × (IsLimit limit → ⊥)
