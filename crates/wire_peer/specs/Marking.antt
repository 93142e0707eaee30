-- Places that are marked, since the ids that stand there are used.
use Rattle.std.specs.Prelude.{◌≡◌, ℕ, ◌+◌, ◌<◌, ◌≤◌, ◌⊎◌, ℤ, List, Bool, true, false, count_by}
use Rattle.std.specs.Prelude.{get_or, length}
use Rattle.wire_peer.specs.FreeIds.{id_past}

-- how many places are looked at
abbrev pub places : ℕ
places = 1025

abbrev pub IsMarkedAt : List Bool → ℕ → Type 0
IsMarkedAt marks k = get_or marks k false ≡ true

-- The place of the id is marked too now, if it is one of those looked at, and no other one is.
pub record Marks (next id : ℤ) (old new : List Bool) : Type 0 where
  pub room : length new ≡ length old
  pub few : count_by (λ b. b) new ≤ count_by (λ b. b) old + 1
  pub kept : (k : ℕ) → IsMarkedAt old k → IsMarkedAt new k
  pub marked : (k : ℕ) → k < places → id ≡ id_past next k → IsMarkedAt new k
  pub no_other : (k : ℕ) → IsMarkedAt new k → IsMarkedAt old k ⊎ (id ≡ id_past next k)
