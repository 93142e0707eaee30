-- How many bytes of a document a reader gathers before it looks at them.
use Rattle.std.specs.Prelude.{◌≡◌, ℕ, ◌<◌, ◌≤◌, List, length, take}
use Rattle.bson_stream.specs.Standing.{IsLength, announced}

-- the four bytes of a length that isn't there yet or is bad, or all that a good one within the
-- limit announces
pub data IsWanted : ℕ → List ℕ → ℕ → Type 0 where
  for_length : {limit n : ℕ} {bytes : List ℕ} → length bytes < 4 → n ≡ 4 → IsWanted limit bytes n
  for_fault : {limit n : ℕ} {bytes : List ℕ} → 4 ≤ length bytes → (IsLength (announced bytes) → ⊥)
      → n ≡ 4 → IsWanted limit bytes n
  for_document : {limit n : ℕ} {bytes : List ℕ} → 4 ≤ length bytes → IsLength (announced bytes)
      → announced bytes ≤ limit → n ≡ announced bytes → IsWanted limit bytes n

-- so many bytes were gathered of some, or all of these if they are fewer
abbrev pub IsGathered : ℕ → List ℕ → Type 0
IsGathered n held =
    (limit : ℕ) × (bytes : List ℕ) × IsWanted limit bytes n × (held ≡ take n bytes)

-- the bytes begin with a good length within the limit, and are as many at least
pub record IsWhole (limit : ℕ) (bytes : List ℕ) : Type 0 where
  pub complete : 4 ≤ length bytes
  pub good : IsLength (announced bytes)
  pub within : announced bytes ≤ limit
  pub there : announced bytes ≤ length bytes
