-- Bytes from 01 to 7F, which are a name and a text without a test for UTF-8.
use Rattle.std.specs.Prelude.{◌≢◌, ◌≤◌, ◌<◌, ℕ, List, slice_index}

-- each byte from one offset up to another is from 01 to 7F
abbrev pub ArePlain : List ℕ → ℕ → ℕ → Type 0
ArePlain bytes start end =
    (k : ℕ) → start ≤ k → k < end → (slice_index bytes k ≢ 0) × (slice_index bytes k < 128)
