-- The names that were seen, in a table of their codes.
use Rattle.std.specs.Prelude.{◌≡◌, ◌<◌, ◌≤◌, ◌-◌, ◌*◌, ◌/◌, ◌%◌, ◌^◌, ◌==◌, ℕ, List, get_or}
use Rattle.std.specs.Prelude.{bit_and, bit_xor, length, slice_set}
use Rattle.std.specs.Prelude.{if◌then◌else◌}
use Rattle.std.specs.Hash.FoldHasher.{finish, initial, write}

-- the code of a name in the document that begins at this offset
abbrev pub some_code : ℕ → ℕ
some_code code = if code == 0 then 1 else code

unfoldable pub code_of : ℕ → List ℕ → ℕ
code_of offset name =
    some_code (bit_xor (finish (write initial name)) ((offset * 0x9e37_79b9_7f4a_7c15) % 2 ^ 64))

-- the first place of a code, of so many
unfoldable pub first_place : ℕ → ℕ → ℕ
first_place size code = bit_and (code / 2 ^ 32) (size - 1)

-- of a table of so many places, the first one of a code is not behind this one, and none between
-- them is empty
pub record StandsAt (places : List ℕ) (i code : ℕ) : Type 0 where
  pub first : first_place (length places - 64) code ≤ i
  pub between : (k : ℕ) → first_place (length places - 64) code ≤ k → k < i
      → 0 < get_or places k 0

-- Of each code of a table, no place between its first one and its own is empty.
abbrev pub IsPacked : List ℕ → Type 0
IsPacked places = (i : ℕ) → 0 < get_or places i 0 → StandsAt places i (get_or places i 0)

-- a code stands in a table
abbrev pub Has : List ℕ → ℕ → Type 0
Has places code = (i : ℕ) × (get_or places i 0 ≡ code)

-- each code that stood in a table stands there still
abbrev pub Keeps : List ℕ → List ℕ → Type 0
Keeps old new = (c : ℕ) → 0 < c → Has old c → Has new c

-- a code was put into the first empty place from this one on, and stands in none before that
pub record IsPutFrom (first code : ℕ) (old new : List ℕ) : Type 0 where
  pub at : ℕ
  pub low : first ≤ at
  pub high : at < length old
  pub taken : (k : ℕ) → first ≤ k → k < at → (0 < get_or old k 0) × (get_or old k 0 ≡ code → ⊥)
  pub empty : get_or old at 0 ≡ 0
  pub put : new ≡ slice_set old at code

-- a code was put into a table, where it didn't stand before
pub record IsSeen (old new : List ℕ) (code : ℕ) : Type 0 where
  pub absent : Has old code → ⊥
  pub there : Has new code
  pub kept : Keeps old new
