-- A table of names, in slots by their hashes.
use Rattle.std.specs.Prelude.{◌≡◌, ◌≤◌, ◌<◌, ◌+◌, ◌-◌, ℕ, List, [], bit_and, get_or}
use Rattle.std.specs.Hash.FoldHasher.{finish, initial, write}

-- the slot of a name, of so many slots
unfoldable pub slot_of : ℕ → List ℕ → ℕ
slot_of slots name = bit_and (finish (write initial name)) (slots - 1)

-- It is one more than the index of the last of the first `count` names that is in this slot, or 0
-- where none of them is.
pub record IsLast (slots slot count : ℕ) (names : List (List ℕ)) (last : ℕ) : Type 0 where
  pub within : last ≤ count
  pub there : (i : ℕ) → last ≡ i + 1 → slot_of slots (get_or names i []) ≡ slot
  pub none_behind : (i : ℕ) → last ≤ i → i < count → slot_of slots (get_or names i []) ≡ slot → ⊥

-- The first `count` names are in the table: it tells the last one of each slot, and the one before
-- each of them in its slot.
pub record HasNames (slots : ℕ) (last before : List ℕ) (count : ℕ) (names : List (List ℕ)) : Type 0
  where
    pub room : count ≤ slots
    pub lasts : (slot : ℕ) → slot < slots → IsLast slots slot count names (get_or last slot 0)
    pub befores : (i : ℕ) → i < count
        → IsLast slots (slot_of slots (get_or names i [])) i names (get_or before i 0)
