-- The pairs from an offset of a document's bytes up to its end.
use Rattle.std.specs.Prelude.{◌≡◌, ℕ, ◌+◌, ◌-◌, ◌^◌, ◌<◌, ◌≤◌, List, length, slice_range}
use Rattle.bson_elem.specs.{Fits, Tree, elements}

-- the pairs from this offset up to the last byte are those of the tree
abbrev pub LeftIs : List ℕ → ℕ → Tree → Type 0
LeftIs bytes offset t = Fits 1 t × (slice_range bytes offset (length bytes - 1) ≡ elements t)

-- the bytes from this offset up to the last byte are pairs
abbrev pub HasLeft : List ℕ → ℕ → Type 0
HasLeft bytes offset =
    (offset + 1 ≤ length bytes) × (length bytes < 2 ^ 31) × ((t : Tree) × LeftIs bytes offset t)
