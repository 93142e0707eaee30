-- Bytes that are a document.
use Rattle.std.specs.Prelude.{◌≡◌, ◌≤◌, ℕ, List, ◌++◌, length, take, Ok}
use Rattle.std.specs.Int.{w32, from_le_bytes}
use Rattle.bson_elem.specs.declared.fault.BsonCause.TheVariants.{Length}
use Rattle.bson_elem.specs.declared.fault.BsonFault.{BsonFault}
use Rattle.bson_elem.specs.{FrontFault, Spells, Tree, document_at, elements_of, fault}

-- the bytes are a document: they spell a tree
abbrev pub IsSpelled : List ℕ → Type 0
IsSpelled bytes = (t : Tree) × Spells t bytes

-- The bytes are a document, `whole`, and then this rest.
abbrev pub FrontIs : List ℕ → List ℕ → List ℕ → Type 0
FrontIs bytes whole rest =
    (document_at 0 0 bytes ≡ Ok (elements_of whole, rest)) × (whole ++ rest ≡ bytes)
    × IsSpelled whole

-- the length in the first four bytes, if there are four, is the number of the bytes
abbrev pub IsLengthOf : List ℕ → Type 0
IsLengthOf bytes = 4 ≤ length bytes → from_le_bytes w32 (take 4 bytes) ≡ length bytes

-- The fault that `from_bytes` returns for these bytes: `Length` at 0 if the length at the front
-- isn't the number of the bytes, and else the first fault.
pub data WholeFault : List ℕ → BsonFault → Type 0 where
  unlike : {bytes : List ℕ} {f : BsonFault} → (IsLengthOf bytes → ⊥) → f ≡ fault 0 Length
      → WholeFault bytes f
  as_front : {bytes : List ℕ} {f : BsonFault} → IsLengthOf bytes → FrontFault bytes f
      → WholeFault bytes f
