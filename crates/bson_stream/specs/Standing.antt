-- How bytes stand that come in pieces: whether more of them decide what they begin with.
use Rattle.std.specs.Prelude.{◌≡◌, ℕ, ◌+◌, ◌^◌, ◌<◌, ◌≤◌, List, length, take}
use Rattle.std.specs.Int.{w32, from_le_bytes}
use Rattle.bson_elem.specs.declared.fault.BsonFault.{BsonFault}
use Rattle.bson_elem.specs.{FrontFault, fault}

-- the length in the first four bytes
abbrev pub announced : List ℕ → ℕ
announced bytes = from_le_bytes w32 (take 4 bytes)

-- a length that a document can have
abbrev pub IsLength : ℕ → Type 0
IsLength n = (5 ≤ n) × (n < 2 ^ 31)

-- More bytes decide: these end inside the length of a document, or before the end that a good
-- length announces.
pub data IsOpen : List ℕ → Type 0 where
  in_length : {bytes : List ℕ} → length bytes < 4 → IsOpen bytes
  in_document : {bytes : List ℕ} → 4 ≤ length bytes → IsLength (announced bytes)
      → length bytes < announced bytes → IsOpen bytes

-- the fault at its offset in a stream, where it is told at its offset in the bytes from this one on
abbrev pub in_stream : ℕ → BsonFault → BsonFault
in_stream start f = fault (start + f.at) f.cause

-- No document begins with the bytes, whatever follows them, and this is their first fault in a
-- stream where they begin at this offset.
pub record IsBad (start : ℕ) (bytes : List ℕ) (f : BsonFault) : Type 0 where
  pub decided : IsOpen bytes → ⊥
  pub own : BsonFault
  pub first : FrontFault bytes own
  pub told : f ≡ in_stream start own
