-- The 20 bytes in front of the message of a record: its time, the number of its connection, and its
-- direction, each lowest byte first.
use Rattle.std.specs.Prelude.{◌≡◌, ◌⊎◌, ℕ, ℤ, ◌<◌, ◌≤◌, ◌^◌, FitsSigned, List, ◌++◌, codes}
use Rattle.std.specs.Prelude.{slice_range}
use Rattle.std.specs.Int.{w32, w64, cast_signed, cast_unsigned, from_le_bytes, to_le_bytes}
use Rattle.wire_frames.specs.declared.head.Direction.{Direction}
use Rattle.wire_frames.specs.declared.head.Direction.TheVariants.{ToServer, FromServer}
use Rattle.wire_frames.specs.declared.head.RecordHead.{RecordHead}
use Rattle.wire_frames.specs.declared.fault.RecordFault.{RecordFault}
use Rattle.wire_frames.specs.declared.fault.RecordCause.TheVariants as causes
use Rattle.wire_frames.specs.Causes.{record_fault}

-- the eight bytes with which a file of records begins, read as a message's length more than the
-- longest message has
abbrev pub signature : List ℕ
signature = codes "LUGHREC1"

-- the number by which a record has its direction
abbrev pub direction_number : Direction → ℕ
direction_number ToServer = 0
direction_number FromServer = 1

-- the microseconds since 1970, an int64
abbrev pub micros_at : List ℕ → ℤ
micros_at head = cast_signed w64 (from_le_bytes w64 (slice_range head 0 8))

-- the number of the connection, an int64 that is read as an unsigned number, so that a negative one
-- is above all others
abbrev pub connection_at : List ℕ → ℕ
connection_at head = from_le_bytes w64 (slice_range head 8 16)

-- the direction, an int32 that is read as an unsigned number
abbrev pub direction_at : List ℕ → ℕ
direction_at head = from_le_bytes w32 (slice_range head 16 20)

-- The bytes are read as this head.
pub record HasHead (bytes : List ℕ) (h : RecordHead) : Type 0 where
  pub micros : h.micros ≡ micros_at bytes
  pub connection : h.connection ≡ connection_at bytes
  pub direction : direction_number h.direction ≡ direction_at bytes

-- The number is that of a connection: they are counted from 1, and fit an int64.
pub record IsConnection (n : ℕ) : Type 0 where
  pub first : 1 ≤ n
  pub fits : n < 2 ^ 63

-- The numbers are those of a record.
pub record IsGoodHead (bytes : List ℕ) : Type 0 where
  pub connection : IsConnection (connection_at bytes)
  pub direction : direction_at bytes < 2

-- the first check that a head fails
pub data HeadFault (bytes : List ℕ) (f : RecordFault) : Type 0 where
  of_connection : (connection_at bytes < 1) ⊎ (2 ^ 63 ≤ connection_at bytes)
      → f ≡ record_fault 8 causes.Connection → HeadFault bytes f
  of_direction : IsConnection (connection_at bytes) → 2 ≤ direction_at bytes
      → f ≡ record_fault 16 causes.Direction → HeadFault bytes f

-- The head is one that can be written.
pub record IsHead (h : RecordHead) : Type 0 where
  pub micros : FitsSigned w64 h.micros
  pub connection : IsConnection h.connection

-- the bytes of a head
abbrev pub head_bytes : RecordHead → List ℕ
head_bytes h =
    to_le_bytes w64 (cast_unsigned w64 h.micros) ++ (to_le_bytes w64 h.connection
    ++ to_le_bytes w32 (direction_number h.direction))
