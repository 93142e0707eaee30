-- The records that are written, and the messages of one connection and direction.
use Rattle.std.specs.Prelude.{ℕ, ◌==◌, ◌&&◌, List, [], ◌∷◌, ◌++◌}
use Rattle.std.specs.Prelude.{if◌then◌else◌, ⊤}
use Rattle.wire_frames.specs.Frames.{IsFrame}
use Rattle.wire_frames.specs.declared.head.Direction.{Direction}
use Rattle.wire_frames.specs.declared.head.RecordHead.{RecordHead}
use Rattle.wire_frames.specs.Heads.{IsHead, connection_at, direction_at, direction_number}
use Rattle.wire_frames.specs.Heads.{head_bytes}
use Rattle.wire_frames.specs.Records.{head_of, message_of}

-- what is written: a head and a message
pub record Entry : Type 0 where
  pub head : RecordHead
  pub message : List ℕ

-- the bytes of a record
abbrev pub record_of : RecordHead → List ℕ → List ℕ
record_of h message = head_bytes h ++ message

abbrev pub entry_bytes : Entry → List ℕ
entry_bytes e = record_of e.head e.message

-- each entry is a head that can be written, and a message within the limit
abbrev pub AreEntries : ℕ → List Entry → Type 0
AreEntries limit [] = ⊤
AreEntries limit (e ∷ es) = (IsHead e.head × IsFrame limit e.message) × AreEntries limit es

-- the messages of one connection and direction, in order: those that records have, and those that
-- were written
abbrev pub messages_on : ℕ → Direction → List (List ℕ) → List (List ℕ)
messages_on connection direction [] = []
messages_on connection direction (r ∷ rs) =
    (if (connection_at (head_of r) == connection)
    && (direction_at (head_of r) == direction_number direction)
    then message_of r ∷ messages_on connection direction rs
    else messages_on connection direction rs)

abbrev pub written_on : ℕ → Direction → List Entry → List (List ℕ)
written_on connection direction [] = []
written_on connection direction (e ∷ es) =
    (if (e.head.connection == connection)
    && (direction_number e.head.direction == direction_number direction)
    then e.message ∷ written_on connection direction es
    else written_on connection direction es)
