-- What is recorded of the messages that pass.
use Rattle.std.specs.Prelude.{◌≡◌, ℕ, List, ◌++◌, Bool, true, false, Option, Some, None}
use Rattle.std.specs.Prelude.{option_map}
use Rattle.std.specs.Io.KnownBytes.{Appends, Keeps}
use Rattle.wire_frames.specs.{IsConnection, record_of}
use Rattle.wire_frames.specs.declared.head.Direction.{Direction as Recorded}
use Rattle.wire_frames.specs.declared.head.Direction.TheVariants as heads
use Rattle.wire_frames.specs.declared.head.RecordHead.{RecordHead}
use Rattle.proxy.specs.declared.direction.Direction.{Direction}
use Rattle.proxy.specs.declared.direction.Direction.TheVariants as directions

-- the direction as a record has it
abbrev pub recorded : Direction → Recorded
recorded directions.There = heads.ToServer
recorded directions.Back = heads.FromServer

-- The head is that of a message that goes this way on the connection of this number, at some time.
pub record IsHeadOf (number : ℕ) (direction : Direction) (h : RecordHead) : Type 0 where
  pub connection : IsConnection number → h.connection ≡ number
  pub direction_is : h.direction ≡ recorded direction

-- what a file has, and then the records that wait to be written to it
abbrev pub log_of : (written : Option (List ℕ)) → (waiting : List ℕ) → Option (List ℕ)
log_of written waiting = option_map (λ bytes. bytes ++ waiting) written

-- What becomes of a log whose file has so much room left, by a message: one record more, which is
-- the message's; or the log ends, since that doesn't fit, and it is told; or it has ended before.
abbrev pub IsRecorded : (before after : Option (List ℕ)) → (room left : Option ℕ) → ℕ → Direction
    → (message : List ℕ) → (ends : Bool) → Type 0
IsRecorded before after None left number direction message ends =
    Keeps before after × (left ≡ None) × (ends ≡ false)
IsRecorded before after (Some room) left number direction message true =
    Keeps before after × (left ≡ None)
IsRecorded before after (Some room) left number direction message false =
    (h : RecordHead) × IsHeadOf number direction h × Appends before after (record_of h message)
