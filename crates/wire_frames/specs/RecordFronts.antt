-- What reading the front of bytes returns.
use Rattle.std.specs.Prelude.{◌≡◌, ℕ, List}
use Rattle.wire_frames.specs.declared.record_front.RecordFront.{RecordFront}
use Rattle.wire_frames.specs.declared.record_front.RecordFront.TheVariants.{Whole, Open, Bad}
use Rattle.wire_frames.specs.RawRecord.{record_bytes}
use Rattle.wire_frames.specs.Records.{IsAtFault, IsWholeRecord, WantsMore}

-- a record and the rest after it, too few bytes and how many are wanted, or the first fault
abbrev pub IsFrontRecord : ℕ → List ℕ → RecordFront → Type 0
IsFrontRecord limit bytes (Whole one rest) =
    IsWholeRecord limit bytes (record_bytes one) rest.now
IsFrontRecord limit bytes (Open wanted) = WantsMore limit bytes wanted
IsFrontRecord limit bytes (Bad f) = IsAtFault limit bytes f

-- a record of these bytes is returned, and this rest after it
abbrev pub IsRecordAnd : List ℕ → List ℕ → RecordFront → Type 0
IsRecordAnd bytes after (Whole one rest) = (record_bytes one ≡ bytes) × (rest.now ≡ after)
IsRecordAnd bytes after (Open wanted) = ⊥
IsRecordAnd bytes after (Bad f) = ⊥
