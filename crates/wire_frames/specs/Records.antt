-- Records, which are a head of 20 bytes and a message of any opCode; and what is known of bytes to
-- which more may come: they are too few, begin with a record, or are at fault.
use Rattle.std.specs.Prelude.{◌≡◌, ℕ, ◌+◌, ◌<◌, ◌≤◌, List, ◌++◌, drop, length, take}
use Rattle.framing.specs.{AreAll, IsItself, SplitsInto}
use Rattle.wire_frames.specs.Frames as frames
use Rattle.wire_frames.specs.Frames.{IsFrame, LacksFrame}
use Rattle.wire_frames.specs.declared.fault.RecordFault.{RecordFault}
use Rattle.wire_frames.specs.declared.fault.RecordCause.TheVariants as causes
use Rattle.wire_frames.specs.Causes.{record_fault}
use Rattle.wire_frames.specs.Heads.{HeadFault, IsGoodHead}

-- the head of a record, and its message
abbrev pub head_of : List ℕ → List ℕ
head_of bytes = take 20 bytes

abbrev pub message_of : List ℕ → List ℕ
message_of bytes = drop 20 bytes

-- The bytes are a record, whose message has at most this many bytes.
pub record IsRecord (limit : ℕ) (bytes : List ℕ) : Type 0 where
  pub head : 20 ≤ length bytes
  pub good : IsGoodHead (head_of bytes)
  pub message : IsFrame limit (message_of bytes)

-- This many more bytes belong to the head that isn't complete, to the header of the message, or to
-- what that announces.
pub data WantsMore (limit : ℕ) (bytes : List ℕ) (more : ℕ) : Type 0 where
  of_head : 0 < more → length bytes + more ≡ 20 → WantsMore limit bytes more
  of_message : 20 ≤ length bytes → IsGoodHead (head_of bytes)
      → frames.WantsMore limit (message_of bytes) more → WantsMore limit bytes more

-- The bytes are a record and the rest after it.
pub record IsWholeRecord (limit : ℕ) (bytes one rest : List ℕ) : Type 0 where
  pub parts : bytes ≡ one ++ rest
  pub is : IsRecord limit one

-- Whatever follows the bytes, this is wrong with the record that they begin: its head fails a
-- check, or its message announces fewer bytes than a header has, or more than the limit.
pub data IsAtFault (limit : ℕ) (bytes : List ℕ) (f : RecordFault) : Type 0 where
  of_head : 20 ≤ length bytes → HeadFault (head_of bytes) f → IsAtFault limit bytes f
  of_message : 20 ≤ length bytes → IsGoodHead (head_of bytes) → LacksFrame limit (message_of bytes)
      → f ≡ record_fault 20 causes.Length → IsAtFault limit bytes f

-- the bytes are open, begin with a record, or are at fault
pub data StandsAs (limit : ℕ) (bytes : List ℕ) : Type 0 where
  open_bytes : (more : ℕ) → WantsMore limit bytes more → StandsAs limit bytes
  whole_record : (one rest : List ℕ) → IsWholeRecord limit bytes one rest → StandsAs limit bytes
  bad_record : (f : RecordFault) → IsAtFault limit bytes f → StandsAs limit bytes

-- ---- the records that bytes hold one after another

-- each of the byte lists is a record
abbrev pub AreRecords : ℕ → List (List ℕ) → Type 0
AreRecords limit records = AreAll (IsRecord limit) records

-- no record is at the front of the bytes
abbrev pub BeginsNoRecord : ℕ → List ℕ → Type 0
BeginsNoRecord limit bytes = (one after : List ℕ) → IsWholeRecord limit bytes one after → ⊥

-- the bytes are records, one after another, and then a rest that begins with no record
abbrev pub RecordSplit : ℕ → List ℕ → List (List ℕ) → List ℕ → Type 0
RecordSplit limit bytes records rest =
    SplitsInto (IsItself (IsRecord limit)) (BeginsNoRecord limit) bytes records rest
