-- Whole messages of any opCode (MongoDB Wire Protocol manual: Standard Message Header), and what is
-- known of bytes that more may follow: they are too few, begin with a frame, or with none.
use Rattle.std.specs.Prelude.{◌≡◌, ℕ, ◌+◌, ◌<◌, ◌≤◌, ◌⊎◌, List, ◌++◌, length}
use Rattle.framing.specs.{AreAll, IsItself, SplitsInto}
use Rattle.wire_msg.specs.{number_at}

-- The bytes are a header and what follows it, and messageLength is their number.
pub record IsFramed (bytes : List ℕ) : Type 0 where
  pub header : 16 ≤ length bytes
  pub announced : number_at bytes 0 ≡ length bytes

-- The bytes are a frame of at most this many bytes.
pub record IsFrame (limit : ℕ) (bytes : List ℕ) : Type 0 where
  pub framed : IsFramed bytes
  pub within : length bytes ≤ limit

-- The messageLength is that of a frame within the limit.
pub record IsFrameLength (limit n : ℕ) : Type 0 where
  pub least : 16 ≤ n
  pub most : n ≤ limit

-- This many more bytes belong to the header that isn't complete, or to what it announces.
pub data WantsMore (limit : ℕ) (bytes : List ℕ) (more : ℕ) : Type 0 where
  of_header : 0 < more → length bytes + more ≡ 16 → WantsMore limit bytes more
  of_frame : 0 < more → 16 ≤ length bytes → IsFrameLength limit (number_at bytes 0)
      → length bytes + more ≡ number_at bytes 0 → WantsMore limit bytes more

-- The bytes are a frame within the limit, and the rest after it.
pub record IsWholeFrame (limit : ℕ) (bytes frame rest : List ℕ) : Type 0 where
  pub parts : bytes ≡ frame ++ rest
  pub is : IsFrame limit frame

-- The header is complete, and announces fewer bytes than it has, or more than the limit.
pub record LacksFrame (limit : ℕ) (bytes : List ℕ) : Type 0 where
  pub header : 16 ≤ length bytes
  pub wrong : (number_at bytes 0 < 16) ⊎ (limit < number_at bytes 0)

-- the bytes are open, begin with a frame, or begin with none
pub data StandsAs (limit : ℕ) (bytes : List ℕ) : Type 0 where
  open_bytes : (more : ℕ) → WantsMore limit bytes more → StandsAs limit bytes
  whole_frame : (frame rest : List ℕ) → IsWholeFrame limit bytes frame rest → StandsAs limit bytes
  no_frame : LacksFrame limit bytes → StandsAs limit bytes

-- ---- the frames that bytes hold one after another

-- each of the byte lists is a frame within the limit
abbrev pub AreFrames : ℕ → List (List ℕ) → Type 0
AreFrames limit frames = AreAll (IsFrame limit) frames

-- no frame within the limit is at the front of the bytes
abbrev pub BeginsNoFrame : ℕ → List ℕ → Type 0
BeginsNoFrame limit bytes = (frame after : List ℕ) → IsWholeFrame limit bytes frame after → ⊥

-- the bytes are frames, one after another, and then a rest that begins with no frame within the
-- limit
abbrev pub FrameSplit : ℕ → List ℕ → List (List ℕ) → List ℕ → Type 0
FrameSplit limit bytes frames rest =
    SplitsInto (IsItself (IsFrame limit)) (BeginsNoFrame limit) bytes frames rest
