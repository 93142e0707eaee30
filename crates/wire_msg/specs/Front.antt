-- What reading the front of bytes returns.
use Rattle.std.specs.Prelude.{◌≡◌, ℕ, ◌≤◌, List, ◌++◌, length}
use Rattle.wire_msg.specs.declared.front.Frame.{Frame}
use Rattle.wire_msg.specs.declared.front.Frame.TheVariants as frames
use Rattle.wire_msg.specs.declared.front.MsgFront.{MsgFront}
use Rattle.wire_msg.specs.declared.front.MsgFront.TheVariants.{Whole, Open, Bad}
use Rattle.wire_msg.specs.RawMsg.{msg_bytes}
use Rattle.wire_msg.specs.Header.{header_of, HeaderFault}
use Rattle.wire_msg.specs.Spelling.{IsMessage}
use Rattle.wire_msg.specs.Faults.{IsFramedMsg}
use Rattle.wire_msg.specs.Standing.{IsOpen, IsBad}

-- the bytes that a good header announces and the rest, too few bytes, or a header's fault
abbrev pub IsFrame : ℕ → List ℕ → Frame → Type 0
IsFrame limit bytes (frames.Whole message rest) =
    (bytes ≡ message.now ++ rest.now) × IsFramedMsg limit message.now
IsFrame limit bytes frames.Open = IsOpen limit bytes
IsFrame limit bytes (frames.Bad f) = (16 ≤ length bytes) × HeaderFault limit (header_of bytes) f

-- a message within the limit and the rest after it, too few bytes, or a fault at an offset in the
-- bytes
abbrev pub IsFront : ℕ → List ℕ → MsgFront → Type 0
IsFront limit bytes (Whole message rest) =
    (bytes ≡ msg_bytes message ++ rest.now) × IsMessage limit (msg_bytes message)
IsFront limit bytes Open = IsOpen limit bytes
IsFront limit bytes (Bad f) = IsBad limit bytes f × (f.at ≤ length bytes)

-- a message of these bytes is returned, and this rest after it
abbrev pub HasWhole : List ℕ → List ℕ → MsgFront → Type 0
HasWhole front after (Whole message rest) = (msg_bytes message ≡ front) × (rest.now ≡ after)
HasWhole front after Open = ⊥
HasWhole front after (Bad f) = ⊥
