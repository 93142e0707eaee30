-- What reading the front of bytes returns.
use Rattle.std.specs.Prelude.{◌≡◌, ℕ, List}
use Rattle.wire_msg.specs.{msg_fault}
use Rattle.wire_msg.specs.declared.fault.MsgCause.TheVariants.{Length}
use Rattle.wire_frames.specs.declared.front.FrameFront.{FrameFront}
use Rattle.wire_frames.specs.declared.front.FrameFront.TheVariants.{Whole, Open, Bad}
use Rattle.wire_frames.specs.Frames.{IsWholeFrame, LacksFrame, WantsMore}
use Rattle.wire_frames.specs.RawFrame.{frame_bytes}

-- a frame within the limit and the rest after it, too few bytes and how many are wanted, or a
-- length at fault, which is told at offset 0
abbrev pub IsFrontFrame : ℕ → List ℕ → FrameFront → Type 0
IsFrontFrame limit bytes (Whole frame rest) =
    IsWholeFrame limit bytes (frame_bytes frame) rest.now
IsFrontFrame limit bytes (Open wanted) = WantsMore limit bytes wanted
IsFrontFrame limit bytes (Bad f) = LacksFrame limit bytes × (f ≡ msg_fault 0 Length)

-- a frame of these bytes is returned, and this rest after it
abbrev pub HasFrame : List ℕ → List ℕ → FrameFront → Type 0
HasFrame bytes after (Whole frame rest) = (frame_bytes frame ≡ bytes) × (rest.now ≡ after)
HasFrame bytes after (Open wanted) = ⊥
HasFrame bytes after (Bad f) = ⊥
