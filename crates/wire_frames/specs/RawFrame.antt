-- What a borrowed frame shows.
use Rattle.std.specs.Prelude.{ℕ, List}
use Rattle.wire_frames.specs.declared.frame.RawFrame.{RawFrame}

-- the bytes of the frame
abbrev pub frame_bytes : RawFrame → List ℕ
frame_bytes f = f.bytes.now
