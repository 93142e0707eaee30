-- What a reader of frames holds.
use Rattle.std.specs.Prelude.{ℕ, List}

-- what a caller sees of a reader: its limit, and the bytes of the current frame so far
pub record FrameReading : Type 0 where
  pub limit : ℕ
  pub held : List ℕ
