-- What a reader of records holds.
use Rattle.std.specs.Prelude.{ℕ, List}

-- what a caller sees of a reader: its limit, and the bytes of the current record so far
pub record RecordReading : Type 0 where
  pub limit : ℕ
  pub held : List ℕ
