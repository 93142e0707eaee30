-- What a borrowed record shows.
use Rattle.std.specs.Prelude.{ℕ, List}
use Rattle.wire_frames.specs.declared.record.RawRecord.{RawRecord}

-- the bytes of the record
abbrev pub record_bytes : RawRecord → List ℕ
record_bytes r = r.bytes.now
