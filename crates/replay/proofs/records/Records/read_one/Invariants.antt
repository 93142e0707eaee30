use Rattle.std.proofs.Common.{◌≡◌, ◌++◌, List, ℕ}
use Rattle.std.specs.Io.KnownBytes.{Consumes}
use Rattle.replay.proofs.records.Records.read_one.Given as goal

-- what was read is held
abbrev pub invariant-loop : goal.invariant-loop
invariant-loop g l = record {
  bytes : (more : List ℕ) × Consumes (g.R.Read.remaining l.fn.self.reader) (g.R.Read.remaining l.self.reader) more
      × (l.fn.self.reading.held ++ l.fn.self.piece ++ more ≡ l.self.reading.held ++ l.self.piece);
  fault : l.self.fault ≡ l.fn.self.fault;
  offset : l.self.offset ≡ l.fn.self.offset;
}
