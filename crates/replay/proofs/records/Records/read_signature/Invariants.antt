use Rattle.std.proofs.Common.{◌≡◌}
use Rattle.replay.proofs.records.Records.read_signature.Given as goal

abbrev pub invariant-loop-i : goal.invariant-loop-i
invariant-loop-i g l = record {
  fault : l.self.fault ≡ l.fn.self.fault;
  reading : l.self.reading ≡ l.fn.self.reading;
}
