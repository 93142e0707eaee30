use Rattle.std.proofs.Common.{◌≡◌, ◌++◌, ℕ, drop, map, take}
use Rattle.wire_model.specs.{lost_record}
use Rattle.wire_end.specs.Records.{records_of}
use Rattle.wire_end.proofs.steps.lose_all.Given as goal

abbrev pub invariant-loop-record : goal.invariant-loop-record
invariant-loop-record l = (c : ℕ) → records_of c l.records
    ≡ map lost_record (take l.record-index (records_of c l.fn.records)) ++ drop l.record-index (records_of c l.fn.records)
