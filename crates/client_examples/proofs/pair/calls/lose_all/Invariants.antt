use Rattle.std.proofs.Common.{◌≡◌, ◌++◌, drop, map, take}
use Rattle.wire_model.specs.{lost_record}
use Rattle.wire_end.specs.{records_of}
use Rattle.client_examples.proofs.pair.calls.lose_all.Given as goal

abbrev pub invariant-loop-call : goal.invariant-loop-call
invariant-loop-call l = records_of 1 l.records
    ≡ map lost_record (take l.call-index (records_of 1 l.fn.records)) ++ drop l.call-index (records_of 1 l.fn.records)
