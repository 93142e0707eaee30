use Rattle.std.proofs.Common.{◌≡◌, ◌++◌, drop, map, take}
use Rattle.wire_model.specs.{settled_record}
use Rattle.wire_world.specs.Records.{record_of}
use Rattle.wire_world.proofs.lists.settle.Given as goal

abbrev pub invariant-loop-call : goal.invariant-loop-call
invariant-loop-call l = map record_of l.calls ≡ map (settled_record l.connections) (take l.call-index (map record_of l.fn.calls)) ++ drop l.call-index (map record_of l.fn.calls)
