use Rattle.std.proofs.Common.{◌≡◌, ◌++◌, drop, map, take}
use Rattle.wire_model.specs.{restarted}
use Rattle.wire_world.proofs.lists.restart_all.Given as goal

abbrev pub invariant-loop-connection : goal.invariant-loop-connection
invariant-loop-connection l = l.connections ≡ map restarted (take l.connection-index l.fn.connections) ++ drop l.connection-index l.fn.connections
