use Rattle.std.proofs.Common.{length, ◌-◌, ◌≤◌}
use Rattle.wire_world.specs.Moving.{GoneRaw}
use Rattle.wire_world.proofs.moving.pass_raw.Given as goal

abbrev pub invariant-loop-moved : goal.invariant-loop-moved
invariant-loop-moved l = record {
  gone : GoneRaw l.fn.server l.bytes l.moved l.server;
  within : l.moved ≤ length l.bytes;
}

abbrev pub decreases-loop-moved : goal.decreases-loop-moved
decreases-loop-moved l = length l.bytes - l.moved
