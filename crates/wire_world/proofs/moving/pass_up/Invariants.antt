use Rattle.std.proofs.Common.{◌-◌, ◌≤◌}
use Rattle.wire_world.specs.Moving.{GoneUp}
use Rattle.wire_world.proofs.moving.pass_up.Given as goal

abbrev pub invariant-loop-moved : goal.invariant-loop-moved
invariant-loop-moved l = record {
  gone : GoneUp l.fn.client l.fn.server l.moved l.client l.server;
  at_most : l.moved ≤ l.n;
}

abbrev pub decreases-loop-moved : goal.decreases-loop-moved
decreases-loop-moved l = l.n - l.moved
