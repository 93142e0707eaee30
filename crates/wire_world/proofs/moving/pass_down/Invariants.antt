use Rattle.std.proofs.Common.{◌-◌, ◌≡◌, ◌≤◌, None}
use Rattle.wire_peer.specs.declared.client_state.ClientState.TheVariants.{Open}
use Rattle.wire_world.specs.Moving.{GoneDown}
use Rattle.wire_world.specs.Records.{records_of}
use Rattle.wire_world.proofs.moving.pass_down.Given as goal

abbrev pub invariant-loop-moved : goal.invariant-loop-moved
invariant-loop-moved l = record {
  gone : GoneDown l.indexes l.fn.client l.fn.server (records_of l.fn.calls) l.moved l.client l.server (records_of l.calls);
  at_most : l.moved ≤ l.n;
  released : l.client.state ≡ Open → l.client.reply ≡ None;
}

abbrev pub decreases-loop-moved : goal.decreases-loop-moved
decreases-loop-moved l = l.n - l.moved
