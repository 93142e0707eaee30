use Rattle.std.proofs.Common.{◌≡◌, take}
use Rattle.wire_model.specs.{Run, opening}
use Rattle.wire_world.proofs.worlds.World.run_events.Given as goal

abbrev pub invariant-loop-event : goal.invariant-loop-event
invariant-loop-event g l = record {
  limits : l.world.limits ≡ l.fn.limits;
  runs : Run g.H.Handler.does g.H.Handler.stops l.fn.limits (opening l.fn.limits l.fn.handler) (take l.event-index l.events) l.world.state;
}
