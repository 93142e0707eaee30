use Rattle.std.proofs.Common.{arith, sym, ◌∙◌}
use Rattle.wire_serve.specs.Slots.{tells}
use Rattle.wire_serve.proofs.Runs.{moves_turn}
use Rattle.wire_serve.proofs.Steps.{empty_by, nil_by, opens}
use Rattle.wire_serve.proofs.slot.Slot.step.Goals as goal

pub take-requires-clause-ready : goal.take-requires-clause-ready
take-requires-clause-ready g c =
    let f = c.self.inside.conn in
    let is = opens f.cause f.server.state (sym c.state.ensures ∙ c.in-Open.is) in
    rw (← c.self.view_is) (record {
      own = is.0;
      is_open = is.1;
      none_waits = nil_by f.server.waiting (omega (arith, c.waiting.ensures.count, c.if-waiting-gt0.false));
      window = c.waiting.ensures.window;
      all_sent = empty_by c.is_empty.result f.output c.output.result.now c.is_empty.ensures c.if-not-is_empty.false c.output.ensures;
    })

pub receive-requires-clause-ready : goal.receive-requires-clause-ready
receive-requires-clause-ready g c =
    let f = c.self.inside.conn in
    let is = opens f.cause f.server.state (sym c.state.ensures ∙ c.in-Open.is) in
    rw (← c.self.view_is) (record {
      own = is.0;
      is_open = is.1;
      none_waits = nil_by f.server.waiting (omega (arith, c.waiting.ensures.count, c.if-waiting-gt0.false));
      window = c.waiting.ensures.window;
      all_sent = empty_by c.is_empty.result f.output c.output.result.now c.is_empty.ensures c.if-not-is_empty.false c.output.ensures;
    })

pub returns-then-not-is_empty : goal.returns-then-not-is_empty
returns-then-not-is_empty g c =
    moves_turn g.H.Handler.does g.H.Handler.stops (tells g.L.Link.received g.L.Link.sent g.L.Link.ends g.L.Link.waits g.L.Link.failures)
    c.send.result c.args.self.now c.send.new.self c.args.logged.now c.send.ensures

pub returns-then-not-is_empty-2 : goal.returns-then-not-is_empty-2
returns-then-not-is_empty-2 g c =
    moves_turn g.H.Handler.does g.H.Handler.stops (tells g.L.Link.received g.L.Link.sent g.L.Link.ends g.L.Link.waits g.L.Link.failures)
    c.take.result c.args.self.now c.take.new.self c.args.logged.now c.take.ensures

pub returns-else-not-is_empty-2 : goal.returns-else-not-is_empty-2
returns-else-not-is_empty-2 g c =
    moves_turn g.H.Handler.does g.H.Handler.stops (tells g.L.Link.received g.L.Link.sent g.L.Link.ends g.L.Link.waits g.L.Link.failures)
    c.receive.result c.args.self.now c.receive.new.self c.args.logged.now c.receive.ensures
