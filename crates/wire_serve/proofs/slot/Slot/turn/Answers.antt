use Rattle.wire_serve.specs.Slots.{tells}
use Rattle.wire_serve.proofs.Runs.{all_steps, last_step, none_yet, one_more}
use Rattle.wire_serve.proofs.slot.Slot.turn.Goals as goal

pub loop-i-init : goal.loop-i-init
loop-i-init g c = none_yet g.H.Handler.does g.H.Handler.stops (tells g.L.Link.received g.L.Link.sent g.L.Link.ends g.L.Link.waits g.L.Link.failures) c.args.self.now c.args.logged.now

pub loop-i-preserved : goal.loop-i-preserved
loop-i-preserved g c =
    one_more g.H.Handler.does g.H.Handler.stops (tells g.L.Link.received g.L.Link.sent g.L.Link.ends g.L.Link.waits g.L.Link.failures) c.loop-i.i c.args.self.now c.loop-i.self c.step.new.self
    c.args.logged.now c.loop-i.logged c.step.new.logged c.loop-i.invariant (rw c.in-Again.is at c.step.ensures)

pub returns-in_default : goal.returns-in_default
returns-in_default g c =
    last_step g.H.Handler.does g.H.Handler.stops (tells g.L.Link.received g.L.Link.sent g.L.Link.ends g.L.Link.waits g.L.Link.failures) c.step.result c.loop-i.i c.args.steps c.args.self.now c.loop-i.self c.step.new.self
    c.args.logged.now c.loop-i.logged c.step.new.logged c.loop-i.invariant c.loop-i-test.true c.in_default.not-Again c.step.ensures

pub returns : goal.returns
returns g c =
    all_steps g.H.Handler.does g.H.Handler.stops (tells g.L.Link.received g.L.Link.sent g.L.Link.ends g.L.Link.waits g.L.Link.failures) c.loop-i.i c.args.steps c.args.self.now c.loop-i.self
    c.args.logged.now c.loop-i.logged c.loop-i.invariant c.loop-i.auto.i-end c.loop-i-test.false
