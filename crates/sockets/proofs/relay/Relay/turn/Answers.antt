use Rattle.std.proofs.Common.{arith}
use Rattle.std.proofs.lemmas.Result.{err_from_is_err_and}
use Rattle.sockets.specs.RelayActs.{tells}
use Rattle.sockets.proofs.RelayRuns.{all_steps, last_fails, last_step, none_yet, one_more}
use Rattle.sockets.proofs.relay.Relay.turn.Goals as goal

pub loop-i-init : goal.loop-i-init
loop-i-init g c = none_yet (tells g.N.Link.received g.N.Link.sent g.N.Link.ends g.N.Link.waits g.N.Link.failures g.N.EndSending.endings) (tells g.F.Link.received g.F.Link.sent g.F.Link.ends g.F.Link.waits g.F.Link.failures g.F.EndSending.endings) c.args.self.now _ _

pub returns-in_err-over : goal.returns-in_err-over
returns-in_err-over g c =
    let told = err_from_is_err_and c.from_residual.result c.from_residual.ensures.1 in
    rw (told.1, told.2) (last_fails (tells g.N.Link.received g.N.Link.sent g.N.Link.ends g.N.Link.waits g.N.Link.failures g.N.EndSending.endings) (tells g.F.Link.received g.F.Link.sent g.F.Link.ends g.F.Link.waits g.F.Link.failures g.F.EndSending.endings) c.args.steps c.loop-i.i c.in_err-over.field-0.0 _ _ _ _ _ _ _ _ _ c.loop-i.invariant c.loop-i-test.true c.in_err-over.ensures)

pub returns-in_default : goal.returns-in_default
returns-in_default g c = last_step (tells g.N.Link.received g.N.Link.sent g.N.Link.ends g.N.Link.waits g.N.Link.failures g.N.EndSending.endings) (tells g.F.Link.received g.F.Link.sent g.F.Link.ends g.F.Link.waits g.F.Link.failures g.F.EndSending.endings) c.args.steps c.loop-i.i _ _ _ _ _ _ _ _ _ _ c.loop-i.invariant c.loop-i-test.true c.in_default.not-Again c.in_ok-over.ensures

pub loop-i-preserved : goal.loop-i-preserved
loop-i-preserved g c = one_more (tells g.N.Link.received g.N.Link.sent g.N.Link.ends g.N.Link.waits g.N.Link.failures g.N.EndSending.endings) (tells g.F.Link.received g.F.Link.sent g.F.Link.ends g.F.Link.waits g.F.Link.failures g.F.EndSending.endings) c.loop-i.i _ _ _ _ _ _ _ _ _ c.loop-i.invariant (rw c.in-Again.is at c.in_ok-over.ensures)

pub returns : goal.returns
returns g c = all_steps (tells g.N.Link.received g.N.Link.sent g.N.Link.ends g.N.Link.waits g.N.Link.failures g.N.EndSending.endings) (tells g.F.Link.received g.F.Link.sent g.F.Link.ends g.F.Link.waits g.F.Link.failures g.F.EndSending.endings) c.args.steps c.loop-i.i _ _ _ _ _ _ c.loop-i.invariant c.loop-i.auto.i-end (omega (arith, c.loop-i-test.false))
