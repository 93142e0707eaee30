use Rattle.std.proofs.Common.{refl}
use Rattle.std.proofs.lemmas.Result.{err_from_is_err_and}
use Rattle.sockets.specs.RelayActs.{tells}
use Rattle.sockets.proofs.RelayRuns.{back_fails, both_step, there_fails}
use Rattle.sockets.proofs.relay.Relay.step.Goals as goal

pub returns-in_err-there : goal.returns-in_err-there
returns-in_err-there g c =
    let told = err_from_is_err_and c.from_residual.result c.from_residual.ensures.1 in
    rw (← c.self.view_is, told.1, told.2) (there_fails (tells g.N.Link.received g.N.Link.sent g.N.Link.ends g.N.Link.waits g.N.Link.failures g.N.EndSending.endings) (tells g.F.Link.received g.F.Link.sent g.F.Link.ends g.F.Link.waits g.F.Link.failures g.F.EndSending.endings) c.in_err-there.field-0.0 _ _ _ _ _ c.in_err-there.ensures refl)

pub returns-in_err-back : goal.returns-in_err-back
returns-in_err-back g c =
    let told = err_from_is_err_and c.from_residual-in_err-back.result c.from_residual-in_err-back.ensures.1 in
    rw (← c.self.view_is, told.1, told.2) (back_fails (tells g.N.Link.received g.N.Link.sent g.N.Link.ends g.N.Link.waits g.N.Link.failures g.N.EndSending.endings) (tells g.F.Link.received g.F.Link.sent g.F.Link.ends g.F.Link.waits g.F.Link.failures g.F.EndSending.endings) _ c.in_err-back.field-0.0 _ _ _ _ _ _ _
    (record { there_steps = c.in_ok-there.ensures; there_keeps = refl; back_steps = c.in_err-back.ensures; back_keeps = refl }))

pub returns : goal.returns
returns g c =
    rw (← c.self.view_is, c.and.ensures) (both_step (tells g.N.Link.received g.N.Link.sent g.N.Link.ends g.N.Link.waits g.N.Link.failures g.N.EndSending.endings) (tells g.F.Link.received g.F.Link.sent g.F.Link.ends g.F.Link.waits g.F.Link.failures g.F.EndSending.endings) _ _ _ _ _ _ _ _ _
    (record { there_steps = c.in_ok-there.ensures; there_keeps = refl; back_steps = c.in_ok-back.ensures; back_keeps = refl }))
