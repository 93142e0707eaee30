use Rattle.std.proofs.Common.{◌∙◌, Bool, Ok, ap}
use Rattle.shared_proxy.proofs.Passings.{went}
use Rattle.shared_proxy.proofs.sharing.Sharing.pass_over.Goals as goal

pub returns-then-branch-clause-waits : goal.returns-then-branch-clause-waits
returns-then-branch-clause-waits g c = λ is. (c.waits.ensures.blocked (c.in_ok-waits.was ∙ ap (λ (waits : Bool). Ok waits) c.if-branch.true), c.waits.ensures.core)

pub returns-clause-went : goal.returns-clause-went
returns-clause-went g c = λ is.
    went c.args.number c.args.upstream c.in_ok-leave.leave c.pass_on.result c.args.self.now c.waits.new.self c.pass_on.new.self c.close_for.new.self c.unblock.new.self
    c.in_ok-leave.was c.waits.ensures.core c.pass_on.ensures.passed c.pass_on.ensures.refused (λ n. (c.close_for.ensures.none n).1) c.close_for.ensures.closed
    c.unblock.ensures.core c.unblock.ensures.same.clients
