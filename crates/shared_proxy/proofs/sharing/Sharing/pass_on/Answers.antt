use Rattle.std.proofs.Common.{inl, inr}
use Rattle.shared_proxy.proofs.Passings.{none_asks, of_passed, over_same}
use Rattle.shared_proxy.proofs.sharing.Sharing.pass_on.Goals as goal

pub returns-in-Err-Refused-NothingWaits-clause-passed : goal.returns-in-Err-Refused-NothingWaits-clause-passed
returns-in-Err-Refused-NothingWaits-clause-passed c =
    let arm = c.in-Err-Refused-NothingWaits in
    λ is. inr (none_asks c.args.number c.args.upstream c.args.self.now.core c.pass.new.self arm.field-0 arm.field-0-0 arm.field-0-is arm.field-0-0-is arm.ensures.refused)

pub returns-in_ok-push-in-Ok-clause-passed : goal.returns-in_ok-push-in-Ok-clause-passed
returns-in_ok-push-in-Ok-clause-passed c = λ is.
    inl (over_same c.args.number c.args.upstream c.args.self.now.core c.pass.new.self c.note.new.self.core c.note.ensures.core
    (of_passed c.args.number c.args.upstream c.args.self.now.core c.pass.new.self c.in-Ok.ensures.passed))
