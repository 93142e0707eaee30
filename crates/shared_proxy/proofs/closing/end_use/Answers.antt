use Rattle.std.proofs.Common.{refl}
use Rattle.wire_share.specs.Cores.{Finishes}
use Rattle.wire_share.specs.Running.{seen}
use Rattle.shared_proxy.proofs.Closings.{ends_one}
use Rattle.shared_proxy.proofs.closing.end_use.Goals as goal

pub returns-clause-ends : goal.returns-clause-ends
returns-clause-ends c =
    ends_one (Finishes c.args.upstream) refl ((seen c.args.core.now).ups c.args.upstream) c.args.core.now c.finish.new.self c.finish.ensures.finished c.finish.ensures.none
