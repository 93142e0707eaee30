use Rattle.std.proofs.Common.{refl}
use Rattle.wire_share.specs.Cores.{LosesUp}
use Rattle.wire_share.specs.Running.{seen}
use Rattle.shared_proxy.proofs.Closings.{ends_one}
use Rattle.shared_proxy.proofs.sharing.Sharing.drop_server.Goals as goal

pub returns-clause-ends : goal.returns-clause-ends
returns-clause-ends c =
    ends_one (LosesUp c.args.upstream) refl ((seen c.args.self.now.core).ups c.args.upstream) c.args.self.now.core c.lose.new.self c.lose.ensures.lost c.lose.ensures.none
