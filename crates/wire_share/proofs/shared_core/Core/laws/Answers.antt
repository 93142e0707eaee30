use Rattle.wire_share.specs.Cores.{core_seen}
use Rattle.wire_share.proofs.Runs.{lawful_from}
use Rattle.wire_share.proofs.shared_core.Core.laws.Goals as goal

pub returns : goal.returns
returns c = lawful_from (core_seen c.args.self.now.state) c.lawful.ensures c.args.self.now.reached
