use Rattle.std.proofs.Common.{refl}
use Rattle.replay.proofs.Comparing.{rest_from}
use Rattle.replay.proofs.carrying.tail_of.Goals as goal

pub returns : goal.returns
returns c = rest_from 21 c.args.bytes.now c.get.result _ c.unwrap_or.result c.unwrap_or.ensures refl c.get.ensures.lookup.0
