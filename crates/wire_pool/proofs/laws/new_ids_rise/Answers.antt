use Rattle.wire_pool.specs.Pools.{new_pool}
use Rattle.wire_pool.proofs.RunLaws.{rises}
use Rattle.wire_pool.proofs.laws.new_ids_rise.Goals as goal

pub returns : goal.returns
returns c = λ max calls. (rises calls (new_pool max)).1
