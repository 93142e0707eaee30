use Rattle.std.proofs.Common.{arith}
use Rattle.byte_views.proofs.Nexts.{step_gives}
use Rattle.byte_views.proofs.iter.walk_next.Goals as goal

pub returns-clause-pairs : goal.returns-clause-pairs
returns-clause-pairs c = step_gives c.args.bytes.now c.args.iter.now c.step-iter.new.element c.step-iter.result (omega arith) c.step-iter.ensures
