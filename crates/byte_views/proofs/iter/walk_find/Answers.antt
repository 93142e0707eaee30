use Rattle.std.proofs.Common.{arith}
use Rattle.byte_views.proofs.FindLaws.{finds_named}
use Rattle.byte_views.proofs.iter.walk_find.Goals as goal

pub returns-clause-pairs : goal.returns-clause-pairs
returns-clause-pairs c = finds_named c.args.bytes.now c.args.name.now c.args.iter.now c.find-iter.new.element c.find-iter.result (omega arith) c.find-iter.ensures
