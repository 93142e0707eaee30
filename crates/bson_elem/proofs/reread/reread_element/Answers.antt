use Rattle.std.proofs.Common.{arith}
use Rattle.bson_elem.proofs.ViewLaws.{IsSeen, seen_in}
use Rattle.bson_elem.proofs.reread.reread_element.Goals as goal
use Rattle.bson_elem.proofs.reread.reread_element.Goals.{After-reread_in}

seen : (c : After-reread_in) → IsSeen c.args.bytes.now 1 0 c.args.at c.args.end c.reread_in.result.0.now c.reread_in.result.1 c.reread_in.result.2.now
seen c = seen_in c.args.bytes.now 1 0 c.args.at c.args.end c.reread_in.result.0.now c.reread_in.result.1 c.reread_in.result.2.now (λ i. (c.type_inv.bytes i).fits) c.requires.inside c.requires.whole c.reread_in.ensures.read

pub overflow_sub-result : goal.overflow_sub-result
overflow_sub-result c = let s = seen (goal.at.overflow_sub-result c).After-reread_in in omega (arith, s.shorter)

pub returns-clause-next : goal.returns-clause-next
returns-clause-next c = let s = seen (goal.at.returns-clause-next c).After-reread_in in (omega (arith, s.shorter), omega arith)

pub returns-clause-read : goal.returns-clause-read
returns-clause-read c = (seen (goal.at.returns-clause-read c).After-reread_in).read
