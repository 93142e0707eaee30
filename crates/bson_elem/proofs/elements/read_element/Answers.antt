use Rattle.std.proofs.Common.{arith}
use Rattle.bson_elem.proofs.ViewLaws.{IsSeen, seen_in}
use Rattle.bson_elem.proofs.elements.read_element.Goals as goal
use Rattle.bson_elem.proofs.elements.read_element.Goals.{In_ok-name}

seen : (c : In_ok-name) → IsSeen c.args.bytes.now c.args.depth c.args.start c.args.at c.args.end c.in_ok-name.name.now c.in_ok-name.value c.in_ok-name.rest.now
seen c = seen_in c.args.bytes.now c.args.depth c.args.start c.args.at c.args.end c.in_ok-name.name.now c.in_ok-name.value c.in_ok-name.rest.now (λ i. (c.type_inv.bytes i).fits) c.requires.inside c.requires.whole c.in_ok-name.ensures.read

pub overflow_sub-result : goal.overflow_sub-result
overflow_sub-result c = let s = seen (goal.at.overflow_sub-result c).In_ok-name in omega (arith, s.shorter)

pub returns-clause-next : goal.returns-clause-next
returns-clause-next c = let s = seen (goal.at.returns-clause-next c).In_ok-name in (omega (arith, s.shorter), omega arith)

pub returns-clause-read : goal.returns-clause-read
returns-clause-read c = (seen (goal.at.returns-clause-read c).In_ok-name).read
