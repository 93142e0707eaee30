use Rattle.bson_elem.proofs.ViewLaws.{lent_whole}
use Rattle.bson_elem.proofs.container.read_document.Goals as goal

pub returns-in-Ok-clause-lent : goal.returns-in-Ok-clause-lent
returns-in-Ok-clause-lent c = lent_whole c.args.at c.args.from c.args.bytes.now c.in-Ok.read.0.now c.in-Ok.read.1.now (λ i. (c.type_inv.bytes i).fits) c.in-Ok.ensures.read c.in-Ok.ensures.split
