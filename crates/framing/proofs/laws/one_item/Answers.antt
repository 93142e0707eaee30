use Rattle.framing.proofs.ItemLaws.{one_item}
use Rattle.framing.proofs.laws.one_item.Goals as goal

pub returns-clause-whole : goal.returns-clause-whole
returns-clause-whole g c = one_item _
