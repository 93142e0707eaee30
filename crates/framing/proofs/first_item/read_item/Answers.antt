use Rattle.framing.proofs.ItemLaws.{told_whole}
use Rattle.framing.proofs.first_item.read_item.Goals as goal

pub returns-clause-whole : goal.returns-clause-whole
returns-clause-whole g c = told_whole _ _ _ c.read.ensures
