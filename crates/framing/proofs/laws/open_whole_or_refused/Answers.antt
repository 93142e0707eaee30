use Rattle.framing.proofs.ItemLaws.{stands}
use Rattle.framing.proofs.laws.open_whole_or_refused.Goals as goal

pub returns : goal.returns
returns g c = stands _ _ _ c.read_item.ensures.first
