use Rattle.byte_views.proofs.OffsetLaws.{step_offsets}
use Rattle.byte_views.proofs.laws.walked_offsets.Goals as goal

pub returns : goal.returns
returns c = step_offsets
