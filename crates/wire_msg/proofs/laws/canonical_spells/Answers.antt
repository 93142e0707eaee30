use Rattle.wire_msg.proofs.WriteLaws.{canonical_spelled}
use Rattle.wire_msg.proofs.laws.canonical_spells.Goals as goal

pub returns : goal.returns
returns c = λ m id response_to content short. canonical_spelled m id response_to content short
