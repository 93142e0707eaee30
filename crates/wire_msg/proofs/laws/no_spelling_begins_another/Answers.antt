use Rattle.wire_msg.proofs.StandingLaws.{no_other}
use Rattle.wire_msg.proofs.laws.no_spelling_begins_another.Goals as goal

pub returns : goal.returns
returns c = no_other
