use Rattle.byte_views.proofs.OneMessageAnswer.{one_message_check}
use Rattle.byte_views.proofs.laws.one_message_check.Goals as goal

pub returns : goal.returns
returns c = one_message_check
