use Rattle.byte_views.proofs.OneMessageAnswer.{one_messages_check}
use Rattle.byte_views.proofs.laws.one_messages_check.Goals as goal

pub returns : goal.returns
returns c = one_messages_check
