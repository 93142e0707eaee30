use Rattle.byte_views.proofs.ToldFront.{one_message_front}
use Rattle.byte_views.proofs.laws.one_message_front.Goals as goal

pub returns : goal.returns
returns c = one_message_front
