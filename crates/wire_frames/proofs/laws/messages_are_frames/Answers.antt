use Rattle.wire_frames.proofs.MessageLaws.{lacking_bad, message_framed}
use Rattle.wire_frames.proofs.laws.messages_are_frames.Goals as goal

pub returns : goal.returns
returns c = record { message = message_framed; fault = lacking_bad }
