use Rattle.file_commands.proofs.MessageLaws.{one_msg_text}
use Rattle.file_commands.proofs.laws.one_text_of_messages.Goals as goal

pub returns : goal.returns
returns c = one_msg_text
