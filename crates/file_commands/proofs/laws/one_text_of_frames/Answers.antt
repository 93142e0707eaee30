use Rattle.file_commands.proofs.FrameLaws.{one_any_text}
use Rattle.file_commands.proofs.laws.one_text_of_frames.Goals as goal

pub returns : goal.returns
returns c = one_any_text
