use Rattle.file_commands.proofs.TextLaws.{one_told}
use Rattle.file_commands.proofs.laws.one_text.Goals as goal

pub returns : goal.returns
returns c = one_told
