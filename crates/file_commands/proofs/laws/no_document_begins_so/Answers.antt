use Rattle.file_commands.proofs.DocumentBegins.{no_document}
use Rattle.file_commands.proofs.laws.no_document_begins_so.Goals as goal

pub returns : goal.returns
returns c = no_document
