use Rattle.byte_views.proofs.OneAnswer.{one_document_check}
use Rattle.byte_views.proofs.laws.one_document_check.Goals as goal

pub returns : goal.returns
returns c = one_document_check
