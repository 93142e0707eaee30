use Rattle.byte_views.proofs.OneAnswer.{one_documents_check}
use Rattle.byte_views.proofs.laws.one_documents_check.Goals as goal

pub returns : goal.returns
returns c = one_documents_check
