use Rattle.byte_views.proofs.OneAnswer.{one_documents_walk}
use Rattle.byte_views.proofs.laws.one_documents_walk.Goals as goal

pub returns : goal.returns
returns c = one_documents_walk
