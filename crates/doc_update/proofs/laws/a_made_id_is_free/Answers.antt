use Rattle.doc_update.proofs.FreeNumbers.{made_is_free}
use Rattle.doc_update.proofs.laws.a_made_id_is_free.Goals as goal

pub returns : goal.returns
returns c = record { free = made_is_free }
