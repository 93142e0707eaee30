use Rattle.wire_model.proofs.Alone.{alone}
use Rattle.wire_model.proofs.pair_laws.a_client_holds_alone.Goals as goal

pub returns : goal.returns
returns c = λ c limit window first_id acts new are run. alone limit c first_id window acts new are run
