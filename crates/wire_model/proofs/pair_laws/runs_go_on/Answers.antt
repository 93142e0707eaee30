use Rattle.wire_model.proofs.GoingOn.{client_on, sent_on, taken_on}
use Rattle.wire_model.proofs.pair_laws.runs_go_on.Goals as goal

pub returns : goal.returns
returns c = λ c acts more old mid new run on. (client_on c acts more old mid new run on, sent_on acts more, taken_on acts more)
