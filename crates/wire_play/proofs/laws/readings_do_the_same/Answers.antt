use Rattle.wire_play.proofs.Steps.{same_step}
use Rattle.wire_play.proofs.laws.readings_do_the_same.Goals as goal

pub returns : goal.returns
returns g c = λ l old new line e f r. same_step g.H.Handler.does g.H.Handler.stops l old new line e f r
