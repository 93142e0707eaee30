use Rattle.client_examples.proofs.Moving.{stays}
use Rattle.client_examples.proofs.pair.runs.call.Goals as goal

pub returns-then-len-most : goal.returns-then-len-most
returns-then-len-most g c = stays g.H.Handler.does g.H.Handler.stops c.args.ends.now
