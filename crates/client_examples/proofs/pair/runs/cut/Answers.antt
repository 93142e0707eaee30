use Rattle.client_examples.proofs.Moving.{stays}
use Rattle.client_examples.proofs.pair.runs.cut.Goals as goal

pub returns-else-word-eq0 : goal.returns-else-word-eq0
returns-else-word-eq0 g c = stays g.H.Handler.does g.H.Handler.stops c.args.ends.now
