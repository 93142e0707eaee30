use Rattle.std.proofs.Common.{rules}
use Rattle.client_examples.proofs.Moving.{begun}
use Rattle.client_examples.proofs.pair.ends.Ends.new.Goals as goal

pub returns : goal.returns
returns g c = begun g.H.Handler.does g.H.Handler.stops c.args.handler _ (search rules) (search rules) (search rules) (search rules) (search rules) (search rules) (search rules)
