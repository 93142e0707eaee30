use Rattle.client_examples.specs.Pairs.{Reached}
use Rattle.client_examples.proofs.pair.runs.run.Given as goal

abbrev pub invariant-loop : goal.invariant-loop
invariant-loop g l = Reached g.H.Handler.does g.H.Handler.stops l.fn.handler l.ends
