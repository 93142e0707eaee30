use Rattle.client_examples.proofs.Listing.{Listed}
use Rattle.client_examples.proofs.pair.lines.write_calls.Given as goal

abbrev pub invariant-loop-k : goal.invariant-loop-k
invariant-loop-k g l = Listed (g.W.Write.contents l.initial.out) (g.W.Write.contents l.out) l.calls l.k
