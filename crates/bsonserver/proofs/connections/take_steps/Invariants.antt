use Rattle.bsonserver.specs.Runs.{GoesOnServing}
use Rattle.bsonserver.proofs.connections.take_steps.Given as goal

-- the server served on so far
abbrev pub invariant-loop : goal.invariant-loop
invariant-loop g l = GoesOnServing l.initial.serving l.serving (g.W.Write.contents l.initial.out) (g.W.Write.contents l.out)
