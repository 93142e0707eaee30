use Rattle.bsonserver.specs.Runs.{GoesOnServing}
use Rattle.bsonserver.proofs.connections.finish_each.Given as goal

-- the server served on so far
abbrev pub invariant-loop-event : goal.invariant-loop-event
invariant-loop-event g l = GoesOnServing l.initial.serving l.serving (g.W.Write.contents l.initial.out) (g.W.Write.contents l.out)
