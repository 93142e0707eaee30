use Rattle.replay.specs.Counts.{HasTold}
use Rattle.replay.proofs.lanes.Lanes.turn.Given as goal

abbrev pub invariant-loop : goal.invariant-loop
invariant-loop g l = HasTold l.fn.teller.tally l.teller.tally
