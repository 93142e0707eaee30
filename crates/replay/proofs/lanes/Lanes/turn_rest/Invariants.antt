use Rattle.replay.specs.Counts.{HasTold}
use Rattle.replay.proofs.lanes.Lanes.turn_rest.Given as goal

abbrev pub invariant-loop-i : goal.invariant-loop-i
invariant-loop-i g l = HasTold l.fn.teller.tally l.teller.tally
