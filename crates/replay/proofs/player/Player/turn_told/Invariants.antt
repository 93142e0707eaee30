use Rattle.replay.specs.Counts.{HasTold}
use Rattle.replay.proofs.player.Player.turn_told.Given as goal

abbrev pub invariant-loop-told : goal.invariant-loop-told
invariant-loop-told g l = HasTold l.fn.teller.tally l.teller.tally
