use Rattle.shared_proxy.proofs.Runs.{run_after, run_on}
use Rattle.shared_proxy.proofs.turns.TurnsEventLoop.serve_some.Goals as goal

pub returns : goal.returns
returns g c = record { run = run_after c.release.ensures.core (run_on c.take_turns.ensures.run (run_on c.turn_due.ensures.run c.accept_some.ensures.run)) }
