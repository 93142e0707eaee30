use Rattle.std.proofs.Common.{[], ◌∷◌}
use Rattle.replay.specs.MatchingRuns.{expect}
use Rattle.replay.specs.Talks.{losing}
use Rattle.replay.proofs.Doing.{does_both}
use Rattle.replay.proofs.conn.Conn.expect.Goals as goal

pub returns-in_ok-lose-clause-does : goal.returns-in_ok-lose-clause-does
returns-in_ok-lose-clause-does g c =
    let d = c.in_ok-expect.ensures.does in
    (d.0, losing c.args.self.now.untold, d.1, does_both (expect d.0 ∷ []) (losing c.args.self.now.untold) _ _ _ _ _ _ d.2 c.in_ok-lose.ensures.does)
