use Rattle.replay.proofs.Doing.{some_both, some_of}
use Rattle.replay.proofs.conn.Conn.fail.Goals as goal

pub returns-clause-does : goal.returns-clause-does
returns-clause-does g c = some_both _ _ _ _ _ _ c.in_ok-take_held.ensures.does (some_of _ _ _ _ _ c.in_ok-close.ensures.does)
