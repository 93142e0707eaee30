use Rattle.replay.proofs.player.Player.index_of.Goals as goal

pub returns-in_ok-add-clause-made : goal.returns-in_ok-add-clause-made
returns-in_ok-add-clause-made g c = λ new. (c.in_ok-conn.conn, c.in_ok-conn.ensures.0, c.in_ok-add.ensures.added)
