use Rattle.wire_play.proofs.Plays.{over_played}
use Rattle.wire_play.proofs.playing.play_over.Goals as goal

pub returns-in-Ok : goal.returns-in-Ok
returns-in-Ok g c = over_played _ _ _ c.args.handler c.args.limits c.args.number _ _ _ _ c.in-Ok.ensures c.play_world.ensures
