use Rattle.std.proofs.KnownBytes.{Appends-nil}
use Rattle.wire_play.proofs.Plays.{world_played}
use Rattle.wire_play.proofs.playing.play_world.Goals as goal

pub returns-in-Some : goal.returns-in-Some
returns-in-Some g c = world_played _ _ _ _ _ _ _ _ _ _ _ _ c.in-Some.is c.in_ok-write_all.ensures.bytes c.in_ok-number.ensures.played (Appends-nil _)

pub returns-in_ok-write_closing-in-None : goal.returns-in_ok-write_closing-in-None
returns-in_ok-write_closing-in-None g c =
    world_played _ _ _ _ _ _ _ _ _ _ _ _ c.in-None.is c.in_ok-write_all.ensures.bytes c.in_ok-number.ensures.played c.in_ok-write_closing-in-None.ensures
