use Rattle.std.proofs.Common.{Err, ap, refl}
use Rattle.std.proofs.KnownBytes.{Keeps-refl}
use Rattle.wire_play.specs.Naming.{event}
use Rattle.wire_play.proofs.OneName.{setup_or_event}
use Rattle.wire_play.proofs.playing.play_line.Goals as goal

pub returns-in-Err-Malformed-clause-played : goal.returns-in-Err-Malformed-clause-played
returns-in-Err-Malformed-clause-played g c =
    (λ e names. c.in-Err-Malformed.ensures.nothing (ap Err c.in-Err-Malformed.field-0-is) (event e) names, refl, Keeps-refl _)

pub returns-in-Ok-World-clause-played : goal.returns-in-Ok-World-clause-played
returns-in-Ok-World-clause-played g c =
    (λ e names. setup_or_event c.args.line.now c.in-Ok-World.field-0-0 e (rw c.in-Ok-World.field-0-is at c.in-Ok-World.ensures.named) names, refl, Keeps-refl _)
