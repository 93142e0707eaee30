use Rattle.std.proofs.Common.{Err, ap, sym, ◌∙◌}
use Rattle.wire_play.specs.Naming.{setup}
use Rattle.wire_play.proofs.OneName.{setup_or_event}
use Rattle.wire_play.proofs.Plays.{first_faulted, first_played}
use Rattle.wire_play.proofs.playing.play.Goals as goal

pub returns-in-Ok-World : goal.returns-in-Ok-World
returns-in-Ok-World g c =
    first_played _ (c.in-Some.line.number, c.in-Some.line.text.now) _ _ c.in-Ok-World.setup _ _ (sym c.new-lines.ensures ∙ c.in-Some.ensures.steps)
    (rw c.in-Ok-World.field-0-is at c.in-Ok-World.ensures.named) c.play_setup.ensures

pub returns-in-Ok-Event : goal.returns-in-Ok-Event
returns-in-Ok-Event g c =
    let named = rw c.in-Ok-Event.field-0-is at c.in-Ok-Event.ensures.named in
    first_faulted (c.in-Some.line.number, c.in-Some.line.text.now) _ _ _ (sym c.new-lines.ensures ∙ c.in-Some.ensures.steps)
    (λ s names. setup_or_event c.in-Some.line.text.now s c.as_event.result names (named c.as_event.result c.as_event.ensures))

pub returns-in-Err-Malformed : goal.returns-in-Err-Malformed
returns-in-Err-Malformed g c =
    first_faulted (c.in-Some.line.number, c.in-Some.line.text.now) _ _ _ (sym c.new-lines.ensures ∙ c.in-Some.ensures.steps)
    (λ s names. c.in-Err-Malformed.ensures.nothing (ap Err c.in-Err-Malformed.field-0-is) (setup s) names)
