use Rattle.std.proofs.Common.{◌≡◌}
use Rattle.script_lines.specs.{lines_left}
use Rattle.wire_play.proofs.Plays.{SoFar}
use Rattle.wire_play.proofs.playing.play_lines.Given as goal

-- playing the lines that are left completes the playing of all
abbrev pub invariant-loop-line : goal.invariant-loop-line
invariant-loop-line g l =
    (goal.iterator-loop-line g).can_next l.line-iterator ×
    (goal.iterator-loop-line g).is_finite l.line-iterator ×
    (l.world.limits ≡ l.initial.world.limits) ×
    SoFar g.H.Handler.does g.H.Handler.stops l.initial.world.limits l.initial.world.state (lines_left l.fn.lines) l.world.state (lines_left l.line-iterator)
    (g.W.Write.contents l.initial.out) (g.W.Write.contents l.out)
