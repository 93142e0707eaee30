use Rattle.std.proofs.Common.{◌-◌}
use Rattle.byte_views.specs.declared.view.View.{View}
use Rattle.byte_views.specs.Spans.{IsElementSpan}
use Rattle.byte_views.proofs.span.element_span.Given as goal

-- what is told from the place on is told from the first place on
abbrev pub invariant-loop-place : goal.invariant-loop-place
invariant-loop-place l = (v : View) → IsElementSpan l.bytes l.offset l.place v → IsElementSpan l.bytes l.offset l.fn.iter v

abbrev pub decreases-loop-place : goal.decreases-loop-place
decreases-loop-place l = l.offset - l.place.at
