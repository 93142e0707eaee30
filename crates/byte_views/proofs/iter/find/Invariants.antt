use Rattle.std.proofs.Common.{◌-◌}
use Rattle.byte_views.specs.Finding.{Passes}
use Rattle.byte_views.proofs.iter.find.Given as goal

-- the elements that were passed
abbrev pub invariant-loop-next : goal.invariant-loop-next
invariant-loop-next l = Passes l.bytes l.name l.fn.iter l.at

abbrev pub decreases-loop-next : goal.decreases-loop-next
decreases-loop-next l = l.fn.iter.end - l.at
