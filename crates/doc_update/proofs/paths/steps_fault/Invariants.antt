use Rattle.std.proofs.Common.{◌≡◌}
use Rattle.doc_query.specs.{left_len, steps, steps_left}
use Rattle.doc_update.specs.Paths.{steps_fault}
use Rattle.doc_update.proofs.paths.steps_fault.Given as goal

abbrev pub invariant-loop-rest : goal.invariant-loop-rest
invariant-loop-rest l = steps_fault (steps_left l.rest) ≡ steps_fault (steps l.fn.path)

abbrev pub decreases-loop-rest : goal.decreases-loop-rest
decreases-loop-rest l = left_len l.rest
