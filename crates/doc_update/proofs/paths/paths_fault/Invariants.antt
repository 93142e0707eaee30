use Rattle.std.proofs.Common.{◌≡◌}
use Rattle.doc_update.specs.Paths.{paths_fault}
use Rattle.doc_update.proofs.paths.paths_fault.Given as goal

abbrev pub invariant-loop-path : goal.invariant-loop-path
invariant-loop-path l = paths_fault l.fn.fields ≡ paths_fault l.path-iterator
