use Rattle.std.proofs.Common.{◌≡◌}
use Rattle.doc_update.specs.Removing.{without_each}
use Rattle.doc_update.proofs.removing.remove_each.Given as goal

abbrev pub invariant-loop-path : goal.invariant-loop-path
invariant-loop-path l = without_each l.fn.fields l.fn.document ≡ without_each l.path-iterator l.document
