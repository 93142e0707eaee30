use Rattle.std.proofs.Common.{◌≡◌}
use Rattle.doc_update.specs.Operators.{names_operator}
use Rattle.doc_update.proofs.operators.names_operator.Given as goal

abbrev pub invariant-loop-name : goal.invariant-loop-name
invariant-loop-name l = names_operator l.fn.fields ≡ names_operator l.name-iterator
