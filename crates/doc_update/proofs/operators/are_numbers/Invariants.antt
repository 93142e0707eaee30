use Rattle.std.proofs.Common.{◌≡◌}
use Rattle.doc_update.specs.Operators.{are_numbers}
use Rattle.doc_update.proofs.operators.are_numbers.Given as goal

abbrev pub invariant-loop-value : goal.invariant-loop-value
invariant-loop-value l = are_numbers l.fn.fields ≡ are_numbers l.value-iterator
