use Rattle.std.proofs.Common.{◌≡◌}
use Rattle.doc_update.specs.Operators.{are_modifiers}
use Rattle.doc_update.proofs.operators.are_modifiers.Given as goal

abbrev pub invariant-loop-name : goal.invariant-loop-name
invariant-loop-name l = are_modifiers l.fn.update ≡ are_modifiers l.name-iterator
