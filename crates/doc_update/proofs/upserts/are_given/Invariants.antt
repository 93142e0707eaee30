use Rattle.std.proofs.Common.{◌≡◌}
use Rattle.doc_update.specs.Upserts.{are_given}
use Rattle.doc_update.proofs.upserts.are_given.Given as goal

abbrev pub invariant-loop-name : goal.invariant-loop-name
invariant-loop-name l = are_given l.fn.filter ≡ are_given l.name-iterator
