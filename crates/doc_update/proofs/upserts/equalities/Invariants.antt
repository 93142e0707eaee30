use Rattle.std.proofs.Common.{◌≡◌, []}
use Rattle.doc_update.specs.Upserts.{with_equalities}
use Rattle.doc_update.proofs.upserts.equalities.Given as goal

abbrev pub invariant-loop-name : goal.invariant-loop-name
invariant-loop-name l = with_equalities l.fn.filter [] ≡ with_equalities l.name-iterator l.fields
