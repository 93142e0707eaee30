use Rattle.text_writer.specs.Escapes.{NeedsNoEscapeBefore}
use Rattle.text_writer.proofs.escapes.escaped_one_by_one.Given as goal

abbrev pub invariant-loop-at : goal.invariant-loop-at
invariant-loop-at l = NeedsNoEscapeBefore l.bytes l.at
