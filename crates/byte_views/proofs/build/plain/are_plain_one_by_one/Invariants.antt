use Rattle.byte_views.specs.Plain.{ArePlain}
use Rattle.byte_views.proofs.build.plain.are_plain_one_by_one.Given as goal

abbrev pub invariant-loop-b : goal.invariant-loop-b
invariant-loop-b l = ArePlain l.bytes 0 l.b-index
