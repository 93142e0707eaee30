use Rattle.bson_elem.proofs.NameLaws.{IsNonzeroAsciiTo}
use Rattle.bson_elem.proofs.text.near_zero.Given as goal

abbrev pub invariant-loop-n : goal.invariant-loop-n
invariant-loop-n l = IsNonzeroAsciiTo l.bytes l.n
