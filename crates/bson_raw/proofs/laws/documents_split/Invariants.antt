use Rattle.std.proofs.Common.{List, length}
use Rattle.bson_elem.specs.Trees.{Tree}
use Rattle.bson_raw.proofs.Splits.{Walked}
use Rattle.bson_raw.proofs.laws.documents_split.Given as goal

abbrev pub invariant-loop-rest : goal.invariant-loop-rest
invariant-loop-rest l = (seen : List Tree) × Walked l.bytes seen l.rest

abbrev pub decreases-loop-rest : goal.decreases-loop-rest
decreases-loop-rest l = length l.rest
