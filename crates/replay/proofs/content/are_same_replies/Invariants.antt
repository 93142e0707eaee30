use Rattle.std.proofs.Common.{List, ℕ, length, map}
use Rattle.std.specs.Prelude.{◌↔◌}
use Rattle.bson_elem.specs.{Tree}
use Rattle.bson_raw.specs.{DocumentSplit}
use Rattle.replay.specs.Same.{AreSameDocuments}
use Rattle.replay.proofs.content.are_same_replies.Given as goal

abbrev pub invariant-loop-a : goal.invariant-loop-a
invariant-loop-a l =
    (ts us : List Tree) (rest other : List ℕ) → DocumentSplit l.fn.recorded ts rest → DocumentSplit l.fn.received us other
    → (xs : List Tree) × (ys : List Tree) × DocumentSplit l.left xs rest × DocumentSplit l.other ys other
    × (AreSameDocuments (map (λ n. n.now) l.names) ts us ↔ AreSameDocuments (map (λ n. n.now) l.names) xs ys)

abbrev pub decreases-loop-a : goal.decreases-loop-a
decreases-loop-a l = length l.left
