use Rattle.std.proofs.Common.{List, map}
use Rattle.std.specs.Prelude.{◌↔◌}
use Rattle.bson_elem.specs.{Tree}
use Rattle.wire_msg.specs.Documents.{DocumentsAre, DocumentsLeft}
use Rattle.replay.specs.Same.{AreSameDocuments}
use Rattle.replay.proofs.content.are_same_lists.Given as goal

abbrev pub invariant-loop-document : goal.invariant-loop-document
invariant-loop-document l =
    (goal.iterator-loop-document).can_next l.document-iterator × (goal.iterator-loop-document).is_finite l.document-iterator
    × ((ts us : List Tree) → DocumentsAre l.fn.recorded ts → DocumentsAre l.fn.received us
    → (xs : List Tree) × (ys : List Tree) × DocumentsLeft l.document-iterator xs × DocumentsLeft l.others ys
    × (AreSameDocuments (map (λ n. n.now) l.names) ts us ↔ AreSameDocuments (map (λ n. n.now) l.names) xs ys))
