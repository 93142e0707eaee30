use Rattle.std.proofs.Common.{◌≡◌, ◌≤◌, List, length}
use Rattle.bson_elem.specs.Trees.{Tree}
use Rattle.wire_msg.specs.Messages.{Sequence, AreSequences}
use Rattle.wire_msg.specs.Spelling.{sequences_bytes}
use Rattle.wire_msg.specs.Checks.{HasSequences}
use Rattle.wire_msg.proofs.NameLaws.{IsLeftOf}
use Rattle.wire_msg.proofs.names.offset_in_body.Given as goal

abbrev pub invariant-loop-rest : goal.invariant-loop-rest
invariant-loop-rest g l =
    ∥ HasSequences l.rest ∥₁ × (length l.rest ≤ length l.sequences) × ((t : Tree) (qs : List Sequence) → g.N.Names.are l.fn.fields t → AreSequences qs → l.sequences ≡ sequences_bytes qs → IsLeftOf t l.start l.sequences qs l.rest)

abbrev pub decreases-loop-rest : goal.decreases-loop-rest
decreases-loop-rest g l = length l.rest
