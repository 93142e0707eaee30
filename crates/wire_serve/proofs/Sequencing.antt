-- The sequences of a message that has none, and its OP_REPLY.
use Rattle.std.proofs.Common.{◌≡◌, ℕ, List, [], ◌∷◌, Option, Some, None, true, false}
use Rattle.std.specs.Prelude.{is_some}
use Rattle.std.specs.Borrow.{Bor}
use Rattle.wire_msg.specs.Messages.{Sequence}
use Rattle.wire_msg.specs.Sequences.{SequenceStepsTo, SequencesLeft}
use Rattle.wire_msg.specs.declared.document_iter.Documents.{Documents}
use Rattle.wire_msg.specs.declared.sequence_iter.SequencesIter.{SequencesIter}

pub some_left : (s after : SequencesIter) (x : Option (Bor (List ℕ) × Documents)) → SequenceStepsTo s x after → is_some x ≡ true
    → (qs : List Sequence) → SequencesLeft s qs → qs ≡ [] → ⊥
some_left s after None steps is qs left none = absurd (cc)
some_left s after (Some x) steps is qs left none =
    let g = steps qs left in
    let e : qs ≡ g.sequence ∷ g.others = g.is_first in
    absurd (cc)

pub none_left : (s after : SequencesIter) (x : Option (Bor (List ℕ) × Documents)) → SequenceStepsTo s x after → is_some x ≡ false
    → (qs : List Sequence) → SequencesLeft s qs → qs ≡ []
none_left s after None steps is qs left = (steps qs left).0
none_left s after (Some x) steps is qs left = absurd (cc)
