use Rattle.std.proofs.Common.{List, map}
use Rattle.std.specs.Prelude.{◌↔◌}
use Rattle.wire_msg.specs.{Carries, Content, Sequence}
use Rattle.wire_msg.specs.Sequences.{SequencesLeft}
use Rattle.replay.specs.Same.{IsSameSequence, OneByOne}
use Rattle.replay.proofs.content.are_same_sequences.Given as goal

abbrev pub invariant-loop-sequence : goal.invariant-loop-sequence
invariant-loop-sequence l =
    (goal.iterator-loop-sequence).can_next l.sequence-iterator × (goal.iterator-loop-sequence).is_finite l.sequence-iterator
    × ((a b : Content) → Carries l.fn.recorded a → Carries l.fn.received b
    → (xs : List Sequence) × (ys : List Sequence) × SequencesLeft l.sequence-iterator xs × SequencesLeft l.others ys
    × (OneByOne (IsSameSequence (map (λ n. n.now) l.names)) a.sequences b.sequences ↔ OneByOne (IsSameSequence (map (λ n. n.now) l.names)) xs ys))
