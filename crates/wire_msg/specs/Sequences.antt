-- What the walk over document sequences returns.
use Rattle.std.specs.Prelude.{◌≡◌, ℕ, ◌+◌, List, [], ◌∷◌, length, Option, Some, None}
use Rattle.std.specs.Borrow.{Bor}
use Rattle.wire_msg.specs.Messages.{Sequence}
use Rattle.wire_msg.specs.Known.{AreRuns}
use Rattle.wire_msg.specs.Documents.{DocumentsAre}
use Rattle.wire_msg.specs.declared.document_iter.Documents.{Documents}
use Rattle.wire_msg.specs.declared.sequence_iter.SequencesIter.{SequencesIter}

-- the sequences that are left are these
abbrev pub SequencesLeft : SequencesIter → List Sequence → Type 0
SequencesLeft s qs = AreRuns s.bytes.now s.then.now qs

-- a bound on how many sequences are left
abbrev pub sequences_bound : SequencesIter → ℕ
sequences_bound s = length s.bytes.now + length s.then.now

-- The first sequence has this identifier and these documents, and the others are left.
pub record GivesSequence (qs : List Sequence) (identifier : List ℕ) (documents : Documents)
    (after : SequencesIter) : Type 0 where
  pub sequence : Sequence
  pub others : List Sequence
  pub is_first : qs ≡ sequence ∷ others
  pub identifier_is : identifier ≡ sequence.identifier
  pub documents_are : DocumentsAre documents sequence.documents
  pub left : SequencesLeft after others

-- Whatever sequences are left, the first of them is returned; or there is none, and none is left.
abbrev pub SequenceStepsTo : SequencesIter → Option (Bor (List ℕ) × Documents) → SequencesIter
    → Type 0
SequenceStepsTo s None after =
    (qs : List Sequence) → SequencesLeft s qs → (qs ≡ []) × SequencesLeft after []
SequenceStepsTo s (Some x) after =
    (qs : List Sequence) → SequencesLeft s qs → GivesSequence qs x.0.now x.1 after
