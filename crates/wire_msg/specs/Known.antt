-- Bytes that are known to be documents or document sequences, one after another.
use Rattle.std.specs.Prelude.{◌≡◌, ℕ, ◌+◌, List, [], ◌∷◌, ◌++◌, length}
use Rattle.bson_raw.specs.{documents_bytes}
use Rattle.wire_msg.specs.Messages.{Sequence, IsSequence, AreSequences}
use Rattle.wire_msg.specs.Spelling.{sequence_section, sequences_bytes}

-- the bytes begin with a document sequence
abbrev pub BeginsSequence : List ℕ → Type 0
BeginsSequence bytes =
    (q : Sequence) × (rest : List ℕ) × IsSequence q × (bytes ≡ sequence_section q ++ rest)

-- These are the identifier and the documents of a sequence, and what follows it.
abbrev pub ArePartsOf : List ℕ → List ℕ → List ℕ → Sequence → List Sequence → Type 0
ArePartsOf identifier documents rest q others =
    (identifier ≡ q.identifier) × (documents ≡ documents_bytes q.documents)
    × (rest ≡ sequences_bytes others)

-- These are the sequences of one run of bytes, and then those of another.
pub record AreRuns (bytes then : List ℕ) (qs : List Sequence) : Type 0 where
  pub first : List Sequence
  pub last : List Sequence
  pub first_fit : AreSequences first
  pub last_fit : AreSequences last
  pub first_are : bytes ≡ sequences_bytes first
  pub last_are : then ≡ sequences_bytes last
  pub all : qs ≡ first ++ last

-- the offset at which the last of the sequences begins, or 0 if there is none
abbrev pub last_offset : List Sequence → ℕ
last_offset [] = 0
last_offset (q ∷ []) = 0
last_offset (q ∷ r ∷ qs) = length (sequence_section q) + last_offset (r ∷ qs)

-- whatever sequences the bytes are, the last of them begins at this offset
abbrev pub IsLastOffset : List ℕ → ℕ → Type 0
IsLastOffset bytes offset =
    (qs : List Sequence) → AreSequences qs → bytes ≡ sequences_bytes qs → offset ≡ last_offset qs
