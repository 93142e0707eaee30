-- What the parts of the check find.
use Rattle.std.specs.Prelude.{◌≡◌, ◌≢◌, ℕ, ◌+◌, ◌≤◌, None, List, [], ◌∷◌, ◌++◌, length, take, drop}
use Rattle.bson_elem.specs.{Spells, Tree}
use Rattle.wire_msg.specs.declared.fault.MsgFault.{MsgFault}
use Rattle.wire_msg.specs.declared.flags.MsgFlags.{MsgFlags}
use Rattle.bson_raw.specs.{AreDocuments, documents_bytes}
use Rattle.wire_msg.specs.Messages.{Sequence, IsSequence, AreSequences}
use Rattle.wire_msg.specs.Spelling.{sequence_section, sequences_bytes, sections_bytes, FlagsAre}
use Rattle.wire_msg.specs.Header.{number_at}
use Rattle.wire_msg.specs.Faults.{SequenceFault, flags_fault}

-- the bytes are documents one after another
abbrev pub HasDocuments : List ℕ → Type 0
HasDocuments bytes = (ts : List Tree) × AreDocuments ts × (bytes ≡ documents_bytes ts)

-- the bytes are document sequences
abbrev pub HasSequences : List ℕ → Type 0
HasSequences bytes = (qs : List Sequence) × AreSequences qs × (bytes ≡ sequences_bytes qs)

-- The bytes begin with a document sequence of this size, without its kind byte.
pub record IsSequenceAt (bytes : List ℕ) (size : ℕ) : Type 0 where
  pub sequence : Sequence
  pub fits : IsSequence sequence
  pub within : size ≤ length bytes
  pub parts : sequence_section sequence ≡ 1 ∷ take size bytes

-- the bytes don't begin with a document sequence
abbrev pub IsNoSequence : List ℕ → Type 0
IsNoSequence [] = Unit {0}
IsNoSequence (kind ∷ rest) = kind ≢ 1

-- From one offset to another there are document sequences, and then none begins.
pub record IsRun (bytes : List ℕ) (start end : ℕ) : Type 0 where
  pub sequences : List Sequence
  pub fits : AreSequences sequences
  pub forwards : start ≤ end
  pub within : end ≤ length bytes
  pub parts : drop start bytes ≡ sequences_bytes sequences ++ drop end bytes
  pub stops : IsNoSequence (drop end bytes)

-- From an offset on there are document sequences, and then one that has a fault.
pub record IsBadRun (bytes : List ℕ) (start : ℕ) (f : MsgFault) : Type 0 where
  pub sequences : List Sequence
  pub fits : AreSequences sequences
  pub rest : List ℕ
  pub parts : drop start bytes ≡ sequences_bytes sequences ++ 1 ∷ rest
  pub fault : SequenceFault (start + length (sequences_bytes sequences)) rest f

-- The sections, which begin at offset 20, are a body, and sequences before it and after it. The
-- kind byte of the body is at one offset, its document is these bytes, and the sequences after it
-- begin at the next offset.
pub record HasSections (bytes : List ℕ) (at : ℕ) (document : List ℕ) (next : ℕ) : Type 0 where
  pub before : List Sequence
  pub body : Tree
  pub after : List Sequence
  pub before_fit : AreSequences before
  pub spelled : Spells body document
  pub after_fit : AreSequences after
  pub parts : drop 20 bytes ≡ sections_bytes before body after
  pub at_is : at ≡ 20 + length (sequences_bytes before)
  pub next_is : next ≡ at + 1 + length document
  pub within : next + length (sequences_bytes after) ≡ length bytes

-- The flags have no fault, and these are the sections.
pub record HasParts (bytes : List ℕ) (at : ℕ) (document : List ℕ) (next : ℕ) : Type 0 where
  pub room : 20 ≤ length bytes
  pub flags : MsgFlags
  pub flags_are : FlagsAre (number_at bytes 16) flags
  pub faultless : flags_fault (number_at bytes 16) ≡ None
  pub sections : HasSections bytes at document next
