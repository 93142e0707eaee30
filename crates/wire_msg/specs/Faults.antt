-- The first fault of bytes that are not a message, in the order of the checks.
use Rattle.std.specs.Prelude.{◌≡◌, ◌≢◌, ℕ, ◌+◌, ◌%◌, ◌^◌, ◌<◌, ◌≤◌, nat_le, ◌==◌, if◌then◌else◌}
use Rattle.std.specs.Prelude.{List, [], ◌∷◌, ◌++◌, length, drop, slice_range, Option, Some, None}
use Rattle.std.specs.Prelude.{Ok, Err}
use Rattle.std.specs.Option.{option_or}
use Rattle.std.specs.Int.{bit_at}
use Rattle.bson_elem.specs.declared.fault.BsonCause.{BsonCause}
use Rattle.bson_elem.specs.declared.fault.BsonFault.{BsonFault}
use Rattle.bson_elem.specs.{FrontFault, Tree, cstring_at}
use Rattle.bson_raw.specs.{AreDocuments, IsDocument, documents_bytes, first_repeated}
use Rattle.wire_msg.specs.declared.fault.MsgFault.{MsgFault}
use Rattle.wire_msg.specs.declared.fault.MsgCause.TheVariants as causes
use Rattle.wire_msg.specs.Causes.{msg_fault}
use Rattle.wire_msg.specs.Messages.{Sequence, AreSequences, is_field}
use Rattle.wire_msg.specs.Spelling.{body_section, sequence_section, sequences_bytes, sections_bytes}
use Rattle.wire_msg.specs.Header.{number_at, header_of, IsGoodHeader, HeaderFault}

-- ---- a document sequence: its kind byte is at p, and these bytes follow it to the message's end

-- there are four bytes of size, which counts itself and at least a 00, and at most all bytes that
-- there are
pub record IsSized (bytes : List ℕ) : Type 0 where
  pub four : 4 ≤ length bytes
  pub least : 5 ≤ number_at bytes 0
  pub most : number_at bytes 0 ≤ length bytes

-- the identifier and the documents
abbrev pub sequence_rest : List ℕ → List ℕ
sequence_rest bytes = slice_range bytes 4 (number_at bytes 0)

-- After whole documents comes one that has a fault. The bytes begin at p.
pub record DocumentsFault (p : ℕ) (bytes : List ℕ) (f : MsgFault) : Type 0 where
  pub documents : List Tree
  pub first : ℕ
  pub rest : List ℕ
  pub inner : BsonFault
  pub parts : bytes ≡ documents_bytes documents ++ first ∷ rest
  pub fits : AreDocuments documents
  pub front : FrontFault (first ∷ rest) inner
  pub is : f ≡ msg_fault (p + length (documents_bytes documents)) (causes.Document inner)

pub data SequenceFault : ℕ → List ℕ → MsgFault → Type 0 where
  of_size : {p : ℕ} {bytes : List ℕ} {f : MsgFault} → (IsSized bytes → ⊥)
      → f ≡ msg_fault p causes.SectionSize → SequenceFault p bytes f
  of_identifier : {p : ℕ} {bytes : List ℕ} {f : MsgFault} (c : BsonCause) → IsSized bytes
      → cstring_at (sequence_rest bytes) ≡ Err c → f ≡ msg_fault p causes.SequenceName
      → SequenceFault p bytes f
  of_documents : {p : ℕ} {bytes : List ℕ} {f : MsgFault} (identifier rest : List ℕ) → IsSized bytes
      → cstring_at (sequence_rest bytes) ≡ Ok (identifier, rest)
      → DocumentsFault (p + 6 + length identifier) rest f → SequenceFault p bytes f

-- ---- sections

-- whole sections, without a body or with one
pub data Seen : Type 0 where
  no_body_yet : List Sequence → Seen
  body_seen : List Sequence → Tree → List Sequence → Seen

abbrev pub seen_bytes : Seen → List ℕ
seen_bytes (no_body_yet qs) = sequences_bytes qs
seen_bytes (body_seen before body after) = sections_bytes before body after

abbrev pub AreSeen : Seen → Type 0
AreSeen (no_body_yet qs) = AreSequences qs
AreSeen (body_seen before body after) = AreSequences before × IsDocument body × AreSequences after

-- the section after these is a second body
abbrev pub IsSecond : Seen → ℕ → Type 0
IsSecond (no_body_yet qs) kind = ⊥
IsSecond (body_seen before body after) kind = kind ≡ 0

-- the section after these is the first body
abbrev pub IsFirst : Seen → ℕ → Type 0
IsFirst (no_body_yet qs) kind = kind ≡ 0
IsFirst (body_seen before body after) kind = ⊥

-- The section after these fails a check. Its kind byte is at p, and these bytes follow it.
pub data SectionFault : Seen → ℕ → ℕ → List ℕ → MsgFault → Type 0 where
  two_bodies : {seen : Seen} {p kind : ℕ} {bytes : List ℕ} {f : MsgFault} → IsSecond seen kind
      → f ≡ msg_fault p causes.TwoBodies → SectionFault seen p kind bytes f
  of_body : {seen : Seen} {p kind : ℕ} {bytes : List ℕ} {f : MsgFault} (inner : BsonFault)
      → IsFirst seen kind → FrontFault bytes inner → f ≡ msg_fault (p + 1) (causes.Document inner)
      → SectionFault seen p kind bytes f
  of_sequence : {seen : Seen} {p kind : ℕ} {bytes : List ℕ} {f : MsgFault} → kind ≡ 1
      → SequenceFault p bytes f → SectionFault seen p kind bytes f
  of_kind : {seen : Seen} {p kind : ℕ} {bytes : List ℕ} {f : MsgFault} → kind ≢ 0 → kind ≢ 1
      → f ≡ msg_fault p causes.SectionKind → SectionFault seen p kind bytes f

-- ---- names

-- The offset of the first sequence whose identifier is a top-level name of the body. The sequences
-- begin at p.
abbrev pub first_in_body : Tree → ℕ → List Sequence → Option ℕ
first_in_body body p [] = None
first_in_body body p (q ∷ qs) =
    if is_field q.identifier body then Some p
    else first_in_body body (p + length (sequence_section q)) qs

abbrev pub identifier_fault : Option ℕ → Option MsgFault
identifier_fault (Some p) = Some (msg_fault p causes.SequenceInBody)
identifier_fault None = None

abbrev pub field_fault : ℕ → Option (List ℕ) → Option MsgFault → Option MsgFault
field_fault p (Some name) other = Some (msg_fault p causes.RepeatedField)
field_fault p None other = other

-- A repeated top-level name of the body, and otherwise an identifier that is one of the names. The
-- first section is at offset 20.
abbrev pub names_fault : List Sequence → Tree → List Sequence → Option MsgFault
names_fault before body after =
    let p = 20 + length (sequences_bytes before) in
    field_fault p (first_repeated [] body)
    (identifier_fault (option_or (first_in_body body 20 before)
    (first_in_body body (p + length (body_section body)) after)))

-- ---- all sections, from offset 20 on

pub data SectionsFault : List ℕ → MsgFault → Type 0 where
  at_section : {bytes : List ℕ} {f : MsgFault} (seen : Seen) (kind : ℕ) (rest : List ℕ)
      → bytes ≡ seen_bytes seen ++ kind ∷ rest → AreSeen seen
      → SectionFault seen (20 + length (seen_bytes seen)) kind rest f → SectionsFault bytes f
  without_body : {bytes : List ℕ} {f : MsgFault} (qs : List Sequence) → bytes ≡ sequences_bytes qs
      → AreSequences qs → f ≡ msg_fault (20 + length bytes) causes.NoBody → SectionsFault bytes f
  of_names : {bytes : List ℕ} {f : MsgFault} (before : List Sequence) (body : Tree)
      (after : List Sequence) → bytes ≡ sections_bytes before body after → AreSequences before
      → IsDocument body → AreSequences after → names_fault before body after ≡ Some f
      → SectionsFault bytes f

-- ---- messages

-- The flag bits: an unknown one among the required ones, 2 to 15, and otherwise checksumPresent,
-- which is bit 0.
abbrev pub flags_fault : ℕ → Option MsgFault
flags_fault word =
    if nat_le 4 (word % 2 ^ 16) then Some (msg_fault 16 causes.Flags)
    else if bit_at word 0 == 1 then Some (msg_fault 16 causes.Checksum)
    else None

-- a good header, whose length is that of the bytes
pub record IsFramedMsg (limit : ℕ) (bytes : List ℕ) : Type 0 where
  pub header : 16 ≤ length bytes
  pub good : IsGoodHeader limit (header_of bytes)
  pub whole : number_at bytes 0 ≡ length bytes

-- There is no good header with the length of the bytes.
pub data FrameFault : List ℕ → ℕ → MsgFault → Type 0 where
  no_header : {bytes : List ℕ} {limit : ℕ} {f : MsgFault} → length bytes < 16
      → f ≡ msg_fault 0 causes.Length → FrameFault bytes limit f
  of_header : {bytes : List ℕ} {limit : ℕ} {f : MsgFault} → 16 ≤ length bytes
      → HeaderFault limit (header_of bytes) f → FrameFault bytes limit f
  unlike : {bytes : List ℕ} {limit : ℕ} {f : MsgFault} → 16 ≤ length bytes
      → IsGoodHeader limit (header_of bytes) → number_at bytes 0 ≢ length bytes
      → f ≡ msg_fault 0 causes.Length → FrameFault bytes limit f

-- what follows the header fails a check
pub data PartsFault : List ℕ → MsgFault → Type 0 where
  no_flags : {bytes : List ℕ} {f : MsgFault} → length bytes < 20
      → f ≡ msg_fault 16 causes.Truncated → PartsFault bytes f
  of_flags : {bytes : List ℕ} {f : MsgFault} → 20 ≤ length bytes
      → flags_fault (number_at bytes 16) ≡ Some f → PartsFault bytes f
  of_sections : {bytes : List ℕ} {f : MsgFault} → 20 ≤ length bytes
      → flags_fault (number_at bytes 16) ≡ None → SectionsFault (drop 20 bytes) f
      → PartsFault bytes f

-- The first fault of bytes that are not a message within the limit.
pub data FaultMsg : List ℕ → ℕ → MsgFault → Type 0 where
  of_frame : {bytes : List ℕ} {limit : ℕ} {f : MsgFault} → FrameFault bytes limit f
      → FaultMsg bytes limit f
  of_parts : {bytes : List ℕ} {limit : ℕ} {f : MsgFault} → IsFramedMsg limit bytes
      → PartsFault bytes f → FaultMsg bytes limit f
