-- A message as a value (MongoDB Wire Protocol manual: OP_MSG).
use Rattle.std.specs.Prelude.{◌≡◌, ℕ, ℤ, ◌+◌, ◌^◌, ◌<◌, List, [], ◌∷◌, length, Bool, false, None}
use Rattle.bson_elem.specs.{IsName, Tree, cstring}
use Rattle.bson_raw.specs.{AreDocuments, IsDocument, documents_bytes, first_repeated, is_among}
use Rattle.bson_raw.specs.{names_of}
use Rattle.wire_msg.specs.declared.flags.MsgFlags.{MsgFlags}

-- a document sequence: its identifier, and its documents in order
pub record Sequence : Type 0 where
  pub identifier : List ℕ
  pub documents : List Tree

-- what a message carries: the body, and the document sequences in order
pub record Content : Type 0 where
  pub body : Tree
  pub sequences : List Sequence

-- requestID, responseTo, the flags, and what the message carries
pub record Message : Type 0 where
  pub id : ℤ
  pub response_to : ℤ
  pub flags : MsgFlags
  pub content : Content

-- ---- which of them have a spelling

-- the size of a document sequence, which counts itself, the identifier with its 00, and the
-- documents
abbrev pub sequence_size : Sequence → ℕ
sequence_size q = 4 + length (cstring q.identifier) + length (documents_bytes q.documents)

-- the size is an int32
pub record IsSequence (q : Sequence) : Type 0 where
  pub identifier : IsName q.identifier
  pub documents : AreDocuments q.documents
  pub short : sequence_size q < 2 ^ 31

abbrev pub AreSequences : List Sequence → Type 0
AreSequences [] = Unit {0}
AreSequences (q ∷ qs) = IsSequence q × AreSequences qs

-- whether the name is one of the top-level names of the body
abbrev pub is_field : List ℕ → Tree → Bool
is_field name body = is_among name (names_of body)

-- no identifier is a top-level name of the body
abbrev pub AreApart : Tree → List Sequence → Type 0
AreApart body [] = Unit {0}
AreApart body (q ∷ qs) = (is_field q.identifier body ≡ false) × AreApart body qs

-- The top-level names of the body are unique, and no identifier is among them.
pub record IsContent (c : Content) : Type 0 where
  pub body : IsDocument c.body
  pub sequences : AreSequences c.sequences
  pub unique : first_repeated [] c.body ≡ None
  pub apart : AreApart c.body c.sequences
