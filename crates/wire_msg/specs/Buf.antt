-- What an owned payload carries, what is added to it, and why one isn't made or nothing is added.
use Rattle.std.specs.Prelude.{◌≡◌, ◌≢◌, ℕ, ◌^◌, ◌<◌, ◌≤◌, List, [], ◌∷◌, ◌++◌, true, false, None}
use Rattle.std.specs.Prelude.{Contains}
use Rattle.bson_elem.specs.{HasNoZero, Tree}
use Rattle.bson_raw.specs.{first_repeated}
use Rattle.wire_msg.specs.declared.payload_buf.PayloadBuf.{PayloadBuf}
use Rattle.wire_msg.specs.declared.refusal.MsgRefusal.{MsgRefusal}
use Rattle.wire_msg.specs.declared.refusal.MsgRefusal.TheVariants.{TooLarge, RepeatedField}
use Rattle.wire_msg.specs.declared.refusal.MsgRefusal.TheVariants.{SequenceInBody, ZeroInName}
use Rattle.wire_msg.specs.declared.refusal.MsgRefusal.TheVariants.{NoSequence, OutOfMemory}
use Rattle.wire_msg.specs.Messages.{Sequence, Content, is_field}
use Rattle.wire_msg.specs.Spelling.{message_len}
use Rattle.wire_msg.specs.Payload.{AreParts}

-- the payload carries this content
abbrev pub BufCarries : PayloadBuf → Content → Type 0
BufCarries b c = AreParts [] b.body.items b.sequences.items c

-- a body alone
abbrev pub body_alone : Tree → Content
body_alone t = record { body = t; sequences = [] }

-- why no payload is made of this body
abbrev pub IsBodyRefusal : Tree → MsgRefusal → Type 0
IsBodyRefusal t RepeatedField = first_repeated [] t ≢ None
IsBodyRefusal t TooLarge = (first_repeated [] t ≡ None) × (2 ^ 31 ≤ message_len (body_alone t))
IsBodyRefusal t OutOfMemory = (first_repeated [] t ≡ None) × (message_len (body_alone t) < 2 ^ 31)
IsBodyRefusal t _ = ⊥

-- the bytes of the body and of the sequences are the same
abbrev pub HasSameBytes : PayloadBuf → PayloadBuf → Type 0
HasSameBytes b new = (new.body.items ≡ b.body.items) × (new.sequences.items ≡ b.sequences.items)

-- ---- a sequence more

-- a document sequence with no documents
abbrev pub empty_sequence : List ℕ → Sequence
empty_sequence name = record { identifier = name; documents = [] }

-- the content with one more sequence at its end, an empty one with this identifier
abbrev pub with_sequence : Content → List ℕ → Content
with_sequence c name = record { body = c.body; sequences = c.sequences ++ empty_sequence name ∷ [] }

-- the identifier isn't a top-level name of the body, and has no 00
abbrev pub IsFree : Content → List ℕ → Type 0
IsFree c name = (is_field name c.body ≡ false) × HasNoZero name

-- why no sequence with this identifier is added to the content
abbrev pub IsSequenceRefusal : Content → List ℕ → MsgRefusal → Type 0
IsSequenceRefusal c name SequenceInBody = is_field name c.body ≡ true
IsSequenceRefusal c name ZeroInName = Contains name 0
IsSequenceRefusal c name TooLarge = IsFree c name × (2 ^ 31 ≤ message_len (with_sequence c name))
IsSequenceRefusal c name OutOfMemory = IsFree c name × (message_len (with_sequence c name) < 2 ^ 31)
IsSequenceRefusal c name _ = ⊥

-- ---- a document more

-- the sequence with this document at its end
abbrev pub longer : Sequence → Tree → Sequence
longer q t = record { identifier = q.identifier; documents = q.documents ++ t ∷ [] }

-- the sequences with this document at the end of the last one
abbrev pub with_last_document : List Sequence → Tree → List Sequence
with_last_document [] t = []
with_last_document (q ∷ []) t = longer q t ∷ []
with_last_document (q ∷ r ∷ qs) t = q ∷ with_last_document (r ∷ qs) t

-- the content with this document at the end of its last sequence
abbrev pub with_document : Content → Tree → Content
with_document c t = record { body = c.body; sequences = with_last_document c.sequences t }

-- why the document isn't added to the content
abbrev pub IsDocumentRefusal : Content → Tree → MsgRefusal → Type 0
IsDocumentRefusal c t NoSequence = c.sequences ≡ []
IsDocumentRefusal c t TooLarge = (c.sequences ≢ []) × (2 ^ 31 ≤ message_len (with_document c t))
IsDocumentRefusal c t OutOfMemory = (c.sequences ≢ []) × (message_len (with_document c t) < 2 ^ 31)
IsDocumentRefusal c t _ = ⊥
