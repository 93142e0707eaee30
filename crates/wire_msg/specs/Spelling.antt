-- The bytes of a message (MongoDB Wire Protocol manual: Standard Message Header, OP_MSG).
use Rattle.std.specs.Prelude.{◌≡◌, ℕ, ℤ, ◌+◌, ◌*◌, ◌%◌, ◌^◌, ◌<◌, ◌≤◌, FitsSigned, List, [], ◌∷◌}
use Rattle.std.specs.Prelude.{◌++◌, length}
use Rattle.std.specs.Int.{w32, cast_unsigned, from_bool, bit_at}
use Rattle.bson_elem.specs.{Tree, cstring, document, elements, little}
use Rattle.bson_raw.specs.{documents_bytes}
use Rattle.wire_msg.specs.declared.flags.MsgFlags.{MsgFlags}
use Rattle.wire_msg.specs.Messages.{Sequence, Content, Message, sequence_size, IsContent}

-- ---- sections

-- kind 0: the body
unfoldable pub body_section : Tree → List ℕ
body_section t = 0 ∷ document (elements t)

-- kind 1: a document sequence, as its size, its identifier, and its documents one after another
unfoldable pub sequence_section : Sequence → List ℕ
sequence_section q =
    1 ∷ (little (sequence_size q) ++ (cstring q.identifier ++ documents_bytes q.documents))

abbrev pub sequences_bytes : List Sequence → List ℕ
sequences_bytes [] = []
sequences_bytes (q ∷ qs) = sequence_section q ++ sequences_bytes qs

-- the sections of a message: the body, with document sequences before it and after it
abbrev pub sections_bytes : List Sequence → Tree → List Sequence → List ℕ
sections_bytes before body after =
    sequences_bytes before ++ (body_section body ++ sequences_bytes after)

-- ---- header and flags

-- an int32
abbrev pub signed : ℤ → List ℕ
signed z = little (cast_unsigned w32 z)

-- messageLength, requestID, responseTo, and the opCode of OP_MSG, 2013
unfoldable pub header_bytes : ℕ → ℤ → ℤ → List ℕ
header_bytes len id response_to = little len ++ (signed id ++ (signed response_to ++ little 2013))

-- a header, the flag bits and the sections
unfoldable pub message_bytes : ℤ → ℤ → ℕ → List ℕ → List ℕ
message_bytes id response_to word sections =
    header_bytes (length sections + 20) id response_to ++ (little word ++ sections)

-- The flag bits. Of the required ones, 0 to 15, only moreToCome may be set, which is bit 1. Of the
-- optional ones, 16 to 31, only exhaustAllowed means something, which is bit 16.
pub record FlagsAre (word : ℕ) (flags : MsgFlags) : Type 0 where
  pub four_bytes : word < 2 ^ 32
  pub required : word % 2 ^ 16 ≡ from_bool flags.more_to_come * 2
  pub optional : bit_at word 16 ≡ from_bool flags.exhaust_allowed

-- ---- messages

-- The bytes spell the message. The body may be anywhere among the sequences, and the optional flag
-- bits other than exhaustAllowed may be anything.
pub record SpellsMsg (m : Message) (bytes : List ℕ) : Type 0 where
  pub word : ℕ
  pub before : List Sequence
  pub after : List Sequence
  pub parts : bytes ≡ message_bytes m.id m.response_to word
      (sections_bytes before m.content.body after)
  pub short : length bytes < 2 ^ 31
  pub id : FitsSigned w32 m.id
  pub response_to : FitsSigned w32 m.response_to
  pub flags : FlagsAre word m.flags
  pub in_order : m.content.sequences ≡ before ++ after
  pub content : IsContent m.content

-- the bytes spell a message
abbrev pub IsSpelledMsg : List ℕ → Type 0
IsSpelledMsg bytes = (m : Message) × SpellsMsg m bytes

-- the bytes spell a message, within a limit
abbrev pub IsMessage : ℕ → List ℕ → Type 0
IsMessage limit bytes = (length bytes ≤ limit) × IsSpelledMsg bytes

-- ---- the canonical spelling: the body first, and no free flag bit set

abbrev pub flag_word : MsgFlags → ℕ
flag_word flags = from_bool flags.more_to_come * 2 + from_bool flags.exhaust_allowed * 2 ^ 16

abbrev pub canonical : Message → List ℕ
canonical m =
    message_bytes m.id m.response_to (flag_word m.flags)
    (sections_bytes [] m.content.body m.content.sequences)

-- the number of bytes of the canonical spelling of a message with this content
abbrev pub message_len : Content → ℕ
message_len c = 20 + length (sections_bytes [] c.body c.sequences)
