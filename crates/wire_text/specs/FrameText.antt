-- The text of a message of any opCode.
use Rattle.std.specs.Prelude.{◌≡◌, ◌⊎◌, ℕ, ◌+◌, List, [], ◌++◌, codes}
use Rattle.std.specs.Fmt.{decimal, signed_decimal}
use Rattle.wire_msg.specs.declared.fault.MsgFault.{MsgFault}
use Rattle.wire_msg.specs.declared.header.MsgHeader.{MsgHeader}
use Rattle.wire_msg.specs.{FaultMsg, Message, SpellsMsg, header_of}
use Rattle.wire_frames.specs.declared.checksum.Checksum.{Checksum}
use Rattle.wire_frames.specs.declared.checksum.Checksum.TheVariants.{Absent, Right, Wrong}
use Rattle.wire_frames.specs.declared.opcode.Opcode.{Opcode}
use Rattle.wire_frames.specs.declared.opcode.Opcode.TheVariants.{Reply, Query, Compressed, Msg}
use Rattle.wire_frames.specs.declared.opcode.Opcode.TheVariants.{Other}
use Rattle.wire_frames.specs.{IsChecksumOf, IsOwnKind, opcode_number}
use Rattle.wire_text.specs.MessageText.{message_text, msg_fault_line}
use Rattle.wire_msg.specs.declared.header.TheConstants.{MAX_MESSAGE_LEN}

-- the word for each kind of messages
abbrev pub kind_word : Opcode → List ℕ
kind_word Reply = codes "reply"
kind_word Query = codes "query"
kind_word Compressed = codes "compressed"
kind_word Msg = codes "message"
kind_word (Other number) = codes "other"

-- the end of a header's line: the opCode, where its kind is none of the named ones
abbrev pub line_end_of : Opcode → List ℕ
line_end_of (Other number) = codes " opcode " ++ (signed_decimal number ++ codes "\n")
line_end_of kind = codes "\n"

-- the line of a header: its kind, messageLength, requestID and responseTo
abbrev pub header_line : Opcode → MsgHeader → List ℕ
header_line kind h =
    kind_word kind ++ (codes " " ++ (decimal h.length ++ (codes " id " ++ (signed_decimal h.id
    ++ (codes " to " ++ (signed_decimal h.response_to ++ line_end_of kind))))))

-- what is written of an OP_MSG that begins at this offset: its text, if it is a message, and else
-- the line of its header, and that of its fault, whose offset counts in the input
abbrev pub IsMsgText : ℕ → List ℕ → List ℕ → Type 0
IsMsgText start bytes text =
    ((m : Message) × SpellsMsg m bytes × (text ≡ message_text m))
    ⊎ ((f : MsgFault) × FaultMsg bytes MAX_MESSAGE_LEN f
    × (text ≡ header_line Msg (header_of bytes) ++ msg_fault_line (start + f.at) f.cause))

-- what is written of a frame of this kind, but for its checksum
abbrev pub IsKindText : Opcode → ℕ → List ℕ → List ℕ → Type 0
IsKindText Msg start bytes text = IsMsgText start bytes text
IsKindText kind start bytes text = text ≡ header_line kind (header_of bytes)

-- the line of a checksum, where there is one
abbrev pub checksum_line : Checksum → List ℕ
checksum_line Absent = []
checksum_line Right = codes "checksum ok\n"
checksum_line Wrong = codes "checksum bad\n"

-- The text is that of a frame that begins at this offset.
pub record IsFrameText (start : ℕ) (bytes text : List ℕ) : Type 0 where
  pub kind : Opcode
  pub own : IsOwnKind kind
  pub number : opcode_number kind ≡ (header_of bytes).opcode
  pub checksum : Checksum
  pub checksum_is : IsChecksumOf bytes checksum
  pub front : List ℕ
  pub front_is : IsKindText kind start bytes front
  pub parts : text ≡ front ++ checksum_line checksum
