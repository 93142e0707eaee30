-- The text of a record.
use Rattle.std.specs.Prelude.{◌≡◌, ◌⊎◌, ℕ, ℤ, ◌+◌, ◌==◌, List, [], ◌++◌, codes, Bool}
use Rattle.std.specs.Prelude.{if◌then◌else◌}
use Rattle.std.specs.Fmt.{decimal, signed_decimal}
use Rattle.bson_json.specs.declared.mode.Mode.{Mode}
use Rattle.wire_msg.specs.declared.fault.MsgCause.{MsgCause}
use Rattle.wire_msg.specs.declared.fault.MsgFault.{MsgFault}
use Rattle.wire_msg.specs.declared.header.MsgHeader.{MsgHeader}
use Rattle.wire_msg.specs.{FaultMsg, Message, SpellsMsg, fault_text, header_of}
use Rattle.wire_text.specs.{IsFrameText, IsMessageJson}
use Rattle.wire_frames.specs.declared.opcode.Opcode.{Opcode}
use Rattle.wire_frames.specs.declared.opcode.Opcode.TheVariants.{Msg}
use Rattle.wire_frames.specs.{IsOwnKind, opcode_number}
use Rattle.wire_frames.specs.declared.head.Direction.{Direction}
use Rattle.wire_frames.specs.declared.head.Direction.TheVariants.{ToServer, FromServer}
use Rattle.wire_frames.specs.declared.head.RecordHead.{RecordHead}
use Rattle.wire_frames.specs.{HasHead, head_of, message_of}
use Rattle.file_commands.specs.declared.json.Layout.{Layout}
use Rattle.file_commands.specs.declared.json.Layout.TheVariants.{Lines, Array}
use Rattle.file_commands.specs.declared.record_text.RecordForm.{RecordForm}
use Rattle.file_commands.specs.declared.record_text.RecordForm.TheVariants.{Text, Json}
use Rattle.file_commands.specs.Json.{behind_values, end_of_value}
use Rattle.wire_msg.specs.declared.header.TheConstants.{MAX_MESSAGE_LEN}

-- to the server, and from it
abbrev pub direction_sign : Direction → List ℕ
direction_sign ToServer = codes ">"
direction_sign FromServer = codes "<"

-- ---- as lines

-- the line of a head: the time in microseconds since 1970, the connection and the direction
abbrev pub head_line : RecordHead → List ℕ
head_line h =
    codes "record " ++ (signed_decimal h.micros ++ (codes " " ++ (decimal h.connection
    ++ (codes " " ++ (direction_sign h.direction ++ codes "\n")))))

-- ---- as JSON

-- the beginning of a record's object, up to its message
abbrev pub head_json : RecordHead → List ℕ
head_json h =
    codes "{\"time\":" ++ (signed_decimal h.micros ++ (codes ",\"connection\":"
    ++ (decimal h.connection ++ (codes ",\"direction\":\"" ++ (direction_sign h.direction
    ++ codes "\",\"message\":")))))

-- a number behind its name
abbrev pub named : List ℕ → ℤ → List ℕ
named name number = name ++ signed_decimal number

-- a header: the four numbers of an object
abbrev pub header_front : MsgHeader → List ℕ
header_front h =
    (codes "{\"messageLength\":" ++ decimal h.length)
    ++ (named (codes ",\"requestID\":") h.id ++ (named (codes ",\"responseTo\":") h.response_to
    ++ named (codes ",\"opCode\":") h.opcode))

-- an object of them
abbrev pub header_json : MsgHeader → List ℕ
header_json h = header_front h ++ codes "}"

-- an object of them and of a message's fault at this offset
abbrev pub faulty_json : MsgHeader → ℕ → MsgCause → List ℕ
faulty_json h offset c =
    header_front h ++ (codes ",\"fault\":\"" ++ (fault_text offset c ++ codes "\"}"))

-- an OP_MSG that begins at this offset: the object of the message, if it is one, and else that of
-- its header and its fault, whose offset counts in the input
abbrev pub IsMsgJson : Mode → ℕ → List ℕ → List ℕ → Type 0
IsMsgJson mode start bytes text =
    ((m : Message) × SpellsMsg m bytes × IsMessageJson mode m text)
    ⊎ ((f : MsgFault) × FaultMsg bytes MAX_MESSAGE_LEN f
    × (text ≡ faulty_json (header_of bytes) (start + f.at) f.cause))

-- a message of this kind: of another kind than OP_MSG the object of its header
abbrev pub IsKindJson : Opcode → Mode → ℕ → List ℕ → List ℕ → Type 0
IsKindJson Msg mode start bytes text = IsMsgJson mode start bytes text
IsKindJson kind mode start bytes text = text ≡ header_json (header_of bytes)

-- a message of any opCode that begins at this offset
pub record IsFrameJson (mode : Mode) (start : ℕ) (bytes text : List ℕ) : Type 0 where
  pub kind : Opcode
  pub own : IsOwnKind kind
  pub number : opcode_number kind ≡ (header_of bytes).opcode
  pub is : IsKindJson kind mode start bytes text

-- what stands in front of the object of a record that begins at this offset; the first one begins
-- behind the eight bytes of the file's signature
abbrev pub record_front : Layout → ℕ → List ℕ
record_front Lines start = []
record_front Array start = if start == 8 then codes "[" else codes ",\n"

-- ---- in either form

-- the text of a record that begins at this offset: the line of its head and what `msg --any` writes
-- of its message; or an object of both
abbrev pub IsRecordText : RecordForm → ℕ → List ℕ → List ℕ → Type 0
IsRecordText Text start bytes text =
    (h : RecordHead) × (message : List ℕ) × HasHead (head_of bytes) h
    × IsFrameText (start + 20) (message_of bytes) message × (text ≡ head_line h ++ message)
IsRecordText (Json mode layout) start bytes text =
    (h : RecordHead) × (message : List ℕ) × HasHead (head_of bytes) h
    × IsFrameJson mode (start + 20) (message_of bytes) message
    × (text ≡ record_front layout start
    ++ (head_json h ++ (message ++ (codes "}" ++ end_of_value layout))))

-- what follows the texts of all records, by whether there are any
abbrev pub record_closing : RecordForm → Bool → List ℕ
record_closing Text any = []
record_closing (Json mode layout) any = behind_values layout any
