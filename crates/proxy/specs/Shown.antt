-- What is shown of a message that passes.
use Rattle.std.specs.Prelude.{◌≡◌, ◌⊎◌, ℕ, List, [], ◌++◌, codes}
use Rattle.std.specs.Fmt.{decimal, signed_decimal}
use Rattle.json.specs.Print.{quoted}
use Rattle.bson_json.specs.declared.mode.Mode.TheVariants.{Canonical}
use Rattle.bson_json.specs.{IsJson}
use Rattle.wire_msg.specs.declared.fault.MsgFault.{MsgFault}
use Rattle.wire_msg.specs.declared.header.MsgHeader.{MsgHeader}
use Rattle.wire_msg.specs.declared.header.TheConstants.{MAX_MESSAGE_LEN}
use Rattle.wire_msg.specs.{FaultMsg, Message, SpellsMsg, fault_text, header_of}
use Rattle.wire_frames.specs.declared.opcode.Opcode.{Opcode}
use Rattle.wire_frames.specs.declared.opcode.Opcode.TheVariants as kinds
use Rattle.wire_frames.specs.{IsOwnKind, opcode_number}
use Rattle.wire_query.specs.{IsQuery, Query, SpellsQuery}
use Rattle.wire_text.specs.{IsFrameText, IsMessageJson}
use Rattle.proxy.specs.declared.direction.Direction.{Direction}
use Rattle.proxy.specs.declared.options.Show.{Show}
use Rattle.proxy.specs.declared.options.Show.TheVariants as shows
use Rattle.proxy.specs.Told.{start_text}

-- the text of a message: its start, and then its lines
abbrev pub IsShownText : (number : ℕ) → Direction → (bytes text : List ℕ) → Type 0
IsShownText number direction bytes text =
    (lines : List ℕ) × IsFrameText 0 bytes lines × (text ≡ start_text number direction ++ lines)

-- ---- lines of JSON

-- the line of an OP_MSG: its object, or its fault
abbrev pub IsMsgLine : (bytes line : List ℕ) → Type 0
IsMsgLine bytes line =
    ((m : Message) × (json : List ℕ) × SpellsMsg m bytes × IsMessageJson Canonical m json
    × (line ≡ json ++ codes "\n"))
    ⊎ ((f : MsgFault) × FaultMsg bytes MAX_MESSAGE_LEN f
    × (line ≡ fault_text f.at f.cause ++ codes "\n"))

-- the numbers of a header: its length and id, and whose reply it is and its opCode
abbrev pub id_pairs : MsgHeader → List ℕ
id_pairs h =
    codes "\"messageLength\":" ++ (decimal h.length
    ++ (codes ",\"requestID\":" ++ signed_decimal h.id))

abbrev pub kind_pairs : MsgHeader → List ℕ
kind_pairs h =
    codes ",\"responseTo\":" ++ (signed_decimal h.response_to
    ++ (codes ",\"opCode\":" ++ signed_decimal h.opcode))

-- what an OP_QUERY asks, and of which database: nothing of one that isn't the query of a command
abbrev pub IsQueryPairs : (bytes text : List ℕ) → Type 0
IsQueryPairs bytes text =
    ((q : Query) × (json : List ℕ) × SpellsQuery q bytes × IsJson Canonical q.body json
    × (text ≡ codes ",\"database\":" ++ (quoted q.database ++ (codes ",\"query\":" ++ json))))
    ⊎ ((IsQuery MAX_MESSAGE_LEN bytes → ⊥) × (text ≡ []))

-- the same of any message that is no OP_MSG
abbrev pub IsKindPairs : Opcode → (bytes text : List ℕ) → Type 0
IsKindPairs kinds.Query bytes text = IsQueryPairs bytes text
IsKindPairs kind bytes text = text ≡ []

-- the line of such a message
abbrev pub IsOtherLine : Opcode → (bytes line : List ℕ) → Type 0
IsOtherLine kind bytes line =
    (pairs : List ℕ) × IsKindPairs kind bytes pairs
    × (line ≡ codes "{" ++ (id_pairs (header_of bytes) ++ (kind_pairs (header_of bytes)
    ++ (pairs ++ codes "}\n"))))

-- the line of a message of this kind
abbrev pub IsKindLine : Opcode → (bytes line : List ℕ) → Type 0
IsKindLine kinds.Msg bytes line = IsMsgLine bytes line
IsKindLine kind bytes line = IsOtherLine kind bytes line

-- the line of a message that passes, behind its start
pub record IsShownLine (number : ℕ) (direction : Direction) (bytes text : List ℕ) : Type 0 where
  pub kind : Opcode
  pub own : IsOwnKind kind
  pub opcode : opcode_number kind ≡ (header_of bytes).opcode
  pub line : List ℕ
  pub is : IsKindLine kind bytes line
  pub parts : text ≡ start_text number direction ++ line

-- ---- what a sink writes

-- the line of the first message that the file of records has no room for, or nothing
abbrev pub IsFullLine : (text : List ℕ) → Type 0
IsFullLine text = (text ≡ []) ⊎ (text ≡ codes "record full\n")

-- what is shown of a message, by how messages are
abbrev pub IsShown : Show → (number : ℕ) → Direction → (bytes text : List ℕ) → Type 0
IsShown shows.Nothing number direction bytes text = text ≡ []
IsShown shows.Text number direction bytes text = IsShownText number direction bytes text
IsShown shows.Json number direction bytes text = IsShownLine number direction bytes text

-- what is written of a message: that the file of records is full, if it is so, and what is shown
pub record IsWritten (show : Show) (number : ℕ) (direction : Direction) (bytes text : List ℕ)
    : Type 0 where
  pub full : List ℕ
  pub is_full : IsFullLine full
  pub shown : List ℕ
  pub is_shown : IsShown show number direction bytes shown
  pub parts : text ≡ full ++ shown
