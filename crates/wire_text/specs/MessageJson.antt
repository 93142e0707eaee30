-- A message as one JSON object, whose documents are Extended JSON.
use Rattle.std.specs.Prelude.{◌≡◌, ℕ, List, [], ◌∷◌, ◌++◌, codes, Bool, if◌then◌else◌}
use Rattle.std.specs.Fmt.{decimal, signed_decimal}
use Rattle.json.specs.Print.{quoted}
use Rattle.bson_json.specs.declared.mode.Mode.{Mode}
use Rattle.bson_json.specs.{IsJson}
use Rattle.wire_msg.specs.declared.flags.MsgFlags.{MsgFlags}
use Rattle.wire_msg.specs.{Message, Sequence, message_len}

-- a truth value
abbrev pub bool_json : Bool → List ℕ
bool_json b = if b then codes "true" else codes "false"

-- the numbers of a message's header
abbrev pub header_json : Message → List ℕ
header_json m =
    codes "\"messageLength\":" ++ (decimal (message_len m.content)
    ++ (codes ",\"requestID\":" ++ (signed_decimal m.id
    ++ (codes ",\"responseTo\":" ++ signed_decimal m.response_to))))

-- its flags
abbrev pub flags_json : MsgFlags → List ℕ
flags_json flags =
    codes ",\"moreToCome\":" ++ (bool_json flags.more_to_come
    ++ (codes ",\"exhaustAllowed\":" ++ bool_json flags.exhaust_allowed))

-- items, the first behind the text `before`, and each other one behind a comma
abbrev pub AreItems : {A : Type 0} → (A → List ℕ → Type 0) → List ℕ → List A → List ℕ → Type 0
AreItems IsText before [] text = text ≡ []
AreItems IsText before (x ∷ xs) text =
    (first : List ℕ) × (others : List ℕ) × IsText x first
    × AreItems IsText (codes ",") xs others × (text ≡ before ++ (first ++ others))

-- a document sequence: an object of its identifier and its documents
abbrev pub IsSequenceJson : Mode → Sequence → List ℕ → Type 0
IsSequenceJson mode q text =
    (documents : List ℕ) × AreItems (IsJson mode) [] q.documents documents
    × (text ≡ codes "{\"identifier\":" ++ (quoted q.identifier
    ++ (codes ",\"documents\":[" ++ (documents ++ codes "]}"))))

-- a message: an object of its numbers, its flags, its body and its document sequences
abbrev pub IsMessageJson : Mode → Message → List ℕ → Type 0
IsMessageJson mode m text =
    (body : List ℕ) × (sequences : List ℕ) × IsJson mode m.content.body body
    × AreItems (IsSequenceJson mode) [] m.content.sequences sequences
    × (text ≡ codes "{" ++ (header_json m ++ (flags_json m.flags ++ (codes ",\"body\":" ++ (body
    ++ (codes ",\"sequences\":[" ++ (sequences ++ codes "]}")))))))
