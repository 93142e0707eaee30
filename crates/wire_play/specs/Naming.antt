-- What a line names: its keyword and its operands.
use Rattle.std.specs.Prelude.{◌≡◌, ◌≢◌, ◌⊎◌, ℕ, ◌^◌, pos, List, [], ◌∷◌, codes}
use Rattle.bson_elem.specs.{Tree}
use Rattle.wire_model.specs.declared.events.Event.{Event}
use Rattle.wire_model.specs.declared.events.Event.TheVariants.{Open, Return, Call, Up, Down, Answer}
use Rattle.wire_model.specs.declared.events.Event.TheVariants.{CutUp, CutDown, Clear, Restart}
use Rattle.wire_model.specs.declared.events.Event.TheVariants.{RawOpen, Raw, RawTake}
use Rattle.wire_msg.specs.{Carries, body_alone}
use Rattle.wire_msg.specs.declared.payloads.Payload.{Payload}
use Rattle.script_lines.specs.{IsHex, IsNumber}
use Rattle.wire_peer.specs.declared.calls.CallKind.{CallKind}
use Rattle.wire_peer.specs.declared.calls.CallKind.TheVariants.{Plain, Exhaust, Unacknowledged}
use Rattle.wire_play.specs.declared.keyword.Keyword.{Keyword}
use Rattle.wire_play.specs.declared.keyword.Keyword.TheVariants as keywords
use Rattle.wire_play.specs.declared.named.HandlerName.{HandlerName}
use Rattle.wire_play.specs.declared.named.HandlerName.TheVariants.{Echo, Count}
use Rattle.wire_play.specs.declared.named.Setup.{Setup}
use Rattle.wire_play.specs.Words.{IsDocumentHex, words_of}

-- what a line can name: a world, by its handler and its limits, or an event in it
pub data Named : Type 0 where
  setup : Setup → Named
  event : Event → Named

-- ---- keywords

abbrev pub call_keyword : CallKind → List ℕ
call_keyword Plain = codes "call"
call_keyword Exhaust = codes "exhaust"
call_keyword Unacknowledged = codes "send"

abbrev pub keyword_text : Keyword → List ℕ
keyword_text keywords.World = codes "world"
keyword_text keywords.Open = codes "open"
keyword_text keywords.Return = codes "return"
keyword_text (keywords.Call kind) = call_keyword kind
keyword_text keywords.Up = codes "up"
keyword_text keywords.Down = codes "down"
keyword_text keywords.Answer = codes "answer"
keyword_text keywords.CutUp = codes "cutup"
keyword_text keywords.CutDown = codes "cutdown"
keyword_text keywords.Clear = codes "clear"
keyword_text keywords.Restart = codes "restart"
keyword_text keywords.RawOpen = codes "rawopen"
keyword_text keywords.Raw = codes "raw"
keyword_text keywords.RawTake = codes "rawtake"

-- the keyword of an event
abbrev pub event_kind : Event → Keyword
event_kind Open = keywords.Open
event_kind (Return c) = keywords.Return
event_kind (Call c kind payload) = keywords.Call kind
event_kind (Up c n) = keywords.Up
event_kind (Down c n) = keywords.Down
event_kind (Answer c i) = keywords.Answer
event_kind (CutUp c) = keywords.CutUp
event_kind (CutDown c) = keywords.CutDown
event_kind Clear = keywords.Clear
event_kind Restart = keywords.Restart
event_kind RawOpen = keywords.RawOpen
event_kind (Raw c bytes) = keywords.Raw
event_kind (RawTake c n) = keywords.RawTake

abbrev pub kind_of : Named → Keyword
kind_of (setup s) = keywords.World
kind_of (event e) = event_kind e

abbrev pub keyword_of : Named → List ℕ
keyword_of named = keyword_text (kind_of named)

-- ---- operands

abbrev pub handler_word : HandlerName → List ℕ
handler_word Echo = codes "echo"
handler_word Count = codes "count"

-- HANDLER FIRST WINDOW MAX LIMIT: the name of the handler, and four numbers that fit the limits'
-- types
pub record IsSetup (operands : List (List ℕ)) (s : Setup) : Type 0 where
  pub first : List ℕ
  pub window : List ℕ
  pub max : List ℕ
  pub limit : List ℕ
  pub words : operands ≡ handler_word s.handler ∷ first ∷ window ∷ max ∷ limit ∷ []
  pub id : ℕ
  pub id_is : s.limits.first_id ≡ pos id
  pub first_is : IsNumber (2 ^ 31) first id
  pub window_is : IsNumber (2 ^ 64) window s.limits.window
  pub max_is : IsNumber (2 ^ 64) max s.limits.connections
  pub limit_is : IsNumber (2 ^ 32) limit s.limits.limit

-- C: a number
pub record IsOneNumber (operands : List (List ℕ)) (c : ℕ) : Type 0 where
  pub connection : List ℕ
  pub words : operands ≡ connection ∷ []
  pub connection_is : IsNumber (2 ^ 64) connection c

-- C N: two numbers
pub record AreTwoNumbers (operands : List (List ℕ)) (c n : ℕ) : Type 0 where
  pub connection : List ℕ
  pub count : List ℕ
  pub words : operands ≡ connection ∷ count ∷ []
  pub connection_is : IsNumber (2 ^ 64) connection c
  pub count_is : IsNumber (2 ^ 64) count n

-- C HEX: a number, and this word
pub record HasHex (operands : List (List ℕ)) (c : ℕ) (hex : List ℕ) : Type 0 where
  pub connection : List ℕ
  pub words : operands ≡ connection ∷ hex ∷ []
  pub connection_is : IsNumber (2 ^ 64) connection c

-- the word spells a document, which is the body of the payload
pub record IsCall (operands : List (List ℕ)) (c : ℕ) (payload : Payload) : Type 0 where
  pub hex : List ℕ
  pub words : HasHex operands c hex
  pub body : Tree
  pub hex_is : IsDocumentHex hex body
  pub carried : Carries payload (body_alone body)

-- the word spells at least one byte
pub record IsRaw (operands : List (List ℕ)) (c : ℕ) (bytes : List ℕ) : Type 0 where
  pub hex : List ℕ
  pub words : HasHex operands c hex
  pub hex_is : IsHex hex bytes
  pub some : bytes ≢ []

abbrev pub AreEventOperands : List (List ℕ) → Event → Type 0
AreEventOperands operands Open = operands ≡ []
AreEventOperands operands (Return c) = IsOneNumber operands c
AreEventOperands operands (Call c kind payload) = IsCall operands c payload
AreEventOperands operands (Up c n) = AreTwoNumbers operands c n
AreEventOperands operands (Down c n) = AreTwoNumbers operands c n
AreEventOperands operands (Answer c i) = AreTwoNumbers operands c i
AreEventOperands operands (CutUp c) = IsOneNumber operands c
AreEventOperands operands (CutDown c) = IsOneNumber operands c
AreEventOperands operands Clear = operands ≡ []
AreEventOperands operands Restart = operands ≡ []
AreEventOperands operands RawOpen = operands ≡ []
AreEventOperands operands (Raw c bytes) = IsRaw operands c bytes.now
AreEventOperands operands (RawTake c n) = AreTwoNumbers operands c n

abbrev pub AreOperands : List (List ℕ) → Named → Type 0
AreOperands operands (setup s) = IsSetup operands s
AreOperands operands (event e) = AreEventOperands operands e

-- ---- lines

-- the line names this: its first word is the keyword, and the others are the operands
abbrev pub Names : List ℕ → Named → Type 0
Names line named =
    (operands : List (List ℕ)) × (words_of line ≡ keyword_of named ∷ operands)
    × AreOperands operands named

-- the keyword of a call or of raw bytes
abbrev pub IsBytesKeyword : List ℕ → Type 0
IsBytesKeyword word = (word ≡ codes "raw") ⊎ ((kind : CallKind) × (word ≡ call_keyword kind))

-- the first word is the keyword of a call or of raw bytes, and after it come a number and one more
-- word
pub record NamesBytes (line : List ℕ) : Type 0 where
  pub keyword : List ℕ
  pub operands : List (List ℕ)
  pub words : words_of line ≡ keyword ∷ operands
  pub keyword_is : IsBytesKeyword keyword
  pub c : ℕ
  pub hex : List ℕ
  pub operands_are : HasHex operands c hex
