-- The content of a message that is given as the bytes of its body and of its document sequences.
use Rattle.std.specs.Prelude.{◌≡◌, ◌≤◌, ◌<◌, ℕ, ◌+◌, pos, List, ◌∷◌, ◌++◌, length, Option, None}
use Rattle.std.specs.Prelude.{Some}
use Rattle.bson_raw.specs.{IsSpelled, WholeFault}
use Rattle.wire_msg.specs.{FaultMsg}
use Rattle.wire_msg.specs.Spelling.{message_bytes}
use Rattle.byte_views.specs.declared.content.ContentRefusal.{ContentRefusal}
use Rattle.byte_views.specs.declared.content.ContentRefusal.TheVariants.{Body, Message, OutOfMemory}
use Rattle.byte_views.specs.declared.content.ContentRefusal.TheVariants.{TooLarge}

-- the number of bytes of a message with a body and document sequences of these bytes
abbrev pub content_len : List ℕ → List ℕ → ℕ
content_len body sequences = 21 + length body + length sequences

-- a message with no ids and no flag, whose sections are a body of these bytes and then those
abbrev pub plain_message : List ℕ → List ℕ → List ℕ
plain_message body sequences = message_bytes (pos 0) (pos 0) 0 (0 ∷ (body ++ sequences))

-- the length, unless it is greater than the limit
abbrev pub IsLengthWithin : ℕ → ℕ → Option ℕ → Type 0
IsLengthWithin limit len None = limit < len
IsLengthWithin limit len (Some n) = (n ≡ len) × (len ≤ limit)

-- The first reason why they aren't a content: the body isn't a document, the message would be too
-- long, memory, and the message's first fault.
abbrev pub IsContentRefusal : ℕ → List ℕ → List ℕ → ContentRefusal → Type 0
IsContentRefusal limit body sequences (Body f) = WholeFault body f
IsContentRefusal limit body sequences TooLarge =
    IsSpelled body × (limit < content_len body sequences)
IsContentRefusal limit body sequences OutOfMemory =
    IsSpelled body × (content_len body sequences ≤ limit)
IsContentRefusal limit body sequences (Message f) =
    IsSpelled body × (content_len body sequences ≤ limit)
    × FaultMsg (plain_message body sequences) limit f
