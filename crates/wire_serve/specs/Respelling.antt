-- The OP_REPLY that stands in the place of a message.
use Rattle.std.specs.Prelude.{◌≡◌, ◌≢◌, ℕ, ◌<◌, ◌≤◌, List, [], length, Result, Ok, Err, Vec}
use Rattle.std.specs.declared.alloc.Global.{Global}
use Rattle.wire_msg.specs.{Message, SpellsMsg}
use Rattle.wire_query.specs.{reply_bytes, reply_len}
use Rattle.wire_query.specs.Replies.{command_head}
use Rattle.wire_serve.specs.declared.cause.CloseCause.{CloseCause}
use Rattle.wire_serve.specs.declared.cause.CloseCause.TheVariants as causes
use Rattle.wire_msg.specs.declared.header.TheConstants.{MAX_MESSAGE_LEN}

-- The bytes spell a message with no document sequence, and these are the OP_REPLY with its ids and
-- its body.
pub record Respells (bytes reply : List ℕ) : Type 0 where
  pub m : Message
  pub spelled : SpellsMsg m bytes
  pub alone : m.content.sequences ≡ []
  pub same : reply ≡ reply_bytes (command_head m.id m.response_to) m.content.body

-- why the bytes of a message have no OP_REPLY
abbrev pub NoRespelling : List ℕ → CloseCause → Type 0
NoRespelling bytes causes.NotAlone =
    (m : Message) → SpellsMsg m bytes → length bytes ≤ MAX_MESSAGE_LEN → m.content.sequences ≢ []
NoRespelling bytes causes.ReplyTooLarge =
    (m : Message) → SpellsMsg m bytes → MAX_MESSAGE_LEN < reply_len m.content.body
NoRespelling bytes causes.NoMemory = Unit {0}
NoRespelling bytes cause = ⊥

-- the OP_REPLY of these bytes, or why there is none
abbrev pub IsRespelled : List ℕ → Result (Vec ℕ Global) CloseCause → Type 0
IsRespelled bytes (Ok reply) = Respells bytes reply.items
IsRespelled bytes (Err cause) = NoRespelling bytes cause
