-- What is copied out of a client: the bytes that wait to be sent, and the reply that is ready.
use Rattle.std.specs.Prelude.{◌≡◌, ◌≢◌, ◌≤◌, ◌<◌, ℕ, pos, min, List, ◌++◌, drop, length, take}
use Rattle.std.specs.Prelude.{false, None, Some, Result, Ok, Err, Vec, ◌⊎◌}
use Rattle.std.specs.declared.alloc.Global.{Global}
use Rattle.wire_msg.specs.{Content, Message, SpellsMsg, canonical}
use Rattle.wire_peer.specs.{ClientSeen}
use Rattle.wire_peer.specs.declared.call_table.ReadyReply.{ReadyReply}
use Rattle.core_handles.specs.declared.client_replies.OutputCopied.{OutputCopied}
use Rattle.core_handles.specs.declared.client_replies.ReplyCopied.{ReplyCopied}

-- ---- output

-- the result of copying output from a handle that has no core for it: number 255, no byte copied
abbrev pub no_output : OutputCopied
no_output = record { refusal = 255; copied = 0; waiting = 0 }

-- The first bytes that wait are put to the front of the room, as many as it has room for.
pub record IsOutputCopied (output old new : List ℕ) (w : OutputCopied) : Type 0 where
  pub done : w.refusal ≡ 0
  pub copied : w.copied ≡ min (length output) (length old)
  pub waiting : w.waiting ≡ length output
  pub room : new ≡ take w.copied output ++ drop w.copied old

-- ---- replies

-- there is no reply, by this number
abbrev pub no_reply : ℕ → ReplyCopied
no_reply n = record { refusal = n; last = false; call = 0; length = 0 }

-- the reply has this many bytes, and was copied, or wasn't, by this number
abbrev pub reply_told : ℕ → ReadyReply → ℕ → ReplyCopied
reply_told n r len = record { refusal = n; last = r.last; call = r.call; length = len }

-- The reply is put to the front of the room; or the room is too short for it, and stays as it was.
pub data IsReplyPut (r : ReadyReply) (message old new : List ℕ) : ReplyCopied → Type 0 where
  fits : {w : ReplyCopied} → length message ≤ length old → w ≡ reply_told 0 r (length message)
      → new ≡ message ++ drop (length message) old → IsReplyPut r message old new w
  too_long : {w : ReplyCopied} → length old < length message
      → w ≡ reply_told 5 r (length message) → new ≡ old → IsReplyPut r message old new w

-- a message with this content, with no ids and no flag
abbrev pub plain_message : Content → Message
plain_message c = record {
  id = pos 0;
  response_to = pos 0;
  flags = record { more_to_come = false; exhaust_allowed = false };
  content = c;
}

-- the message that the client holds has this spelling, with no ids and no flag
abbrev pub IsSpelledReply : ClientSeen → List ℕ → Type 0
IsSpelledReply k bytes =
    (m : Message) × SpellsMsg m k.held × (bytes ≡ canonical (plain_message m.content))

-- the reply that is ready and its bytes; or that none is, or that there is no memory for it
abbrev pub IsReplySpelled : ClientSeen → Result (ReadyReply × Vec ℕ Global) ℕ → Type 0
IsReplySpelled k (Ok x) = (k.reply ≡ Some x.0) × IsSpelledReply k x.1.items
IsReplySpelled k (Err n) = ((n ≡ 7) × (k.reply ≡ None)) ⊎ ((n ≡ 254) × (k.reply ≢ None))

-- The reply that is ready is put into the room, if it has as many bytes; or there is no memory for
-- it, or none is ready, and the room stays as it was.
pub data IsReplyCopied (k : ClientSeen) (old new : List ℕ) : ReplyCopied → Type 0 where
  is_ready : {w : ReplyCopied} (r : ReadyReply) (message : List ℕ) → k.reply ≡ Some r
      → IsSpelledReply k message → IsReplyPut r message old new w → IsReplyCopied k old new w
  no_memory : {w : ReplyCopied} → k.reply ≢ None → w ≡ no_reply 254 → new ≡ old
      → IsReplyCopied k old new w
  none_ready : {w : ReplyCopied} → k.reply ≡ None → w ≡ no_reply 7 → new ≡ old
      → IsReplyCopied k old new w
