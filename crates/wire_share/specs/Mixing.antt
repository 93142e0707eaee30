-- That answers are never mixed.
use Rattle.std.specs.Prelude.{◌≡◌, ℕ, pos, ◌≤◌, List, [], ◌∷◌, ◌++◌, Some, slice_get}
use Rattle.wire_msg.specs.{Message}
use Rattle.wire_msg.specs.declared.payloads.Payload.{Payload}
use Rattle.wire_peer.specs.{LogEntry}
use Rattle.wire_peer.specs.declared.call_table.ReadyReply.{ReadyReply}
use Rattle.wire_peer.specs.declared.calls.CallNo.{CallNo}
use Rattle.wire_model.specs.{ClientEnd, Done, Made, Record}
use Rattle.wire_share.specs.Acts.{Gives, Passes, ShareAct}

-- the act is one of them
abbrev pub IsAmong : ShareAct → List ShareAct → Type 0
IsAmong act acts = (before after : List ShareAct) × (acts ≡ before ++ act ∷ after)

-- no call of this upstream with this number is answered in the acts
abbrev pub IsUnanswered : (u call : ℕ) → List ShareAct → Type 0
IsUnanswered u call acts =
    (d : ℕ) (m answer : Message) (reply : ReadyReply)
    (made : List LogEntry) → IsAmong (Gives d u m reply answer made) acts → reply.call ≡ call → ⊥

-- The call of this number of upstream u is done: it was made of the payload of this request, and
-- this message is the one reply to it.
pub record IsReplyTo (u : ℕ) (m answer : Message) (call : ℕ) (end : ClientEnd) : Type 0 where
  pub record_ : Record
  pub at : slice_get end.records call ≡ Some record_
  pub connection : record_.connection ≡ u
  pub payload : record_.asked.payload ≡ m.content
  pub parts : record_.parts ≡ answer.content ∷ []
  pub done : record_.state ≡ Done

-- Each request that is answered gets the reply to the call that it was itself passed on as, before
-- that, and which has its own payload; and no later request gets that of the same call.
pub record NeverMixed (acts : List ShareAct) (ends : ℕ → ClientEnd) : Type 0 where
  pub passed : (before after : List ShareAct) (d u : ℕ) (m answer : Message) (reply : ReadyReply)
      (made : List LogEntry) → acts ≡ before ++ Gives d u m reply answer made ∷ after
      → (payload : Payload) × (call : CallNo) × (told : List LogEntry)
      × IsAmong (Passes d u m payload call told) before × (call.number ≡ reply.call)
  pub own : (d u : ℕ) (m answer : Message) (reply : ReadyReply)
      (made : List LogEntry) → IsAmong (Gives d u m reply answer made) acts
      → IsReplyTo u m answer reply.call (ends u)
  pub once : (before after : List ShareAct) (d u : ℕ) (m answer : Message) (reply : ReadyReply)
      (made : List LogEntry) → acts ≡ before ++ Gives d u m reply answer made ∷ after
      → IsUnanswered u reply.call after

-- ---- with the server's log

-- the client of an upstream is made with these numbers
abbrev pub IsMadeSo : Made → Type 0
IsMadeSo made = (made.first_id ≡ pos 1) × (made.client_window ≡ 1024)

-- This entry of the log has the payload of the request, and this message is its one answer.
pub record IsEntryOf (u : ℕ) (m answer : Message) (log : List LogEntry) (e : ℕ) : Type 0 where
  pub entry : LogEntry
  pub at : slice_get log e ≡ Some entry
  pub connection : entry.connection ≡ u
  pub payload : entry.payload ≡ m.content
  pub answers : entry.answers ≡ Some (answer.content ∷ [])

-- Each request that is answered by a server over a connection from 1 to k gets the answer that an
-- entry of its log has for the request's own payload, and no later request gets that of the same
-- entry.
pub record AnswersAreTheServers (acts : List ShareAct) (k : ℕ) (log : List LogEntry)
    : Type 0 where
  pub entry_of : (u call : ℕ) → ℕ
  pub own : (d u : ℕ) (m answer : Message) (reply : ReadyReply)
      (made : List LogEntry) → 1 ≤ u → u ≤ k → IsAmong (Gives d u m reply answer made) acts
      → IsEntryOf u m answer log (entry_of u reply.call)
  pub once : (before after : List ShareAct) (d u : ℕ) (m answer : Message) (reply : ReadyReply)
      (made : List LogEntry) → acts ≡ before ++ Gives d u m reply answer made ∷ after
      → 1 ≤ u → u ≤ k
      → (e v : ℕ) (n other : Message) (later : ReadyReply) (told : List LogEntry)
      → 1 ≤ v → v ≤ k → IsAmong (Gives e v n later other told) after
      → entry_of v later.call ≡ entry_of u reply.call → ⊥
