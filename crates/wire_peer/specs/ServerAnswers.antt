-- What answering a request does to a server.
use Rattle.std.specs.Prelude.{◌≡◌, ◌≢◌, ℕ, ◌<◌, ◌≤◌, List, length, remove, slice_get, Option, Some}
use Rattle.std.specs.Prelude.{None, Result, Ok, Err}
use Rattle.wire_msg.specs.{Message, SpellsMsg}
use Rattle.wire_peer.specs.declared.handlers.HandlerStop.TheVariants as stops
use Rattle.wire_peer.specs.declared.log.NoReplies.{NoReplies}
use Rattle.wire_peer.specs.declared.log.NoReplies.TheVariants as replies
use Rattle.wire_peer.specs.declared.server_state.AnswerRefusal.{AnswerRefusal}
use Rattle.wire_peer.specs.declared.server_state.AnswerRefusal.TheVariants as refusals
use Rattle.wire_peer.specs.declared.server_state.ServerCause.{ServerCause}
use Rattle.wire_peer.specs.declared.server_state.ServerCause.TheVariants.{ReplyTooLarge, NoMemory}
use Rattle.wire_peer.specs.declared.server_state.ServerCause.TheVariants.{HandlerFailed}
use Rattle.wire_peer.specs.declared.server_state.ServerState.TheVariants.{Open, Closed}
use Rattle.wire_peer.specs.Chains.{ReplyState}
use Rattle.wire_peer.specs.Logs.{Does, LogEntry, Stops}
use Rattle.wire_peer.specs.Replying.{ReplyStep}
use Rattle.wire_peer.specs.Requests.{asked_by}
use Rattle.wire_peer.specs.Servers.{ServerView}

-- The k-th request that waits, counted from 0, is this message.
pub record WaitsAt (s : ServerView) (k : ℕ) (m : Message) : Type 0 where
  pub bytes : List ℕ
  pub at : slice_get s.waiting k ≡ Some bytes
  pub spelled : SpellsMsg m bytes

-- the cause for which a server closes that has no replies for this reason; none where the handler
-- wasn't asked
abbrev pub cause_of : NoReplies → Option ServerCause
cause_of replies.NotAsked = None
cause_of (replies.Stopped stops.Failed) = Some HandlerFailed
cause_of (replies.Stopped stops.OutOfMemory) = Some NoMemory
cause_of replies.TooLarge = Some ReplyTooLarge
cause_of replies.NoMemory = Some NoMemory

-- the replies of a server
abbrev pub replies_of : ServerView → ReplyState
replies_of s = record { output = s.output; next = s.next_id; limit = s.limit }

-- the server without the k-th of its waiting requests, and with these replies
abbrev pub answered : ServerView → ℕ → ReplyState → ServerView
answered s k r = record s { waiting = remove s.waiting k; output = r.output; next_id = r.next }

-- the server without the k-th of its waiting requests, closed
abbrev pub closed_at : ServerView → ℕ → ServerCause → ServerView
closed_at s k cause = record s { waiting = remove s.waiting k; state = Closed cause }

-- The k-th request, counted from 0, was answered with this result, from a server, a state of the
-- handler and a log into a server, a state and a log.
abbrev pub AnswerStep : {H : Type 0} → Does H → Stops H → ℕ → Result ℕ AnswerRefusal → ServerView
    → H → List LogEntry → ServerView → H → List LogEntry → Type 0
AnswerStep does stops k (Ok n) s h log s' h' log' =
    (s.state ≡ Open) × (n ≡ length log) × ((m : Message) × WaitsAt s k m × ((r : ReplyState)
    × ReplyStep does stops s.connection m.id (asked_by m) (Ok tt) h log (replies_of s) h' log' r
    × (s' ≡ answered s k r)))
AnswerStep does stops k (Err (refusals.NowClosed cause)) s h log s' h' log' =
    (s.state ≡ Open) × (s' ≡ closed_at s k cause)
    × ((m : Message) × WaitsAt s k m × ((why : NoReplies)
    × (cause_of why ≡ Some cause)
    × ReplyStep does stops s.connection m.id (asked_by m) (Err why) h log (replies_of s) h' log'
    (replies_of s)))
AnswerStep does stops k (Err refusals.Closed) s h log s' h' log' =
    (s.state ≢ Open) × (s' ≡ s) × (h' ≡ h) × (log' ≡ log)
AnswerStep does stops k (Err refusals.NoSuchRequest) s h log s' h' log' =
    (s.state ≡ Open) × (length s.waiting ≤ k) × (s' ≡ s) × (h' ≡ h) × (log' ≡ log)
AnswerStep does stops k (Err refusals.OutOfMemory) s h log s' h' log' =
    (s.state ≡ Open) × (k < length s.waiting) × (s' ≡ s) × (h' ≡ h) × (log' ≡ log)
