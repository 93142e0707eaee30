-- What answering a request does.
use Rattle.std.specs.Prelude.{◌≡◌, ℕ, ℤ, List, [], ◌∷◌, ◌++◌, length, true, false, Some, None}
use Rattle.std.specs.Prelude.{Result, Ok, Err}
use Rattle.wire_msg.specs.{Content, Message}
use Rattle.wire_peer.specs.declared.log.NoReplies.{NoReplies}
use Rattle.wire_peer.specs.declared.log.NoReplies.TheVariants.{NotAsked, Stopped, TooLarge}
use Rattle.wire_peer.specs.declared.log.NoReplies.TheVariants.{NoMemory}
use Rattle.wire_peer.specs.declared.reply_buf.ReplyRefusal.{ReplyRefusal}
use Rattle.wire_peer.specs.declared.reply_buf.ReplyRefusal.TheVariants as refusals
use Rattle.wire_peer.specs.Chains.{ReplyState, chain, id_after, is_longer, next_id, replies}
use Rattle.wire_peer.specs.Chains.{written}
use Rattle.wire_peer.specs.Logs.{Does, LogEntry, Stops, entered}
use Rattle.wire_peer.specs.Requests.{Asked, IsCount}

-- these replies were put behind what waits, and this id is next
abbrev pub put : ReplyState → List Message → ℕ → ReplyState
put s ms next = record { output = s.output ++ written ms; next = next; limit = s.limit }

-- The answers to the request of this id were put with this result: as replies, all or none of them.
abbrev pub PushStep : ℤ → List Content → Result (Unit {0}) ReplyRefusal → ReplyState → ReplyState
    → Type 0
PushStep to answers (Ok _) s s' =
    (is_longer s.limit (chain s.next to answers) ≡ false)
    × (s' ≡ put s (chain s.next to answers) (id_after s.next answers))
PushStep to answers (Err refusals.TooLarge) s s' =
    (is_longer s.limit (chain s.next to answers) ≡ true) × (s' ≡ s)
PushStep to answers (Err refusals.OutOfMemory) s s' =
    (is_longer s.limit (chain s.next to answers) ≡ false) × (s' ≡ s)

-- The answers to a request of this id were put with this result: as the replies to it, all or none
-- of them.
abbrev pub PutStep : ℤ → Asked → List Content → Result (Unit {0}) ReplyRefusal → ReplyState
    → ReplyState → Type 0
PutStep to a answers (Ok _) s s' =
    (is_longer s.limit (replies s.next to a answers) ≡ false)
    × (s' ≡ put s (replies s.next to a answers) (next_id s.next a answers))
PutStep to a answers (Err refusals.TooLarge) s s' =
    (is_longer s.limit (replies s.next to a answers) ≡ true) × (s' ≡ s)
PutStep to a answers (Err refusals.OutOfMemory) s s' =
    (a.more_to_come ≡ false) × (is_longer s.limit (replies s.next to a answers) ≡ false) × (s' ≡ s)

-- From a state and a log into a state and a log the handler gave these answers to a request over a
-- connection.
pub record IsAnswered {H : Type 0} (does : Does H) (connection : ℕ) (a : Asked)
    (answers : List Content) (h : H) (log : List LogEntry) (h' : H) (log' : List LogEntry) :
    Type 0 where
  pub answered : does h a answers h'
  pub count : IsCount a (length answers)
  pub entry : log' ≡ log ++ entered connection a (Some answers) ∷ []

-- A request of this id that came over a connection was answered with this result, from a state, a
-- log and waiting replies into a state, a log and waiting replies.
abbrev pub ReplyStep : {H : Type 0} → Does H → Stops H → ℕ → ℤ → Asked → Result (Unit {0}) NoReplies
    → H → List LogEntry → ReplyState → H → List LogEntry → ReplyState → Type 0
ReplyStep does stops connection id a (Ok _) h log s h' log' s' =
    (answers : List Content) × IsAnswered does connection a answers h log h' log'
    × (is_longer s.limit (replies s.next id a answers) ≡ false)
    × (s' ≡ put s (replies s.next id a answers) (next_id s.next a answers))
ReplyStep does stops connection id a (Err NotAsked) h log s h' log' s' =
    (h' ≡ h) × (log' ≡ log) × (s' ≡ s)
ReplyStep does stops connection id a (Err (Stopped stop)) h log s h' log' s' =
    stops h a stop h' × (log' ≡ log ++ entered connection a None ∷ []) × (s' ≡ s)
ReplyStep does stops connection id a (Err TooLarge) h log s h' log' s' =
    (answers : List Content) × IsAnswered does connection a answers h log h' log'
    × (is_longer s.limit (replies s.next id a answers) ≡ true) × (s' ≡ s)
ReplyStep does stops connection id a (Err NoMemory) h log s h' log' s' =
    (answers : List Content) × IsAnswered does connection a answers h log h' log'
    × (a.more_to_come ≡ false) × (is_longer s.limit (replies s.next id a answers) ≡ false)
    × (s' ≡ s)
