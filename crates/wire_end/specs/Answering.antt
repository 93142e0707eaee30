-- What answering one message of a connection does.
use Rattle.std.specs.Prelude.{◌≡◌, ◌≢◌, ℕ, ◌⊎◌, List, [], ◌∷◌, ◌++◌, None, true, Result, Ok, Err}
use Rattle.std.specs.Io.KnownBytes.{Appends}
use Rattle.wire_msg.specs.{IsMessage, Message}
use Rattle.wire_stream.specs.{Rose}
use Rattle.wire_peer.specs.{Does, LogEntry, LogStep, ServerView, Stops, asked_by, is_longer}
use Rattle.wire_peer.specs.{written}
use Rattle.wire_peer.specs.declared.handlers.HandlerStop.TheVariants as stop
use Rattle.wire_peer.specs.declared.server_state.AnswerRefusal.{AnswerRefusal}
use Rattle.wire_peer.specs.declared.server_state.AnswerRefusal.TheVariants as refusals
use Rattle.wire_peer.specs.declared.server_state.ServerCause.{ServerCause}
use Rattle.wire_peer.specs.declared.server_state.ServerCause.TheVariants as causes
use Rattle.wire_peer.specs.declared.server_state.ServerState.{ServerState}
use Rattle.wire_peer.specs.declared.server_state.ServerState.TheVariants.{Closed, Open}
use Rattle.wire_end.specs.Serving.{Seen, WantedMemory, id_behind, replies_to}
use Rattle.wire_end.specs.declared.next.RequestFault.{RequestFault}
use Rattle.wire_end.specs.declared.next.RequestFault.TheVariants as faults
use Rattle.wire_end.specs.declared.serving.ServeEnd.{ServeEnd}
use Rattle.wire_end.specs.declared.serving.ServeEnd.TheVariants.{Ended, EndedInside, Fault, Link}
use Rattle.wire_end.specs.declared.serving.ServeEnd.TheVariants.{Later, Budget, ReplyTooLarge}
use Rattle.wire_end.specs.declared.serving.ServeEnd.TheVariants.{OutOfMemory, HandlerFailed}

-- The server is open, this request alone waits in it, and no reply has yet to be sent.
pub record WaitsAlone (s : ServerView) (request : List ℕ) : Type 0 where
  pub is_open : s.state ≡ Open
  pub one : s.waiting ≡ request ∷ []
  pub whole : IsMessage s.limit request
  pub sent : s.output ≡ []

-- The handler was asked a message of a connection, and its entry was added to the log.
pub record GotEntry {H : Type 0} (does : Does H) (stops : Stops H) (connection : ℕ) (m : Message)
    (old new : Seen H) : Type 0 where
  pub entry : LogEntry
  pub logged : new.log ≡ old.log ++ entry ∷ []
  pub connected : entry.connection ≡ connection
  pub payload : entry.payload ≡ m.content
  pub step : LogStep does stops old.handler (asked_by m) entry.answers new.handler

-- a message has its entry, and a beginning of its replies was sent
abbrev pub SentPart : {H : Type 0} → Does H → Stops H → (connection : ℕ) → Message → (id : ℕ)
    → Seen H → Seen H → Type 0
SentPart does stops connection m id old new =
    (g : GotEntry does stops connection m old new) × (g.entry.answers ≢ None)
    × (part : List ℕ) × (lost : List ℕ) × Appends old.sent new.sent part
    × (written (replies_to id m g.entry.answers) ≡ part ++ lost)

-- A message was answered with this result: all replies were sent, from this reply id up to another
-- one, or a part of them if the link failed or took no more, or none.
abbrev pub AnswersAs : {H : Type 0} → Does H → Stops H → (connection limit : ℕ) → Message
    → Result (Unit {0}) ServeEnd → (id id' : ℕ) → Seen H → Seen H → Type 0
AnswersAs does stops connection limit m (Ok _) id id' old new =
    (new.failures ≡ old.failures)
    × (g : GotEntry does stops connection m old new) × (g.entry.answers ≢ None)
    × Appends old.sent new.sent (written (replies_to id m g.entry.answers))
    × (id' ≡ id_behind id m g.entry.answers)
AnswersAs does stops connection limit m (Err Link) id id' old new =
    Rose old.failures new.failures × SentPart does stops connection m id old new
AnswersAs does stops connection limit m (Err Later) id id' old new =
    (new.failures ≡ old.failures) × SentPart does stops connection m id old new
AnswersAs does stops connection limit m (Err ReplyTooLarge) id id' old new =
    (new.failures ≡ old.failures) × Appends old.sent new.sent []
    × (g : GotEntry does stops connection m old new)
    × (is_longer limit (replies_to id m g.entry.answers) ≡ true)
AnswersAs does stops connection limit m (Err HandlerFailed) id id' old new =
    (new.failures ≡ old.failures) × Appends old.sent new.sent []
    × (g : GotEntry does stops connection m old new) × (g.entry.answers ≡ None)
    × stops old.handler (asked_by m) stop.Failed new.handler
AnswersAs does stops connection limit m (Err OutOfMemory) id id' old new =
    (new.failures ≡ old.failures) × Appends old.sent new.sent []
    × (((new.handler ≡ old.handler) × (new.log ≡ old.log))
    ⊎
    ((g : GotEntry does stops connection m old new)
    × WantedMemory stops limit old.handler m (replies_to id m g.entry.answers)
    g.entry.answers new.handler))
AnswersAs does stops connection limit m (Err _) id id' old new = ⊥

-- the count of waits rose if the link took no more now, and otherwise stayed the same
abbrev pub CountsLater : Result (Unit {0}) ServeEnd → ℕ → ℕ → Type 0
CountsLater (Err Later) old new = Rose old new
CountsLater _ old new = new ≡ old

-- ---- ends

-- how serving ends where the server closed for this cause
abbrev pub end_by : ServerCause → ServeEnd
end_by causes.Ended = Ended
end_by causes.EndedInside = EndedInside
end_by (causes.Message fault) = Fault fault
end_by causes.ReplyTooLarge = ReplyTooLarge
end_by causes.NoMemory = OutOfMemory
end_by causes.HandlerFailed = HandlerFailed

-- how serving ends where a request got no replies
abbrev pub end_of : AnswerRefusal → ServeEnd
end_of (refusals.NowClosed cause) = end_by cause
end_of refusals.Closed = OutOfMemory
end_of refusals.NoSuchRequest = OutOfMemory
end_of refusals.OutOfMemory = OutOfMemory

-- how serving ends where no next request came
abbrev pub end_with : RequestFault → ServeEnd
end_with (faults.Link fault) = Link
end_with (faults.Closed cause) = end_by cause
end_with faults.OutOfMemory = OutOfMemory

-- How the server stands where serving ended so: closed for the cause that is this end, and open
-- where that is none of the server's. Where memory ran out, it is the one or the other.
abbrev pub StandsAfter : ServeEnd → ServerState → Type 0
StandsAfter Ended state = state ≡ Closed causes.Ended
StandsAfter EndedInside state = state ≡ Closed causes.EndedInside
StandsAfter (Fault fault) state = state ≡ Closed (causes.Message fault)
StandsAfter Link state = state ≡ Open
StandsAfter Later state = state ≡ Open
StandsAfter Budget state = state ≡ Open
StandsAfter ReplyTooLarge state = state ≡ Closed causes.ReplyTooLarge
StandsAfter OutOfMemory state = (state ≡ Open) ⊎ (state ≡ Closed causes.NoMemory)
StandsAfter HandlerFailed state = state ≡ Closed causes.HandlerFailed
