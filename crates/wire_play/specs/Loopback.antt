-- What the calls of `loop` send and receive, what was done at both ends, and what is written: a
-- line for each call, and a last one.
use Rattle.std.specs.Prelude.{◌≡◌, ◌⊎◌, ℕ, ◌+◌, ◌≤◌, zero, suc, pos, List, [], ◌∷◌, ◌++◌}
use Rattle.std.specs.Prelude.{Option, Some, codes}
use Rattle.std.specs.Fmt.{decimal}
use Rattle.std.specs.Io.KnownBytes.{Appends}
use Rattle.bson_elem.specs.{Tree}
use Rattle.wire_msg.specs.{Message, SpellsMsg, body_alone, canonical}
use Rattle.wire_peer.specs.{Does, LogEntry, Stops, log_of, new_server, request}
use Rattle.wire_peer.specs.declared.calls.CallKind.TheVariants.{Plain}
use Rattle.wire_peer.specs.declared.echoing.Echo.{Echo}
use Rattle.wire_peer.specs.declared.handlers.HandlerStop.TheVariants.{OutOfMemory}
use Rattle.wire_peer.specs.declared.log.Logged.{Logged}
use Rattle.wire_model.specs.{Arrive, ClientAct, ClientEnd, ClientRun, Deed, Made, ServerAct}
use Rattle.wire_model.specs.{ServerEnd, ServerRun, first_end}
use Rattle.wire_end.specs.{AreAnswered, AreInOrder, EndRuns, EndSeen, ServerEndRuns}
use Rattle.wire_end.specs.{ServerEndSeen, first_client, new_server_end}
use Rattle.wire_play.specs.Calling.{AreComplete, call_body, done_calls}
use Rattle.wire_msg.specs.declared.header.TheConstants.{MAX_MESSAGE_LEN}

-- the bytes of the request of this call
abbrev pub request_bytes : ℕ → List ℕ
request_bytes k = canonical (request (pos (k + 1)) Plain (body_alone (call_body k)))

-- those of the first k calls, in order
abbrev pub requests_bytes : ℕ → List ℕ
requests_bytes zero = []
requests_bytes (suc k) = requests_bytes k ++ request_bytes k

-- the bytes that came and of which nothing was made yet: those of the current message, and what is
-- held behind them
abbrev pub arrived : {L : Type 0} → EndSeen L → List ℕ
arrived end = end.own.client.held ++ end.inlet

-- These bytes spell a message that carries this body and nothing else.
abbrev pub IsReply : Tree → List ℕ → Type 0
IsReply body bytes = (m : Message) × SpellsMsg m bytes × (m.content ≡ body_alone body)

-- Where these bytes had arrived, known bytes grew by some that put the reply to the call of this
-- number in front of what has arrived now.
abbrev pub GetsReply : ℕ → Option (List ℕ) → Option (List ℕ) → List ℕ → List ℕ → Type 0
GetsReply k old new before after =
    (got : List ℕ) × (reply : List ℕ) × Appends old new got × IsReply (call_body k) reply
    × (before ++ got ≡ reply ++ after)

-- a request was asked, and answered by its own payload
abbrev pub IsEchoed : List LogEntry → List LogEntry → Type 0
IsEchoed old new = (e : LogEntry) × (new ≡ old ++ e ∷ []) × (e.answers ≡ Some (e.payload ∷ []))

-- ---- both ends

-- how the server's handler answers, and stops
abbrev pub echo_does : Does Echo
echo_does h a answers h' = answers ≡ a.payload ∷ []

abbrev pub echo_stops : Stops Echo
echo_stops h a stop h' = stop ≡ OutOfMemory

-- the most bytes that a message has
abbrev pub message_limit : ℕ
message_limit = MAX_MESSAGE_LEN

-- ids from 1, and room for one call and one request
abbrev pub made_least : Made
made_least = record { first_id = pos 1; client_window = 1; server_window = 1 }

-- Nothing was done yet at the ends of connection 1, over these links; the log is empty.
pub record AreNew {L : Type 0} (near far : L) (client : EndSeen L) (server : ServerEndSeen L)
    (logged : Logged Echo) : Type 0 where
  pub client_is : client ≡ first_client message_limit (λ _. made_least) 1 near
  pub server_is : server ≡ new_server_end (new_server 1 1 message_limit) far
  pub log_is : log_of logged.entries.items ≡ []

-- What was done at the two ends: a run of acts at the client, after which so many calls are done,
-- and one at the server. If the acts of both can be put into one order in which bytes arrive in
-- order, each of these calls has an entry of its own in the server's log, which was asked with the
-- call's body, and answered by what the call was given back.
pub record HaveRun (calls : ℕ) : Type 0 where
  pub acts : List ClientAct
  pub client : ClientEnd
  pub runs : ClientRun 1 (first_end message_limit (λ _. made_least) 1) acts client
  pub done : client.records ≡ done_calls calls
  pub served : List ServerAct
  pub first : Echo
  pub server : ServerEnd Echo
  pub serves : ServerRun echo_does echo_stops
      (record { server = new_server 1 1 message_limit; log = []; handler = first }) served server
  pub headline : (deeds : List Deed) → AreInOrder acts served deeds
      → Arrive (λ _. []) (λ _. []) deeds → AreAnswered (done_calls calls) server.log

-- ---- the text

-- the line of the call of this number, whose request has the id after it
abbrev pub call_line : ℕ → List ℕ
call_line k = codes "call " ++ (decimal k ++ (codes " id " ++ (decimal (k + 1) ++ codes " done\n")))

-- the lines of a number of calls, from number k on
abbrev pub call_lines : ℕ → ℕ → List ℕ
call_lines k zero = []
call_lines k (suc count) = call_line k ++ call_lines (k + 1) count

-- the last line
abbrev pub last_line : ℕ → List ℕ
last_line calls = codes "loop " ++ (decimal calls ++ codes " done\n")

-- the whole text of a number of calls
abbrev pub loop_text : ℕ → List ℕ
loop_text calls = call_lines 0 calls ++ last_line calls

-- known bytes grow by a beginning of the text, behind which this is left of it
abbrev pub AppendsUpTo : List ℕ → List ℕ → Option (List ℕ) → Option (List ℕ) → Type 0
AppendsUpTo left text old new = (gone : List ℕ) × (text ≡ gone ++ left) × Appends old new gone

-- ---- what stands wherever a run ends

-- Of so many calls, the first k were made and are done at both ends, whatever came after; and
-- unless that is all of them, known bytes grew by a beginning of the lines of these k.
pub record HaveTold (calls : ℕ) (old new : Option (List ℕ)) : Type 0 where
  pub k : ℕ
  pub bound : k ≤ calls
  pub run : HaveRun k
  pub lines : (k ≡ calls) ⊎ ((left : List ℕ) × AppendsUpTo left (call_lines 0 k) old new)

-- The same of two ends, at which other things may have been done since.
pub record HaveMade {L : Type 0} (sent received : L → Option (List ℕ)) (calls : ℕ)
    (client : EndSeen L) (server : ServerEndSeen L) (logged : Logged Echo)
    (old new : Option (List ℕ)) : Type 0 where
  pub k : ℕ
  pub bound : k ≤ calls
  pub then_client : EndSeen L
  pub then_server : ServerEndSeen L
  pub then_logged : Logged Echo
  pub complete : AreComplete k then_client
  pub acts : List ClientAct
  pub asks : EndRuns sent received client acts then_client
  pub served : List ServerAct
  pub serves : ServerEndRuns echo_does echo_stops sent received server logged
      served then_server then_logged
  pub lines : (k ≡ calls) ⊎ ((left : List ℕ) × AppendsUpTo left (call_lines 0 k) old new)
