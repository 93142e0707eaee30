-- What the server's side of one connection holds, and what its calls do to that.
use Rattle.std.specs.Prelude.{◌≡◌, ◌≢◌, ℕ, Bool, false, true, Option, None, Some, List, [], ◌∷◌}
use Rattle.std.specs.Prelude.{◌++◌, length, Result, Ok, Err}
use Rattle.wire_msg.specs.{canonical}
use Rattle.wire_peer.specs.{AnswerStep, Does, LogEntry, ServerView, Stops, TakesBytes, closed_for}
use Rattle.wire_peer.specs.{end_cause, new_server}
use Rattle.wire_peer.specs.declared.server_state.AnswerRefusal.{AnswerRefusal}
use Rattle.wire_peer.specs.declared.server_state.AnswerRefusal.TheVariants as refusals
use Rattle.wire_peer.specs.declared.server_state.ServerState.{ServerState}
use Rattle.wire_peer.specs.declared.server_state.ServerState.TheVariants as servers
use Rattle.wire_query.specs.{FaultQuery, Query, SpellsQuery, message_of}
use Rattle.wire_query.specs.declared.fault.QueryFault.{QueryFault}
use Rattle.wire_serve.specs.declared.cause.CloseCause.{CloseCause}
use Rattle.wire_serve.specs.declared.cause.CloseCause.TheVariants as causes
use Rattle.wire_serve.specs.declared.cause.ConnState.{ConnState}
use Rattle.wire_serve.specs.declared.cause.ConnState.TheVariants.{Closed, Open}
use Rattle.wire_serve.specs.Heads.{IsOtherHeader, IsPart, IsWholeQuery}
use Rattle.wire_serve.specs.Passing.{with_request}
use Rattle.wire_serve.specs.Respelling.{NoRespelling, Respells}
use Rattle.wire_msg.specs.declared.header.TheConstants.{MAX_MESSAGE_LEN}

-- What a caller sees of a server connection: its server, whose output the server connection takes
-- over at once; the bytes that were taken and not passed on yet, the first ones of a header or of a
-- query; whether what the server was fed last came as a query; the bytes that are to be sent; and
-- why the server connection closed, if its server didn't.
pub record ConnView : Type 0 where
  pub server : ServerView
  pub part : List ℕ
  pub queried : Bool
  pub output : List ℕ
  pub cause : Option CloseCause

-- the server's side of a connection before its first byte
abbrev pub new_conn : ℕ → ConnView
new_conn connection = record {
  server = new_server connection 1 MAX_MESSAGE_LEN;
  part = [];
  queried = false;
  output = [];
  cause = None;
}

-- whether a server connection is open, by its own cause and by its server's state
abbrev pub state_by : Option CloseCause → ServerState → ConnState
state_by (Some cause) state = Closed cause
state_by None (servers.Closed cause) = Closed (causes.Server cause)
state_by None servers.Open = Open

abbrev pub state_of : ConnView → ConnState
state_of f = state_by f.cause f.server.state

-- ---- bytes that come

-- A server connection takes bytes: it is open, no request waits, and all that was put out was sent.
pub record IsReady (f : ConnView) : Type 0 where
  pub own : f.cause ≡ None
  pub is_open : f.server.state ≡ servers.Open
  pub none_waits : f.server.waiting ≡ []
  pub window : f.server.window ≡ 1
  pub all_sent : f.output ≡ []

-- A server connection that is ready took the bytes. They go on with a message of which the server
-- holds some; or, behind those that were gathered before, more are to come; or they are a header
-- that isn't a query's, which the server took; or they spell a query, and the message of that waits
-- in the server; or they are no query, by this fault.
pub data ConnTakes (old : ConnView) (bytes : List ℕ) (new : ConnView) : Type 0 where
  goes_on : (s : ServerView) → old.server.held ≢ [] → old.part ≡ []
      → TakesBytes old.server bytes (length bytes) s
      → new ≡ record old { server = s; queried = false } → ConnTakes old bytes new
  gathers : old.server.held ≡ [] → IsPart (old.part ++ bytes)
      → new ≡ record old { part = old.part ++ bytes } → ConnTakes old bytes new
  begins : (s : ServerView) → old.server.held ≡ [] → IsOtherHeader (old.part ++ bytes)
      → TakesBytes old.server (old.part ++ bytes) 16 s
      → new ≡ record old { server = s; part = []; queried = false } → ConnTakes old bytes new
  asks : (q : Query) → old.server.held ≡ [] → IsWholeQuery (old.part ++ bytes)
      → SpellsQuery q (old.part ++ bytes)
      → new ≡ record old {
        server = with_request old.server (canonical (message_of q));
        part = [];
        queried = true;
      } → ConnTakes old bytes new
  refuses : (f : QueryFault) → old.server.held ≡ [] → IsWholeQuery (old.part ++ bytes)
      → FaultQuery (old.part ++ bytes) 65536 f
      → new ≡ record old { part = old.part ++ bytes; cause = Some (causes.Query f) }
      → ConnTakes old bytes new

-- ---- answers

-- the server connection with this server, whose output it took over
abbrev pub with_server : ConnView → ServerView → ConnView
with_server f s = record f { server = record s { output = [] }; output = s.output }

-- The OP_REPLY of what was put out is to be sent in its place; or there is none, for this cause, by
-- which the server connection is closed.
pub data RespellsReply (old new : ConnView) : Type 0 where
  respelled : (reply : List ℕ) → Respells old.output reply → new ≡ record old { output = reply }
      → RespellsReply old new
  refused : (cause : CloseCause) → NoRespelling old.output cause
      → new ≡ record old { output = []; cause = Some cause } → RespellsReply old new

-- with the server after an answer: where the request came as a query, an OP_REPLY takes the place
-- of what the server put out
abbrev pub PutsOut : Bool → Result ℕ AnswerRefusal → ConnView → ConnView → Type 0
PutsOut true (Ok n) old new = RespellsReply old new
PutsOut true (Err refusal) old new = new ≡ old
PutsOut false result old new = new ≡ old

-- the request that waited was answered, or the server closed at it, so that it waits no more
abbrev pub HasLeft : Result ℕ AnswerRefusal → Type 0
HasLeft (Ok n) = Unit {0}
HasLeft (Err (refusals.NowClosed cause)) = Unit {0}
HasLeft (Err refusal) = ⊥

-- A server connection answered the first request that waits, with this result, from a state of the
-- handler and a log into a state and a log: its server did.
pub record ConnAnswers {H : Type 0} (does : Does H) (stops : Stops H)
    (result : Result ℕ AnswerRefusal) (old : ConnView) (h : H) (log : List LogEntry)
    (new : ConnView) (h' : H) (log' : List LogEntry) : Type 0 where
  pub server : ServerView
  pub step : AnswerStep does stops 0 result old.server h log server h' log'
  pub out : PutsOut old.queried result (with_server old server) new

-- ---- the end

-- the server connection after it was told that no more bytes come, by its state and what it
-- gathered
abbrev pub ended_by : ConnState → List ℕ → ConnView → ConnView
ended_by (Closed cause) part f = f
ended_by Open [] f =
    record f {
      server = record f.server {
        state = closed_for (end_cause f.server.held) f.server.state;
      };
    }
ended_by Open (byte ∷ bytes) f = record f { cause = Some causes.EndedInside }

abbrev pub ended_conn : ConnView → ConnView
ended_conn f = ended_by (state_of f) f.part f
