-- What a caller sees of both ends of a proxy that shares connections, and what is done between
-- them.
use Rattle.std.specs.Prelude.{◌≡◌, ◌≢◌, ℕ, pos, Bool, true, false, List, [], ◌∷◌, Option, Some}
use Rattle.std.specs.Prelude.{None, if◌then◌else◌, Result, Ok, Err}
use Rattle.wire_msg.specs.{Content, Message, SpellsMsg}
use Rattle.wire_msg.specs.declared.payloads.Payload.{Payload}
use Rattle.wire_peer.specs.{ClientSeen, Does, IsCallRefusal, IsCalled, LogEntry, Stops, WaitsAt}
use Rattle.wire_peer.specs.{called, content_of, new_client, released}
use Rattle.wire_peer.specs.declared.call_table.ReadyReply.{ReadyReply}
use Rattle.wire_peer.specs.declared.calls.CallKind.{CallKind}
use Rattle.wire_peer.specs.declared.calls.CallKind.TheVariants.{Plain, Unacknowledged}
use Rattle.wire_peer.specs.declared.calls.CallNo.{CallNo}
use Rattle.wire_peer.specs.declared.echoing.Echo.{Echo}
use Rattle.wire_peer.specs.declared.handlers.HandlerStop.TheVariants as stops
use Rattle.wire_peer.specs.declared.server_state.AnswerRefusal.{AnswerRefusal}
use Rattle.wire_serve.specs.{ConnAnswers, ConnView, HasLeft, new_conn, state_of}
use Rattle.wire_serve.specs.declared.cause.ConnState.TheVariants as conn_states
use Rattle.wire_share.specs.declared.awaited.Awaited.{Awaited}
use Rattle.wire_share.specs.declared.refusals.GiveRefusal.{GiveRefusal}
use Rattle.wire_share.specs.declared.refusals.GiveRefusal.TheVariants as given
use Rattle.wire_share.specs.declared.refusals.PassRefusal.{PassRefusal}
use Rattle.wire_share.specs.declared.refusals.PassRefusal.TheVariants as passing
use Rattle.wire_share.specs.declared.relayed.Relayed.{Relayed}
use Rattle.wire_msg.specs.declared.header.TheConstants.{MAX_MESSAGE_LEN}

-- the connection of a client, and the call that its request was passed on as, if one was
pub record DownSeen : Type 0 where
  pub conn : ConnView
  pub awaited : Option Awaited

-- the number of a connection to the server, and the client at our end of it
pub record UpSeen : Type 0 where
  pub number : ℕ
  pub client : ClientSeen

abbrev pub new_downstream : ℕ → DownSeen
new_downstream connection = record { conn = new_conn connection; awaited = None }

abbrev pub new_upstream : ℕ → UpSeen
new_upstream number = record { number = number; client = new_client (pos 1) 1024 MAX_MESSAGE_LEN }

abbrev pub with_client : UpSeen → ClientSeen → UpSeen
with_client u client = record u { client = client }

-- this call of the upstream
abbrev pub of_call : UpSeen → CallNo → Awaited
of_call u call = record { upstream = u.number; call = call.number }

-- ---- a request that is passed on

-- a request to which no reply is wanted is an unacknowledged call, and any other a plain one
abbrev pub kind_by : (more_to_come : Bool) → CallKind
kind_by more_to_come = if more_to_come then Unacknowledged else Plain

-- This request waits at the downstream and wasn't passed on, and all that was put out before was
-- sent.
pub record Waits (d : DownSeen) (m : Message) : Type 0 where
  pub at : WaitsAt d.conn.server 0 m
  pub is_open : state_of d.conn ≡ conn_states.Open
  pub free : d.awaited ≡ None
  pub all_sent : d.conn.output ≡ []

-- what gives a request back as its answer, which is put out for no request that wants none
abbrev pub echoes : Does Echo
echoes h a answers h' = answers ≡ a.payload ∷ []

-- what gives this payload as the one answer
abbrev pub relays : Does Relayed
relays h a answers h' = answers ≡ content_of h.payload ∷ []

-- it stops only where memory runs out
abbrev pub wants_memory : {H : Type 0} → Stops H
wants_memory h a stop h' = stop ≡ stops.OutOfMemory

-- The request that waits at a server connection was answered by a handler in this state, and left
-- it.
pub record Leaves {H : Type 0} (does : Does H) (h : H) (old new : ConnView) : Type 0 where
  pub result : Result ℕ AnswerRefusal
  pub left : HasLeft result
  pub all_sent : old.output ≡ []
  pub after : H
  pub log : List LogEntry
  pub step : ConnAnswers does wants_memory result old h [] new after log

-- The request that waits got this answer.
pub record IsGiven (answer : Content) (old new : ConnView) : Type 0 where
  pub payload : Payload
  pub content : content_of payload ≡ answer
  pub leaves : Leaves relays (record { payload = payload }) old new

-- what a request became of that was made a call: it is awaited; or no reply is wanted, and it left
abbrev pub GoesOn : (more_to_come : Bool) → Awaited → DownSeen → DownSeen → Type 0
GoesOn false call old new = new ≡ record old { awaited = Some call }
GoesOn true call old new =
    ((h : Echo) × Leaves echoes h old.conn new.conn) × (new.awaited ≡ None)

-- This call of an upstream was made of the request, whose payload this is.
pub record IsPassed (m : Message) (payload : Payload) (call : CallNo) (old new : UpSeen)
    : Type 0 where
  pub content : content_of payload ≡ m.content
  pub made : IsCalled old.client (kind_by m.flags.more_to_come) (content_of payload) call
  pub is : new ≡ with_client old
      (called old.client (kind_by m.flags.more_to_come) (content_of payload) call)

-- The request that waits at a downstream was passed on to an upstream, with this result.
abbrev pub PassStep : Result (Unit {0}) PassRefusal → DownSeen → UpSeen → DownSeen → UpSeen
    → Type 0
PassStep (Ok _) d u d' u' =
    (m : Message) × (payload : Payload) × (call : CallNo) × Waits d m
    × IsPassed m payload call u u' × GoesOn m.flags.more_to_come (of_call u call) d d'
PassStep (Err passing.NothingWaits) d u d' u' =
    ((m : Message) → Waits d m → ⊥) × (d' ≡ d) × (u' ≡ u)
PassStep (Err (passing.Call refusal)) d u d' u' =
    ((m : Message) × Waits d m
    × IsCallRefusal u.client (kind_by m.flags.more_to_come) m.content refusal)
    × (d' ≡ d) × (u' ≡ u)
PassStep (Err passing.OutOfMemory) d u d' u' =
    (m : Message) × (payload : Payload) × (call : CallNo) × Waits d m
    × (m.flags.more_to_come ≡ true) × IsPassed m payload call u u'
    × (d' ≡ record d { awaited = Some (of_call u call) })

-- ---- a reply that is given back

-- The upstream's ready reply is the one that the downstream awaits, the only one of its call.
pub record Awaits (d : DownSeen) (u : UpSeen) (reply : ReadyReply) : Type 0 where
  pub ready : u.client.reply ≡ Some reply
  pub last : reply.last ≡ true
  pub awaited : d.awaited ≡ Some (record { upstream = u.number; call = reply.call })

-- The request of a downstream, which is open, was answered with the ready reply of an upstream,
-- with this result.
abbrev pub GiveStep : Result (Unit {0}) GiveRefusal → DownSeen → UpSeen → DownSeen → UpSeen
    → Type 0
GiveStep (Ok _) d u d' u' =
    (reply : ReadyReply) × (m answer : Message) × (state_of d.conn ≡ conn_states.Open)
    × Awaits d u reply × WaitsAt d.conn.server 0 m
    × SpellsMsg answer u.client.held × IsGiven answer.content d.conn d'.conn
    × (d'.awaited ≡ None) × (u' ≡ with_client u (released u.client))
GiveStep (Err given.NotAwaited) d u d' u' =
    ((reply : ReadyReply) → Awaits d u reply → ⊥) × (d' ≡ d) × (u' ≡ u)
GiveStep (Err given.Closed) d u d' u' =
    ((reply : ReadyReply) × Awaits d u reply) × (state_of d.conn ≢ conn_states.Open)
    × (d' ≡ d) × (u' ≡ u)
GiveStep (Err given.OutOfMemory) d u d' u' =
    ((reply : ReadyReply) × Awaits d u reply) × (state_of d.conn ≡ conn_states.Open)
    × (d' ≡ d) × (u' ≡ u)
