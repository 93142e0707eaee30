-- The client's end of a connection, and its steps.
use Rattle.std.specs.Prelude.{◌≡◌, ◌≢◌, ℕ, ◌≤◌, ℤ, List, [], ◌∷◌, ◌++◌, length, take, Option, Some}
use Rattle.std.specs.Prelude.{None, Result, Ok, Err}
use Rattle.wire_msg.specs.{Content, IsBad, IsOpen, Message, SpellsMsg}
use Rattle.wire_msg.specs.declared.fault.MsgFault.{MsgFault}
use Rattle.wire_stream.specs.{HoldsNoMore}
use Rattle.wire_peer.specs.declared.call_table.Outstanding.{Outstanding}
use Rattle.wire_peer.specs.declared.call_table.ReadyReply.{ReadyReply}
use Rattle.wire_peer.specs.declared.calls.CallKind.{CallKind}
use Rattle.wire_peer.specs.declared.calls.CallNo.{CallNo}
use Rattle.wire_peer.specs.declared.calls.CallRefusal.{CallRefusal}
use Rattle.wire_peer.specs.declared.calls.CallRefusal.TheVariants as refusals
use Rattle.wire_peer.specs.declared.client_state.ClientCause.{ClientCause}
use Rattle.wire_peer.specs.declared.client_state.ClientCause.TheVariants as causes
use Rattle.wire_peer.specs.declared.client_state.ClientState.{ClientState}
use Rattle.wire_peer.specs.declared.client_state.ClientState.TheVariants.{Open, Closed}
use Rattle.wire_peer.specs.CallTables.{after_reply, allowed, owner, reply_to}
use Rattle.wire_peer.specs.Requesting.{RequestState, after_call, IsAccepted, IsRefused}

-- What a caller sees of a client: its requests, the bytes of the current message so far, the reply
-- that is ready, and whether it is open.
pub record ClientSeen : Type 0 where
  pub requests : RequestState
  pub held : List ℕ
  pub reply : Option ReadyReply
  pub state : ClientState

-- a client that has done nothing
abbrev pub new_client : ℤ → ℕ → ℕ → ClientSeen
new_client first_id window limit = record {
  requests =
      record {
        limit = limit;
        window = window;
        output = [];
        outstanding = [];
        next_id = first_id;
        next_number = Some 0;
      };
  held = [];
  reply = None;
  state = Open;
}

-- ---- calls

-- the call is accepted: the client is open, and no other check fails
abbrev pub IsCalled : ClientSeen → CallKind → Content → CallNo → Type 0
IsCalled k kind c call = (k.state ≡ Open) × IsAccepted k.requests kind c call

-- the client after a call that is accepted
abbrev pub called : ClientSeen → CallKind → Content → CallNo → ClientSeen
called k kind c call = record k { requests = after_call k.requests kind c call }

-- the first check that the call fails
abbrev pub IsCallRefusal : ClientSeen → CallKind → Content → CallRefusal → Type 0
IsCallRefusal k kind c refusals.Closed = k.state ≢ Open
IsCallRefusal k kind c e = (k.state ≡ Open) × IsRefused k.requests kind c e

-- ---- bytes and messages

-- the client takes bytes: it is open, and no reply is ready
abbrev pub MayTake : ClientSeen → Type 0
MayTake k = (k.reply ≡ None) × (k.state ≡ Open)

-- the client holds these bytes
abbrev pub holding : ClientSeen → List ℕ → ClientSeen
holding k bytes = record k { held = bytes }

-- the client is closed, with this cause where it was open
abbrev pub state_after : ClientState → ClientCause → ClientState
state_after Open cause = Closed cause
state_after (Closed first) cause = Closed first

abbrev pub closed : ClientSeen → ClientCause → ClientSeen
closed k cause = record k { state = state_after k.state cause }

-- the message belongs to this call, or to none
abbrev pub received : ClientSeen → Message → Result (ℤ × Outstanding) ClientCause → ClientSeen
received k m (Ok o) = record k {
  requests =
      record (k.requests)
      { outstanding = after_reply k.requests.outstanding o m.id m.flags.more_to_come };
  reply = Some (reply_to o m.flags.more_to_come);
}
received k m (Err cause) = closed k cause

-- the message is the next reply to the call that it belongs to
abbrev pub after_message : ClientSeen → Message → ClientSeen
after_message k m =
    received k m (allowed m.flags.more_to_come (owner k.requests.outstanding m.response_to))

-- what the bytes that the client holds make of it: they are open, a message, or bad
pub data Settles (k new : ClientSeen) : Type 0 where
  is_open : IsOpen k.requests.limit k.held → new ≡ k → Settles k new
  is_message : (m : Message) → SpellsMsg m k.held → length k.held ≤ k.requests.limit
      → new ≡ after_message k m → Settles k new
  is_bad : (f : MsgFault) → IsBad k.requests.limit k.held f → new ≡ closed k (causes.Message f)
      → Settles k new

-- So many first bytes of the piece went to the held ones: all of them, but none past the end of the
-- current message or the 16th byte of a bad header.
pub record Takes (old : ClientSeen) (piece : List ℕ) (taken : ℕ) (new : ClientSeen) : Type 0 where
  pub within : taken ≤ length piece
  pub no_more : HoldsNoMore old.requests.limit (old.held ++ take taken piece)
  pub all : IsOpen old.requests.limit (old.held ++ take taken piece) → taken ≡ length piece
  pub settles : Settles (holding old (old.held ++ take taken piece)) new

-- ---- the rest

-- the reply that is ready is let go of, and its message with it
abbrev pub after_release : Option ReadyReply → ClientSeen → ClientSeen
after_release None k = k
after_release (Some reply) k = record k { held = []; reply = None }

-- the client without the reply that was ready
abbrev pub released : ClientSeen → ClientSeen
released k = after_release k.reply k

-- no more bytes come: inside a message, where some are held that aren't one
abbrev pub end_cause : Option ReadyReply → List ℕ → ClientCause
end_cause None (b ∷ held) = causes.EndedInside
end_cause None [] = causes.Ended
end_cause (Some reply) held = causes.Ended

-- the client where no more bytes come
abbrev pub ended : ClientSeen → ClientSeen
ended k = closed k (end_cause k.reply k.held)
