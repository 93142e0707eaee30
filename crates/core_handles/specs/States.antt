-- How a client stands, and what feeding it and sending from it does, as a caller gets it.
use Rattle.std.specs.Prelude.{◌≡◌, ◌≢◌, ◌≤◌, ◌<◌, ℕ, ℤ, pos, List, drop, length, false, None}
use Rattle.std.specs.Option.{is_some}
use Rattle.wire_msg.specs.declared.fault.MsgFault.{MsgFault}
use Rattle.wire_stream.specs.{CompletesHeader}
use Rattle.wire_peer.specs.declared.client_state.ClientCause.TheVariants as causes
use Rattle.wire_peer.specs.declared.client_state.ClientState.{ClientState}
use Rattle.wire_peer.specs.declared.client_state.ClientState.TheVariants.{Open, Closed}
use Rattle.wire_peer.specs.{ClientSeen, MayTake, Takes}
use Rattle.byte_views.specs.Fault.{document_fault, first_fault, message_fault}
use Rattle.core_handles.specs.declared.client_states.ClientShown.{ClientShown}
use Rattle.core_handles.specs.declared.client_states.CountTold.{CountTold}
use Rattle.core_handles.specs.declared.client_states.PieceFed.{PieceFed}
use Rattle.core_handles.specs.Numbers.{cause_number}

-- ---- how it stands

-- a client with no reply, closed for the cause of this number, which is 0 where it is open
abbrev pub cause_shown : ℕ → ℕ → ℤ → ClientShown
cause_shown refusal cause id = record {
  refusal = refusal;
  cause = cause;
  id = id;
  ready = false;
  fault = first_fault None;
  document_fault = first_fault None;
}

-- a client with no reply that is closed by this fault
abbrev pub fault_shown : MsgFault → ClientShown
fault_shown f = record (cause_shown 0 1 (pos 0)) {
  fault = message_fault f;
  document_fault = document_fault f.cause;
}

abbrev pub state_shown : ClientState → ClientShown
state_shown Open = cause_shown 0 0 (pos 0)
state_shown (Closed (causes.Message f)) = fault_shown f
state_shown (Closed (causes.UnknownReply id)) = cause_shown 0 2 id
state_shown (Closed cause) = cause_shown 0 (cause_number cause) (pos 0)

-- the state of a client, as a caller gets it: open or the cause that closed it, and whether a reply
-- is ready
abbrev pub client_shown : ClientSeen → ClientShown
client_shown k = record (state_shown k.state) { ready = is_some k.reply }

-- the state of a handle that has no client: number 255
abbrev pub no_state : ClientShown
no_state = cause_shown 255 0 (pos 0)

-- ---- counts

-- the count is told
abbrev pub count_told : ℕ → CountTold
count_told n = record { refusal = 0; count = n }

-- the count of calls of a handle that has no client: number 255
abbrev pub no_count : CountTold
no_count = record { refusal = 255; count = 0 }

-- ---- bytes that come

-- The client is fed the piece: it takes its first bytes if it may take some, and else none; or
-- there is no memory for the message that the piece announces, and nothing changes.
pub record IsFed (k : ClientSeen) (piece : List ℕ) (after : ClientSeen) (w : PieceFed)
    : Type 0 where
  pub takes : MayTake k → w.refusal ≡ 0 → Takes k piece w.taken after
  pub none : (MayTake k → ⊥) → (w.refusal ≡ 0) × (w.taken ≡ 0) × (after ≡ k)
  pub refused : w.refusal ≢ 0
      → (w.refusal ≡ 254) × (w.taken ≡ 0) × (after ≡ k)
      × CompletesHeader k.requests.limit k.held piece
  pub state : w.state ≡ client_shown after

-- the result of feeding a handle that has no client: number 255, and no byte taken
abbrev pub no_feed : PieceFed
no_feed = record { refusal = 255; taken = 0; state = no_state }

-- ---- bytes that were sent

-- The first bytes of the output are taken off; or fewer wait, and nothing changes.
pub data IsSent (k : ClientSeen) (n : ℕ) (after : ClientSeen) : ℕ → Type 0 where
  is_sent : {w : ℕ} → n ≤ length k.requests.output
      → after ≡ record k { requests = record (k.requests) { output = drop n k.requests.output } }
      → w ≡ 0 → IsSent k n after w
  too_many : {w : ℕ} → length k.requests.output < n → after ≡ k → w ≡ 8 → IsSent k n after w
