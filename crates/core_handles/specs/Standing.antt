-- How a server stands, and what feeding it and sending from it does, as a caller gets it.
use Rattle.std.specs.Prelude.{◌≡◌, ◌≢◌, ◌≤◌, ◌<◌, ◌⊎◌, ℕ, List, drop, length, nat_le, false, None}
use Rattle.wire_msg.specs.declared.fault.MsgFault.{MsgFault}
use Rattle.wire_stream.specs.{CompletesHeader}
use Rattle.wire_peer.specs.declared.server_state.ServerCause.TheVariants as causes
use Rattle.wire_peer.specs.declared.server_state.ServerState.{ServerState}
use Rattle.wire_peer.specs.declared.server_state.ServerState.TheVariants.{Open, Closed}
use Rattle.wire_peer.specs.{ServerView, TakesBytes}
use Rattle.byte_views.specs.Fault.{document_fault, first_fault, message_fault}
use Rattle.core_handles.specs.declared.server_states.ServerFed.{ServerFed}
use Rattle.core_handles.specs.declared.server_states.ServerShown.{ServerShown}
use Rattle.core_handles.specs.Numbers.{server_cause_number}

-- ---- how it stands

-- a server with no request, closed for the cause of this number, which is 0 where it is open
abbrev pub cause_shown : ℕ → ℕ → ServerShown
cause_shown refusal cause = record {
  refusal = refusal;
  cause = cause;
  full = false;
  waiting = 0;
  fault = first_fault None;
  document_fault = first_fault None;
}

-- a server with no request that is closed by this fault
abbrev pub fault_shown : MsgFault → ServerShown
fault_shown f = record (cause_shown 0 1) {
  fault = message_fault f;
  document_fault = document_fault f.cause;
}

abbrev pub state_shown : ServerState → ServerShown
state_shown Open = cause_shown 0 0
state_shown (Closed (causes.Message f)) = fault_shown f
state_shown (Closed cause) = cause_shown 0 (server_cause_number cause)

-- the state of a server, as a caller gets it: open or the cause that closed it, how many requests
-- wait, and whether no more may wait
abbrev pub server_shown : ServerView → ServerShown
server_shown s =
    record (state_shown s.state) {
      full = nat_le s.window (length s.waiting);
      waiting = length s.waiting;
    }

-- the state of a handle that has no server: number 255
abbrev pub no_server : ServerShown
no_server = cause_shown 255 0

-- ---- bytes that come

-- the server takes no bytes: it is closed, or as many requests wait as may
abbrev pub TakesNone : ServerView → Type 0
TakesNone s = (s.state ≢ Open) ⊎ (s.window ≤ length s.waiting)

-- The server is fed the piece: it takes its first bytes if it may take some, and else none; or
-- there is no memory for the message that the piece announces, and nothing changes.
pub record IsServerFed (s : ServerView) (piece : List ℕ) (after : ServerView) (w : ServerFed)
    : Type 0 where
  pub takes : s.state ≡ Open → length s.waiting < s.window → w.refusal ≡ 0
      → TakesBytes s piece w.taken after
  pub none : TakesNone s → (w.refusal ≡ 0) × (w.taken ≡ 0) × (after ≡ s)
  pub refused : w.refusal ≢ 0
      → (w.refusal ≡ 254) × (w.taken ≡ 0) × (after ≡ s) × CompletesHeader s.limit s.held piece
  pub state : w.state ≡ server_shown after

-- the result of feeding a handle that has no server: number 255, and no byte taken
abbrev pub not_fed : ServerFed
not_fed = record { refusal = 255; taken = 0; state = no_server }

-- ---- bytes that were sent

-- The first bytes of the output are taken off; or fewer wait, and nothing changes.
pub data IsServerSent (s : ServerView) (n : ℕ) (after : ServerView) : ℕ → Type 0 where
  is_sent : {w : ℕ} → n ≤ length s.output → after ≡ record s { output = drop n s.output } → w ≡ 0
      → IsServerSent s n after w
  too_many : {w : ℕ} → length s.output < n → after ≡ s → w ≡ 8 → IsServerSent s n after w
