-- How a server keeps what it holds.
use Rattle.std.specs.Prelude.{◌≡◌, ℕ, ◌+◌, ◌≤◌, All, List, [], ◌∷◌, ◌++◌, remove}
use Rattle.std.specs.VecDeque.{deque_capacity, deque_len}
use Rattle.std.specs.declared.alloc.Global.{Global}
use Rattle.std.specs.declared.collections.VecDeque.{VecDeque}
use Rattle.wire_msg.specs.{IsMessage, IsOpen}
use Rattle.wire_stream.specs.{Reading}
use Rattle.wire_stream.specs.declared.reader_state.ReaderState.{ReaderState}
use Rattle.wire_stream.specs.declared.reader_state.ReaderState.TheVariants.{Need, Ready, Bad}
use Rattle.wire_peer.specs.declared.server_state.ServerCause.TheVariants.{Message}
use Rattle.wire_peer.specs.declared.server_state.ServerState.{ServerState}
use Rattle.wire_peer.specs.declared.server_state.ServerState.TheVariants.{Open, Closed}
use Rattle.wire_peer.specs.Chains.{ReplyState}
use Rattle.wire_peer.specs.Limits.{IsWindow}
use Rattle.wire_peer.specs.Servers.{ServerView}
use Rattle.wire_msg.specs.declared.header.TheConstants.{MAX_MESSAGE_LEN}

-- what a caller sees of these parts
abbrev pub view_of : (connection window limit : ℕ) → Reading → VecDeque (List ℕ) Global → ReplyState
    → ServerState → ServerView
view_of connection window limit reader waiting replies state = record {
  connection = connection;
  window = window;
  limit = limit;
  held = reader.held;
  waiting = waiting.items;
  output = replies.output;
  next_id = replies.next;
  state = state;
}

-- The parts belong together: there is room for just as many messages as may wait, and an open
-- server is between messages or inside one.
pub record AreParts (window limit : ℕ) (reader : Reading) (waiting : VecDeque (List ℕ) Global)
    (replies : ReplyState) (state : ServerState) : Type 0 where
  pub window_is : IsWindow window
  pub limit_is : limit ≤ MAX_MESSAGE_LEN
  pub read_limit : reader.limit ≡ limit
  pub reply_limit : replies.limit ≡ limit
  pub between : state ≡ Open → IsOpen limit reader.held
  pub room : deque_capacity waiting ≡ window
  pub within : deque_len waiting ≤ window
  pub each : All (IsMessage limit) waiting.items

-- the message that was held waits behind the others, and none is held
pub record IsAccepted (reader : Reading) (waiting : VecDeque (List ℕ) Global) (reader' : Reading)
    (waiting' : VecDeque (List ℕ) Global) : Type 0 where
  pub emptied : reader' ≡ record { limit = reader.limit; held = [] }
  pub last : waiting'.items ≡ waiting.items ++ reader.held ∷ []
  pub count : deque_len waiting' ≡ deque_len waiting + 1
  pub room : deque_capacity waiting' ≡ deque_capacity waiting

-- what was found leaves the reader and the waiting list so, and the server in this state
abbrev pub IsSettled : ReaderState → Reading → VecDeque (List ℕ) Global → Reading
    → VecDeque (List ℕ) Global → ServerState → Type 0
IsSettled Need reader waiting reader' waiting' state =
    (reader' ≡ reader) × (waiting' ≡ waiting) × (state ≡ Open)
IsSettled Ready reader waiting reader' waiting' state =
    IsAccepted reader waiting reader' waiting' × (state ≡ Open)
IsSettled (Bad fault) reader waiting reader' waiting' state =
    (reader' ≡ reader) × (waiting' ≡ waiting) × (state ≡ Closed (Message fault))

-- the k-th message has left the list
pub record IsTakenOut (waiting : VecDeque (List ℕ) Global) (k : ℕ)
    (waiting' : VecDeque (List ℕ) Global) : Type 0 where
  pub others : waiting'.items ≡ remove waiting.items k
  pub count : deque_len waiting' + 1 ≡ deque_len waiting
  pub room : deque_capacity waiting' ≡ deque_capacity waiting
