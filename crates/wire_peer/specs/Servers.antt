-- What a server of one connection holds, and what its calls do to that.
use Rattle.std.specs.Prelude.{◌≡◌, ℕ, ◌<◌, ◌⊎◌, List, [], ◌∷◌, ◌++◌, Result, Ok, Err}
use Rattle.wire_stream.specs.{Feeds}
use Rattle.wire_stream.specs.declared.reader_state.ReaderState.{ReaderState}
use Rattle.wire_stream.specs.declared.reader_state.ReaderState.TheVariants.{Need, Ready, Bad}
use Rattle.wire_peer.specs.Limits.{IsLimit, IsWindow}
use Rattle.wire_peer.specs.declared.server_state.ServerCause.{ServerCause}
use Rattle.wire_peer.specs.declared.server_state.ServerCause.TheVariants.{Message, Ended}
use Rattle.wire_peer.specs.declared.server_state.ServerCause.TheVariants.{EndedInside}
use Rattle.wire_peer.specs.declared.server_state.ServerState.{ServerState}
use Rattle.wire_peer.specs.declared.server_state.ServerState.TheVariants.{Open, Closed}
use Rattle.wire_peer.specs.declared.server_state.ServerRefusal.{ServerRefusal}
use Rattle.wire_peer.specs.declared.server_state.ServerRefusal.TheVariants.{BadWindow, BadLimit}
use Rattle.wire_peer.specs.declared.server_state.ServerRefusal.TheVariants.{OutOfMemory}
use Rattle.wire_msg.specs.declared.header.TheConstants.{MAX_MESSAGE_LEN}

-- What a caller sees of a server: the number of its connection, how many requests may wait and how
-- many bytes a message may have; the bytes of a message that isn't whole yet; the bytes of each
-- request that waits, in order; the bytes that are to be sent; the id of the next reply; and
-- whether it is closed.
pub record ServerView : Type 0 where
  pub connection : ℕ
  pub window : ℕ
  pub limit : ℕ
  pub held : List ℕ
  pub waiting : List (List ℕ)
  pub output : List ℕ
  pub next_id : ℕ
  pub state : ServerState

-- ---- a new server

-- a server before its first byte
abbrev pub new_server : (connection window limit : ℕ) → ServerView
new_server connection window limit = record {
  connection = connection;
  window = window;
  limit = limit;
  held = [];
  waiting = [];
  output = [];
  next_id = 1;
  state = Open;
}

-- what became of making a server
abbrev pub IsNewServer : (connection window limit : ℕ) → Result ServerView ServerRefusal → Type 0
IsNewServer connection window limit (Ok s) =
    IsWindow window × IsLimit limit × (s ≡ new_server connection window limit)
IsNewServer connection window limit (Err BadWindow) = (window < 1) ⊎ (1024 < window)
IsNewServer connection window limit (Err BadLimit) =
    IsWindow window × ((limit < 26) ⊎ (MAX_MESSAGE_LEN < limit))
IsNewServer connection window limit (Err OutOfMemory) = IsWindow window × IsLimit limit

-- ---- bytes that come

-- The server with these bytes of a message held, by what they are: more of it may come, a whole one
-- waits behind the others, and a fault closes the server.
abbrev pub holding : ServerView → List ℕ → ReaderState → ServerView
holding s bytes Need = record s { held = bytes }
holding s bytes Ready = record s { held = []; waiting = s.waiting ++ bytes ∷ [] }
holding s bytes (Bad fault) = record s { held = bytes; state = Closed (Message fault) }

-- An open server with room in its waiting list took the first n bytes of the piece: up to the end
-- of one message or to where a fault shows, and else all of them.
pub record TakesBytes (s : ServerView) (piece : List ℕ) (n : ℕ) (after : ServerView) : Type 0 where
  pub bytes : List ℕ
  pub found : ReaderState
  pub fed : Feeds s.limit s.held piece bytes (record { taken = n; state = found })
  pub is : after ≡ holding s bytes found

-- ---- the end of the bytes

-- the cause of a close by the end of the bytes, where these are held
abbrev pub end_cause : List ℕ → ServerCause
end_cause [] = Ended
end_cause (byte ∷ bytes) = EndedInside

-- the state after a close for this cause, which comes too late where the server is closed
abbrev pub closed_for : ServerCause → ServerState → ServerState
closed_for cause Open = Closed cause
closed_for cause (Closed first) = Closed first
