-- What a server makes of bytes that are there.
use Rattle.std.specs.Prelude.{◌≡◌, ℕ, List, [], ◌++◌, nat_lt, if◌then◌else◌}
use Rattle.wire_stream.specs.{StandsAt}
use Rattle.wire_stream.specs.declared.reader_state.ReaderState.{ReaderState}
use Rattle.wire_stream.specs.declared.reader_state.ReaderState.TheVariants.{Bad, Need, Ready}
use Rattle.wire_model.specs.{ServerTakes}
use Rattle.wire_peer.specs.{ServerView}
use Rattle.wire_peer.specs.Servers.{holding}
use Rattle.wire_peer.specs.declared.server_state.ServerCause.TheVariants.{Message}
use Rattle.wire_peer.specs.declared.server_state.ServerState.{ServerState}
use Rattle.wire_peer.specs.declared.server_state.ServerState.TheVariants.{Closed, Open}

-- where a server stands with the bytes that it was fed, by its state and by how many requests
-- waited before and wait now
abbrev pub standing : ServerState → (before now : ℕ) → ReaderState
standing (Closed (Message fault)) before now = Bad fault
standing (Closed cause) before now = Need
standing Open before now = if nat_lt before now then Ready else Need

-- The server took the first of the bytes that were there, and stands like this with what it held
-- and these.
pub record IsFedAs (found : ReaderState) (old : ServerView) (there : List ℕ) (new : ServerView)
    (left : List ℕ) : Type 0 where
  pub bytes : List ℕ
  pub takes : ServerTakes old bytes new
  pub parts : there ≡ bytes ++ left
  pub stands : StandsAt old.limit (old.held ++ bytes) found
  pub is : new ≡ holding old (old.held ++ bytes) found
  pub all : found ≡ Need → left ≡ []
