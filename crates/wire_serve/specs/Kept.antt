-- How a server connection keeps what it holds.
use Rattle.std.specs.Prelude.{◌≡◌, ◌≢◌, ℕ, ◌<◌, ◌≤◌, ◌++◌, Bool, Option, None, List, [], drop}
use Rattle.std.specs.Prelude.{length}
use Rattle.wire_peer.specs.{ServerView}
use Rattle.wire_serve.specs.declared.cause.CloseCause.{CloseCause}
use Rattle.wire_serve.specs.ServerConnections.{ConnView}
use Rattle.wire_serve.specs.Heads.{IsPart}
use Rattle.wire_msg.specs.declared.header.TheConstants.{MAX_MESSAGE_LEN}

-- what a caller sees of these parts
abbrev pub view_of : ServerView → (part : List ℕ) → (queried : Bool) → (reply : List ℕ)
    → (gone : ℕ) → Option CloseCause → ConnView
view_of server part queried reply gone cause = record {
  server = record server { output = [] };
  part = part;
  queried = queried;
  output = drop gone reply ++ server.output;
  cause = cause;
}

-- The parts belong together: one request may wait; either the reply or the server's output is
-- empty; an open server connection has gathered fewer bytes than it wants; and it gathers none
-- while its server is inside a message.
pub record AreKept (server : ServerView) (part reply : List ℕ) (gone : ℕ)
    (cause : Option CloseCause) : Type 0 where
  pub window : server.window ≡ 1
  pub limit : server.limit ≡ MAX_MESSAGE_LEN
  pub within : gone ≤ length reply
  pub one : gone < length reply → server.output ≡ []
  pub begun : cause ≡ None → IsPart part
  pub apart : server.held ≢ [] → part ≡ []
