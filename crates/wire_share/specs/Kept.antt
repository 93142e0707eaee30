-- What a downstream keeps to.
use Rattle.std.specs.Prelude.{◌≡◌, ◌≢◌, [], Option, None}
use Rattle.wire_msg.specs.{Message}
use Rattle.wire_peer.specs.{WaitsAt}
use Rattle.wire_serve.specs.{ConnView}
use Rattle.wire_share.specs.declared.awaited.Awaited.{Awaited}

-- While a reply is awaited its request waits, and nothing is to be sent.
pub record AreKept (conn : ConnView) (awaited : Option Awaited) : Type 0 where
  pub waits : awaited ≢ None → (m : Message) × WaitsAt conn.server 0 m
  pub all_sent : awaited ≢ None → conn.output ≡ []
