-- What a client's reader holds.
use Rattle.std.specs.Prelude.{ℕ, List, Option, Some, None}
use Rattle.wire_msg.specs.{IsMessage, IsOpen}
use Rattle.wire_peer.specs.declared.call_table.ReadyReply.{ReadyReply}
use Rattle.wire_peer.specs.declared.client_state.ClientState.{ClientState}
use Rattle.wire_peer.specs.declared.client_state.ClientState.TheVariants.{Open, Closed}

-- a message where a reply is ready, and open bytes where more are taken
abbrev pub HoldsFor : ℕ → List ℕ → Option ReadyReply → ClientState → Type 0
HoldsFor limit held (Some reply) state = IsMessage limit held
HoldsFor limit held None Open = IsOpen limit held
HoldsFor limit held None (Closed cause) = Unit {0}
