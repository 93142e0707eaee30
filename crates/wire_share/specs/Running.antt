-- What was done with a core, and what is to be sent of it.
use Rattle.std.specs.Prelude.{ℕ, ◌==◌, Bool, not, List, [], length, Option, Some, None}
use Rattle.wire_share.specs.Cores.{CoreAct, CoreRun, CoreSeen, core_seen}
use Rattle.wire_share.specs.declared.client.Client.{Client}
use Rattle.wire_share.specs.declared.server.Server.{Server}
use Rattle.wire_share.specs.declared.shared_core.Core.{Core}

-- what is seen of a core
abbrev pub seen : Core → CoreSeen
seen core = core_seen core.state

-- Some acts led from the one core to the other, and nothing else was done with it.
pub record IsRun (old new : Core) : Type 0 where
  pub acts : List CoreAct
  pub run : CoreRun (seen old) acts (seen new)

-- the bytes that are to be sent to a client: none if it isn't there
abbrev pub output_to : Option Client → List ℕ
output_to None = []
output_to (Some x) = x.downstream.conn.output

-- the bytes that are to be sent over a connection to the server: none if it isn't there
abbrev pub output_over : Option Server → List ℕ
output_over None = []
output_over (Some y) = y.upstream.client.requests.output

-- bytes are to be sent over it
abbrev pub has_output : Server → Bool
has_output y = not (length y.upstream.client.requests.output == 0)
