-- Why connections are over.
use Rattle.std.specs.Prelude.{Bool, true, false, Option, Some, None}
use Rattle.std.specs.declared.io.ErrorKind.{ErrorKind}
use Rattle.std.specs.declared.io.ErrorKind.TheVariants.{OutOfMemory}
use Rattle.sockets.specs.declared.turned.RelayFault.TheVariants as relays
use Rattle.wire_peer.specs.declared.client_state.ClientState.{ClientState}
use Rattle.wire_peer.specs.declared.client_state.ClientState.TheVariants as clients
use Rattle.wire_peer.specs.declared.client_state.ClientCause.TheVariants as replies
use Rattle.wire_peer.specs.declared.server_state.ServerCause.TheVariants as requests
use Rattle.wire_serve.specs.declared.cause.CloseCause.{CloseCause}
use Rattle.wire_serve.specs.declared.cause.CloseCause.TheVariants as closes
use Rattle.wire_serve.specs.declared.cause.ConnState.{ConnState}
use Rattle.wire_serve.specs.declared.cause.ConnState.TheVariants as conns
use Rattle.shared_proxy.specs.declared.leave.Leave.{Leave}
use Rattle.shared_proxy.specs.declared.leave.Leave.TheVariants as leaves

-- Why the connection of a client is over whose state is this: it ended between messages, or what
-- came is no request; none if it is open.
abbrev pub leave_of_state : ConnState → Option Leave
leave_of_state conns.Open = None
leave_of_state (conns.Closed (closes.Server requests.Ended)) = Some leaves.Ended
leave_of_state (conns.Closed cause) = Some (leaves.BadClient cause)

-- the same of a connection to the server
abbrev pub leave_of_client : ClientState → Option Leave
leave_of_client clients.Open = None
leave_of_client (clients.Closed replies.Ended) = Some leaves.Ended
leave_of_client (clients.Closed cause) = Some (leaves.BadServer cause)

-- memory ran out
abbrev pub is_out : ErrorKind → Bool
is_out OutOfMemory = true
is_out kind = false

abbrev pub ran_out : CloseCause → Bool
ran_out closes.NoMemory = true
ran_out (closes.Server requests.NoMemory) = true
ran_out cause = false

-- the connection is over since memory ran out
abbrev pub wants_memory : Leave → Bool
wants_memory (leaves.Failed (relays.Receiving fault)) = is_out fault.kind
wants_memory (leaves.Failed (relays.Sending fault)) = is_out fault.kind
wants_memory (leaves.BadClient cause) = ran_out cause
wants_memory leave = false

abbrev pub wants_memory_in : Option Leave → Bool
wants_memory_in None = false
wants_memory_in (Some leave) = wants_memory leave

-- It is told where nothing is shown: the proxy ended the connection, connecting to the server
-- failed, or a reply was lost.
abbrev pub is_told : Leave → Bool
is_told (leaves.HungUp id) = true
is_told (leaves.Cut direction count) = true
is_told (leaves.Unconnected failure) = true
is_told (leaves.Lost upstream) = true
is_told leave = false
