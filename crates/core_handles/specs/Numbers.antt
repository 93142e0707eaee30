-- The numbers of refusals and of causes. Besides these 4 is for what isn't a content, 5 for too
-- short a room, 7 where no reply is ready or no such request waits, 8 for more bytes than wait, 9
-- for a handle that has a core, 10 for more or fewer answers than a request may get, 11 for a pool
-- that is full, 12 for a connection that isn't lent, and 255 for a handle that has none.
use Rattle.std.specs.Prelude.{ℕ}
use Rattle.wire_peer.specs.declared.calls.CallRefusal.{CallRefusal}
use Rattle.wire_peer.specs.declared.calls.CallRefusal.TheVariants as calls
use Rattle.wire_peer.specs.declared.client_state.ClientCause.{ClientCause}
use Rattle.wire_peer.specs.declared.client_state.ClientCause.TheVariants as causes
use Rattle.wire_peer.specs.declared.client_state.ClientRefusal.{ClientRefusal}
use Rattle.wire_peer.specs.declared.client_state.ClientRefusal.TheVariants as setups
use Rattle.wire_peer.specs.declared.server_state.AnswerRefusal.{AnswerRefusal}
use Rattle.wire_peer.specs.declared.server_state.AnswerRefusal.TheVariants as answers
use Rattle.wire_peer.specs.declared.server_state.ServerCause.{ServerCause}
use Rattle.wire_peer.specs.declared.server_state.ServerCause.TheVariants as closings
use Rattle.wire_peer.specs.declared.server_state.ServerRefusal.{ServerRefusal}
use Rattle.wire_peer.specs.declared.server_state.ServerRefusal.TheVariants as makings
use Rattle.wire_pool.specs.declared.pool_answers.PoolRefusal.{PoolRefusal}
use Rattle.wire_pool.specs.declared.pool_answers.PoolRefusal.TheVariants as pools

-- why a call is refused
abbrev pub call_number : CallRefusal → ℕ
call_number calls.Closed = 1
call_number calls.WindowFull = 2
call_number calls.TooLarge = 3
call_number calls.NumbersSpent = 6
call_number calls.OutOfMemory = 254

-- why a client isn't made
abbrev pub setup_number : ClientRefusal → ℕ
setup_number setups.BadFirstId = 1
setup_number setups.BadWindow = 2
setup_number setups.BadLimit = 3

-- why a client was closed
abbrev pub cause_number : ClientCause → ℕ
cause_number (causes.Message f) = 1
cause_number (causes.UnknownReply id) = 2
cause_number causes.MoreNotAllowed = 3
cause_number causes.StreamBroken = 4
cause_number causes.Ended = 5
cause_number causes.EndedInside = 6

-- why a server isn't made
abbrev pub server_setup_number : ServerRefusal → ℕ
server_setup_number makings.BadWindow = 2
server_setup_number makings.BadLimit = 3
server_setup_number makings.OutOfMemory = 254

-- why a server closed
abbrev pub server_cause_number : ServerCause → ℕ
server_cause_number (closings.Message f) = 1
server_cause_number closings.Ended = 5
server_cause_number closings.EndedInside = 6
server_cause_number closings.ReplyTooLarge = 7
server_cause_number closings.NoMemory = 8
server_cause_number closings.HandlerFailed = 9

-- why a request isn't answered by a handler that doesn't fail
abbrev pub answer_number : AnswerRefusal → ℕ
answer_number answers.Closed = 1
answer_number answers.NoSuchRequest = 7
answer_number answers.OutOfMemory = 254
answer_number (answers.NowClosed closings.ReplyTooLarge) = 3
answer_number (answers.NowClosed cause) = 254

-- why a pool isn't made
abbrev pub pool_number : PoolRefusal → ℕ
pool_number pools.BadMax = 4
pool_number pools.OutOfMemory = 254
