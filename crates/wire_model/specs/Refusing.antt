-- Why an event is refused: the first check that fails.
use Rattle.std.specs.Prelude.{◌≡◌, ◌≢◌, ℕ, Bool, true, false, ◌&&◌, ◌||◌, not, if◌then◌else◌}
use Rattle.std.specs.Prelude.{nat_le, Option, None, Some, is_none, is_some, List, length}
use Rattle.wire_pool.specs.{checked_out, loan_of}
use Rattle.wire_pool.specs.declared.loans.Loan.{Loan}
use Rattle.wire_pool.specs.declared.pool_answers.CheckOut.{CheckOut}
use Rattle.wire_pool.specs.declared.pool_answers.CheckOut.TheVariants as pools
use Rattle.wire_peer.specs.{IsCallRefusal, content_of}
use Rattle.wire_peer.specs.declared.calls.CallRefusal.{CallRefusal}
use Rattle.wire_peer.specs.declared.calls.CallRefusal.TheVariants as calls
use Rattle.wire_peer.specs.declared.server_state.AnswerRefusal.TheVariants as answers
use Rattle.wire_peer.specs.declared.server_state.ServerState.{ServerState}
use Rattle.wire_peer.specs.declared.server_state.ServerState.TheVariants as servers
use Rattle.wire_model.specs.declared.events.Event.{Event}
use Rattle.wire_model.specs.declared.events.Event.TheVariants.{Open, Call, Answer, RawOpen}
use Rattle.wire_model.specs.declared.needs.Needs.{Needs}
use Rattle.wire_model.specs.declared.refusals.WorldRefusal.{WorldRefusal}
use Rattle.wire_model.specs.declared.refusals.WorldRefusal.TheVariants as refusals
use Rattle.wire_model.specs.Conns.{Conn, World, conn_at}
use Rattle.wire_model.specs.Needing.{needs_of}

abbrev pub is_full : CheckOut → Bool
is_full pools.Full = true
is_full out = false

-- the pool has nothing to lend, or no number is left for a raw connection
abbrev pub is_full_for : {H : Type 0} → World H → Event → Bool
is_full_for w Open = is_full (checked_out w.pool).0
is_full_for w RawOpen = is_none w.pool.next
is_full_for w e = false

-- a closed server answers nothing, and an open one only a request that waits
abbrev pub answer_reason : ServerState → (waiting i : ℕ) → Option WorldRefusal
answer_reason (servers.Closed cause) waiting i = Some (refusals.Answer answers.Closed)
answer_reason servers.Open waiting i =
    if nat_le waiting i then Some (refusals.Answer answers.NoSuchRequest) else None

abbrev pub core_reason : Event → Conn → Option WorldRefusal
core_reason (Answer c i) k = answer_reason k.server.state (length k.server.waiting) i
core_reason e k = None

abbrev pub is_lent : ℕ → List Loan → Bool
is_lent c lent = is_some (loan_of c lent)

-- a way that the event needs is cut
abbrev pub is_cut_for : Needs → Conn → Bool
is_cut_for needs k = (needs.up && k.up_cut) || (needs.down && k.down_cut)

-- the first check that an event with these needs of its connection fails
abbrev pub reason_at : {H : Type 0} → World H → Event → Needs → Option Conn → Option WorldRefusal
reason_at w e needs None = Some refusals.NoConnection
reason_at w e needs (Some k) =
    if needs.client && k.raw then Some refusals.Raw
    else if needs.raw && not k.raw then Some refusals.NotRaw
    else if needs.loan && not (is_lent needs.connection w.pool.lent) then Some refusals.NotLent
    else if is_cut_for needs k then Some refusals.Cut
    else core_reason e k

abbrev pub reason_of : {H : Type 0} → World H → Event → Option Needs → Option WorldRefusal
reason_of w e None = if is_full_for w e then Some refusals.Full else None
reason_of w e (Some needs) = reason_at w e needs (conn_at w.conns needs.connection)

-- the first check that the event fails, apart from the client's own checks of a call
abbrev pub first_reason : {H : Type 0} → World H → Event → Option WorldRefusal
first_reason w e = reason_of w e (needs_of e)

-- the event is a call that its client refuses for this reason, which isn't that memory ran out
abbrev pub RefusesCall : {H : Type 0} → World H → Event → CallRefusal → Type 0
RefusesCall w (Call c kind payload) refusal =
    (k : Conn) × (conn_at w.conns c ≡ Some k) × (refusal ≢ calls.OutOfMemory)
    × IsCallRefusal k.client kind (content_of payload) refusal
RefusesCall w e refusal = ⊥
