-- What a world shows of the machine, and what holds of every run.
use Rattle.std.specs.Prelude.{◌≡◌, ℕ, ◌⊎◌, Bool, false, if◌then◌else◌, Option, None, Some, List, []}
use Rattle.std.specs.Prelude.{◌∷◌, slice_get}
use Rattle.std.specs.List.{IsDistinct}
use Rattle.std.specs.Ordering.{int_eq}
use Rattle.wire_peer.specs.{Does, Stops, ids}
use Rattle.wire_peer.specs.declared.client_state.ClientState.TheVariants as clients
use Rattle.wire_peer.specs.declared.server_state.ServerCause.TheVariants.{ReplyTooLarge, NoMemory}
use Rattle.wire_peer.specs.declared.server_state.ServerCause.TheVariants.{HandlerFailed}
use Rattle.wire_peer.specs.declared.server_state.ServerState.{ServerState}
use Rattle.wire_peer.specs.declared.server_state.ServerState.TheVariants.{Open, Closed}
use Rattle.wire_model.specs.Conns.{Conn, Record, World, conn_at}
use Rattle.wire_model.specs.Facts.{DoneIsWhole, EntryHasOneCall, LogIsRun, MuteIsNeverDone}
use Rattle.wire_model.specs.Facts.{PendingHoldsBeginning, SilentHoldsNone}
use Rattle.wire_model.specs.Machines.{Call, Done, Machine, Steps, empty, is_ours}

-- what the world shows of a call
abbrev pub shown : Call → Record
shown x = record { connection = x.connection; asked = x.asked; parts = x.parts; state = x.state }

-- what the world shows of the calls; of strangers it shows nothing
abbrev pub shown_calls : List Call → List Record
shown_calls [] = []
shown_calls (x ∷ xs) = if is_ours x.state then shown x ∷ shown_calls xs else shown_calls xs

-- the world's calls, its log and its handler are those of the machine
pub record Shows {H : Type 0} (w : World H) (m : Machine H) : Type 0 where
  pub calls : w.calls ≡ shown_calls m.calls
  pub log : w.log ≡ m.log
  pub handler : w.handler ≡ m.handler

-- which connections of a world are raw
abbrev pub is_raw : Option Conn → Bool
is_raw None = false
is_raw (Some k) = k.raw

abbrev pub raws : {H : Type 0} → World H → ℕ → Bool
raws w c = is_raw (conn_at w.conns c)

-- the server was closed by an answer: it was too large, memory ran out, or the handler failed
abbrev pub IsStopped : ServerState → Type 0
IsStopped s = (s ≡ Closed ReplyTooLarge) ⊎ ((s ≡ Closed NoMemory) ⊎ (s ≡ Closed HandlerFailed))

abbrev pub IsOpenOrStopped : ServerState → Type 0
IsOpenOrStopped s = (s ≡ Open) ⊎ IsStopped s

-- on a connection that isn't raw or cut the client is open, and the server is open or was closed by
-- an answer
abbrev pub UncutIsOpen : {H : Type 0} → World H → Type 0
UncutIsOpen w =
    (c : ℕ) (k : Conn) → conn_at w.conns c ≡ Some k → k.raw ≡ false → k.up_cut ≡ false
    → k.down_cut ≡ false
    → (k.client.state ≡ clients.Open) × IsOpenOrStopped k.server.state

-- Neither way of the connection was cut, no answer closed its server, nothing is on the ways, and
-- nothing waits.
pub record IsQuiet {H : Type 0} (w : World H) (c : ℕ) : Type 0 where
  pub k : Conn
  pub at : conn_at w.conns c ≡ Some k
  pub up_uncut : k.up_cut ≡ false
  pub down_uncut : k.down_cut ≡ false
  pub not_stopped : IsStopped k.server.state → ⊥
  pub up_empty : k.client.requests.output ≡ []
  pub down_empty : k.server.output ≡ []
  pub none_waits : k.server.waiting ≡ []

-- on a quiet connection every acknowledged call is done
abbrev pub QuietIsDone : {H : Type 0} → World H → Type 0
QuietIsDone w =
    (c : ℕ) → IsQuiet w c → (i : ℕ) (x : Record) → slice_get w.calls i ≡ Some x → x.connection ≡ c
    → x.asked.more_to_come ≡ false → x.state ≡ Done

-- no two outstanding calls of one client have the same id
abbrev pub IdsApart : {H : Type 0} → World H → Type 0
IdsApart w =
    (c : ℕ) (k : Conn) → conn_at w.conns c ≡ Some k
    → IsDistinct int_eq (ids k.client.requests.outstanding)

-- The world shows a state that the machine reaches by steps from the empty one. In it each call
-- that is done holds exactly the answers of its own entry, no two calls share an entry, and an
-- unacknowledged call holds no answers. On a quiet connection every acknowledged call is done.
pub record Headline {H : Type 0} (does : Does H) (stops : Stops H) (first : H) (w : World H) :
    Type 0 where
  pub m : Machine H
  pub reached : Steps H does stops (empty first (raws w)) m
  pub shows : Shows w m
  pub run : LogIsRun does stops first m
  pub whole : DoneIsWhole m
  pub one_call : EntryHasOneCall m
  pub silent : SilentHoldsNone m
  pub beginning : PendingHoldsBeginning m
  pub mute : MuteIsNeverDone m
  pub quiet : QuietIsDone w
  pub uncut : UncutIsOpen w
