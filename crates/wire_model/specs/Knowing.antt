-- What holds of calls whose owners keep their records.
use Rattle.std.specs.Prelude.{◌≡◌, ℕ, ◌≤◌, ◌⊎◌, true, false, None, Some, List, [], slice_get}
use Rattle.wire_peer.specs.{Does, LogEntry, ServerView, Stops}
use Rattle.wire_peer.specs.declared.client_state.ClientState.TheVariants as clients
use Rattle.wire_peer.specs.declared.server_state.ServerState.TheVariants as servers
use Rattle.wire_model.specs.Machines.{Answered, Call, CallIs, Done, Lost, Machine, Mute, Never}
use Rattle.wire_model.specs.Machines.{Owes, Pending, Place, Sent, Steps, empty}
use Rattle.wire_model.specs.Conns.{Record}
use Rattle.wire_model.specs.Owners.{ClientEnd, ServerEnds, bytes_sent, bytes_sent_down, bytes_taken}
use Rattle.wire_model.specs.Owners.{bytes_taken_up, server_at}
use Rattle.wire_model.specs.Deeds.{Deed, acts_at, server_acts_at}

-- ---- calls, by whatever they are numbered

-- the place names this entry
abbrev pub Names : Place → ℕ → Type 0
Names p e = (p ≡ Answered e) ⊎ (p ≡ Mute e)

-- the log has this entry, of the connection and the payload of the call with this record
pub record IsEntry (log : List LogEntry) (e : ℕ) (x : Record) : Type 0 where
  pub entry : LogEntry
  pub at : slice_get log e ≡ Some entry
  pub connection : entry.connection ≡ x.connection
  pub payload : entry.payload ≡ x.asked.payload

-- The record holds a beginning of the answers of the entry that the place names, but not all of
-- them; or nothing, if the place names no entry, or one without answers.
abbrev pub HoldsBeginning : List LogEntry → Place → Record → Type 0
HoldsBeginning log p x =
    ((e : ℕ) × (is : IsEntry log e x) × Names p e × Owes is.entry.answers x.parts)
    ⊎ ((x.parts ≡ []) × ((e : ℕ) → Names p e → (is : IsEntry log e x) × (is.entry.answers ≡ None)))

-- The headline holds of calls with these records. Each of them is a call of the machine, whose
-- place tells where its request is. A call that is done holds exactly the answers of its own entry.
-- No two calls share an entry, and each entry is that of a call. An unacknowledged call is sent,
-- and holds no answers. A pending or lost call holds a beginning of its entry's answers but not all
-- of them, or nothing. A call whose entry gives no reply, or that never has an entry, holds nothing
-- and is never done.
pub record Owned {H : Type 0} {I : Type 0} (m : Machine H) (IsCall : I → Record → Type 0)
    : Type 0 where
  pub number : I → ℕ
  pub place : I → Place
  pub is : (i : I) (x : Record) → IsCall i x → (y : Call) × CallIs m.calls (number i) y
      × (y.connection ≡ x.connection) × (y.asked ≡ x.asked) × (y.place ≡ place i)
  pub once : (i j : I) (x y : Record) → IsCall i x → IsCall j y → number i ≡ number j → i ≡ j
  pub entry : (i : I) (x : Record) (e : ℕ) → IsCall i x → Names (place i) e → IsEntry m.log e x
  pub whole : (i : I) (x : Record) → IsCall i x → x.state ≡ Done
      → (e : ℕ) × (is : IsEntry m.log e x)
      × (place i ≡ Answered e) × (is.entry.answers ≡ Some x.parts)
  pub one_call : (i j : I) (x y : Record) (e : ℕ) → IsCall i x → IsCall j y → Names (place i) e
      → Names (place j) e → i ≡ j
  pub named : (e : ℕ) (en : LogEntry) → slice_get m.log e ≡ Some en → (i : I) × (x : Record)
      × IsCall i x × Names (place i) e
  pub silent : (i : I) (x : Record) → IsCall i x → x.asked.more_to_come ≡ true → (x.state ≡ Sent)
      × (x.parts ≡ [])
  pub beginning : (i : I) (x : Record) → IsCall i x → (x.state ≡ Pending) ⊎ (x.state ≡ Lost)
      → HoldsBeginning m.log (place i) x
  pub mute : (i : I) (x : Record) → IsCall i x → ((e : ℕ) × (place i ≡ Mute e)) ⊎ (place i ≡ Never)
      → (x.parts ≡ []) × (x.state ≡ Done → ⊥)

-- ---- what the owners of the ends know

-- call n of the client of connection c has this record with its owner; connections are numbered
-- from 1 to k
abbrev pub IsCallOf : ℕ → (ℕ → ClientEnd) → ℕ × ℕ → Record → Type 0
IsCallOf k ends (c, n) x = (1 ≤ c) × (c ≤ k) × (slice_get (ends c).records n ≡ Some x)

-- Nothing is in flight: each end took all that the other one sent.
pub record NoneInFlight (c : ℕ) (deeds : List Deed) : Type 0 where
  pub up : bytes_taken_up (server_acts_at c deeds) ≡ bytes_sent (acts_at c deeds)
  pub down : bytes_taken (acts_at c deeds) ≡ bytes_sent_down (server_acts_at c deeds)

-- Both ends are open, nothing is in flight or has yet to be sent, no request waits, and no reply is
-- ready.
pub record AreQuiet (c : ℕ) (deeds : List Deed) (client : ClientEnd) (server : ServerView)
    : Type 0 where
  pub client_open : client.client.state ≡ clients.Open
  pub server_open : server.state ≡ servers.Open
  pub none_in_flight : NoneInFlight c deeds
  pub client_empty : client.client.requests.output ≡ []
  pub server_empty : server.output ≡ []
  pub none_waits : server.waiting ≡ []
  pub none_ready : client.client.reply ≡ None

-- After these deeds the headline holds of the records that the owners of the clients have, with the
-- log of the servers. If both ends of a connection are quiet, each of its acknowledged calls is
-- done.
pub record OwnersKnow {H : Type 0} (does : Does H) (stops : Stops H) (k : ℕ) (first : H)
    (deeds : List Deed) (ends : ℕ → ClientEnd) (servers : ServerEnds H) : Type 0 where
  pub m : Machine H
  pub reached : Steps H does stops (empty first (λ c. false)) m
  pub log : m.log ≡ servers.log
  pub owned : Owned m (IsCallOf k ends)
  pub quiet : (c : ℕ) (s : ServerView) → server_at servers.servers c ≡ Some s
      → AreQuiet c deeds (ends c) s → (n : ℕ) (x : Record) → slice_get (ends c).records n ≡ Some x
      → x.asked.more_to_come ≡ false → x.state ≡ Done
