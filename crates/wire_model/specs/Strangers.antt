-- What holds of servers alone, whoever asks them, and of pairs beside strangers: connections whose
-- client ends may be anything.
use Rattle.std.specs.Prelude.{◌≡◌, ℕ, Bool, false, if◌then◌else◌, Option, Some, List, [], ◌∷◌}
use Rattle.std.specs.Prelude.{slice_get}
use Rattle.wire_msg.specs.{Content, Message, Split}
use Rattle.wire_peer.specs.{Asked, Does, LogEntry, LogStep, ServerView, Stops}
use Rattle.wire_model.specs.Machines.{Done, Machine, Steps, empty}
use Rattle.wire_model.specs.Conns.{Record}
use Rattle.wire_model.specs.Hostile.{entries_of}
use Rattle.wire_model.specs.Owners.{ClientEnd, ServerEnds, server_at}
use Rattle.wire_model.specs.Deeds.{AtClient, AtServer, Deed}
use Rattle.wire_model.specs.Knowing.{AreQuiet, IsCallOf, Owned}

-- ---- servers by themselves

-- What the server of connection c took splits into messages and a rest, in exactly one way. Each
-- entry of the connection has the payload of one of these messages, and no two entries are of the
-- same message. The indexes are those of the messages, entry by entry.
pub record OwnEntries (limit c : ℕ) (taken : List ℕ) (log : List LogEntry) : Type 0 where
  pub messages : List Message
  pub rest : List ℕ
  pub split : Split limit taken messages rest
  pub only : (others : List Message) (after : List ℕ) → Split limit taken others after
      → (messages ≡ others) × (rest ≡ after)
  pub indexes : List ℕ
  pub are : (i : ℕ) (en : LogEntry) → slice_get (entries_of c log) i ≡ Some en
      → (n : ℕ) × (m : Message) × (slice_get indexes i ≡ Some n) × (slice_get messages n ≡ Some m)
      × (en.payload ≡ m.content)
  pub once : (i j n : ℕ) → slice_get indexes i ≡ Some n → slice_get indexes j ≡ Some n → i ≡ j

-- ---- pairs beside strangers

-- the deeds at connections that are no strangers
abbrev pub deeds_beside : (ℕ → Bool) → List Deed → List Deed
deeds_beside strange [] = []
deeds_beside strange (AtClient c act ∷ deeds) =
    if strange c then deeds_beside strange deeds else AtClient c act ∷ deeds_beside strange deeds
deeds_beside strange (AtServer c act ∷ deeds) =
    if strange c then deeds_beside strange deeds else AtServer c act ∷ deeds_beside strange deeds

-- the entries of connections that are no strangers
abbrev pub log_beside : (ℕ → Bool) → List LogEntry → List LogEntry
log_beside strange [] = []
log_beside strange (en ∷ log) =
    if strange en.connection then log_beside strange log else en ∷ log_beside strange log

module _ {H : Type 0} (does : Does H) (stops : Stops H) where
  -- strangers asked the handler any number of times, from the first state to the last one
  pub data Strayed (h : H) : H → Type 0 where
    none : Strayed h h
    once_more : {mid last : H} → Strayed h mid → (a : Asked) (answers : Option (List Content))
        → LogStep does stops mid a answers last → Strayed h last

-- How the handler answers, or stops, as the pairs see it: what strangers ask may change its state
-- before.
abbrev pub does_beside : {H : Type 0} → Does H → Stops H → Does H
does_beside {H} does stops h a answers h' =
    (mid : H) × Strayed does stops h mid × does mid a answers h'

abbrev pub stops_beside : {H : Type 0} → Does H → Stops H → Stops H
stops_beside {H} does stops h a stop h' =
    (mid : H) × Strayed does stops h mid × stops mid a stop h'

-- call n of the client of connection c, which is no stranger, has this record with its owner
abbrev pub IsPairCall : (ℕ → Bool) → ℕ → (ℕ → ClientEnd) → ℕ × ℕ → Record → Type 0
IsPairCall strange k ends (c, n) x = (strange c ≡ false) × IsCallOf k ends (c, n) x

-- After these deeds the headline holds of the records that the owners of the pairs' clients have,
-- with the log without the strangers' entries. `OwnersKnow` says more where there are no strangers:
-- that nothing but the pairs' requests changes the handler's state.
pub record PairsKnow {H : Type 0} (does : Does H) (stops : Stops H) (strange : ℕ → Bool) (k : ℕ)
    (first : H) (deeds : List Deed) (ends : ℕ → ClientEnd) (servers : ServerEnds H) : Type 0 where
  pub m : Machine H
  pub reached : Steps H (does_beside does stops) (stops_beside does stops)
      (empty first (λ c. false)) m
  pub log : m.log ≡ log_beside strange servers.log
  pub owned : Owned m (IsPairCall strange k ends)
  pub quiet : (c : ℕ) (s : ServerView) → strange c ≡ false → server_at servers.servers c ≡ Some s
      → AreQuiet c deeds (ends c) s → (n : ℕ) (x : Record) → slice_get (ends c).records n ≡ Some x
      → x.asked.more_to_come ≡ false → x.state ≡ Done
