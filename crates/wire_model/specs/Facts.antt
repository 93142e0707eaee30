-- What holds in each state of the machine that its steps reach from the empty one.
use Rattle.std.specs.Prelude.{◌≡◌, ℕ, true, None, Some, List, [], ◌⊎◌, slice_get}
use Rattle.wire_peer.specs.{Asked, Does, LogEntry, RunOf, Stops}
use Rattle.wire_model.specs.Machines.{Call, CallIs, Done, EntryOf, Lost, Machine, Mute, Never}
use Rattle.wire_model.specs.Machines.{Answered, Owes, Pending, Sent, is_ours}

-- The log is a run of the handler, entry by entry. Each entry's request is what its call asks: the
-- call whose place names the entry.
pub record LogIsRun {H : Type 0} (does : Does H) (stops : Stops H) (first : H) (m : Machine H) :
    Type 0 where
  pub requests : List Asked
  pub run : RunOf does stops first requests m.log m.handler
  pub asked : (i e : ℕ) (x : Call) → CallIs m.calls i x → EntryOf x e
      → slice_get requests e ≡ Some x.asked

-- a call that is done holds exactly the answers of its own entry
abbrev pub DoneIsWhole : {H : Type 0} → Machine H → Type 0
DoneIsWhole m = (i : ℕ) (x : Call) → CallIs m.calls i x → x.state ≡ Done
    → (e : ℕ) × (en : LogEntry) × (x.place ≡ Answered e) × (slice_get m.log e ≡ Some en)
    × (en.connection ≡ x.connection) × (en.payload ≡ x.asked.payload) × (en.answers ≡ Some x.parts)

-- the place of exactly one call or stranger names each entry, and that one has the entry's
-- connection and payload
abbrev pub EntryHasOneCall : {H : Type 0} → Machine H → Type 0
EntryHasOneCall m =
    ((i j e : ℕ) (x y : Call) → CallIs m.calls i x → CallIs m.calls j y → EntryOf x e → EntryOf y e
    → i ≡ j)
    × ((e : ℕ) (en : LogEntry) → slice_get m.log e ≡ Some en
    → (i : ℕ) × (x : Call) × CallIs m.calls i x × EntryOf x e × (en.connection ≡ x.connection)
    × (en.payload ≡ x.asked.payload))

-- an unacknowledged call is sent, and holds no parts
abbrev pub SilentHoldsNone : {H : Type 0} → Machine H → Type 0
SilentHoldsNone m =
    (i : ℕ) (x : Call) → CallIs m.calls i x → is_ours x.state ≡ true → x.asked.more_to_come ≡ true
    → (x.state ≡ Sent) × (x.parts ≡ [])

-- the call holds a beginning of its entry's answers, but not all of them; it holds nothing if it
-- has no entry, or one without answers
abbrev pub HoldsBeginning : {H : Type 0} → Machine H → Call → Type 0
HoldsBeginning m x =
    ((e : ℕ) × (en : LogEntry) × EntryOf x e × (slice_get m.log e ≡ Some en)
    × Owes en.answers x.parts)
    ⊎
    ((x.parts ≡ [])
    × ((e : ℕ) (en : LogEntry) → EntryOf x e → slice_get m.log e ≡ Some en → en.answers ≡ None))

-- a call that is pending or lost holds a beginning of its entry's answers, but not all of them
abbrev pub PendingHoldsBeginning : {H : Type 0} → Machine H → Type 0
PendingHoldsBeginning m =
    (i : ℕ) (x : Call) → CallIs m.calls i x → (x.state ≡ Pending) ⊎ (x.state ≡ Lost)
    → HoldsBeginning m x

-- a call that will have no answer is never done
abbrev pub MuteIsNeverDone : {H : Type 0} → Machine H → Type 0
MuteIsNeverDone m =
    (i : ℕ) (x : Call) → CallIs m.calls i x → ((e : ℕ) × (x.place ≡ Mute e)) ⊎ (x.place ≡ Never)
    → x.state ≡ Done → ⊥
