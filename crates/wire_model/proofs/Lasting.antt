-- What stays of the calls and the log while the machine steps on.
use Rattle.std.proofs.Common.{◌≡◌, ℕ, zero, suc, ◌<◌, ◌≤◌, Bool, true, false, List, [], ◌∷◌, ◌++◌, length, length-append, map, refl, sym, ◌∙◌, ap, append_assoc, arith, Some, ◌⊎◌, inl, inr}
use Rattle.std.specs.Prelude.{◌==◌, if◌then◌else◌, slice_get, slice_set}
use Rattle.std.proofs.lemmas.List.{append-nil}
use Rattle.std.proofs.lemmas.Option.{none-some, same_Some, slice_get_within}
use Rattle.wire_msg.specs.{Content}
use Rattle.wire_peer.specs.{Does, LogEntry, Stops, are_left}
use Rattle.wire_model.specs.Conns.{Record}
use Rattle.wire_model.specs.Lasting.{CallsAreKept, DoneIsEarlier, IsKept, LogGrows}
use Rattle.wire_model.specs.Machines.{Answered, Call, CallIs, Done, EntryOf, Foreign, IsDue, Lost, Machine, Mute, Pending, Place, Sent, State, Waiting, asked_as, empty, entry_for, is_ours, logged, logged_place, lost, lost_state, never, new_call, placed, server_gone, stranger, with_call, with_new, with_part}
use Rattle.wire_model.specs.Machines as machine
use Rattle.wire_model.specs.Shown.{shown, shown_calls}
use Rattle.wire_model.proofs.Entries.{undone}
use Rattle.wire_model.proofs.Lists.{get-map, get-map_back, get-push_cases, get-push_old, get-set_other, get-set_same, same_or_not}
use Rattle.wire_model.proofs.Losses.{never_entry_from, never_entry_to}
use Rattle.wire_model.proofs.Machines.{Ok, not_onway, not_waiting, still_pending}
use Rattle.wire_model.proofs.Promises.{done_whole, ok_empty, ok_steps}
use Rattle.wire_model.proofs.Ranks.{ours, ours-lost}

-- ---- one call

kept_same : (r s : Record) → s ≡ r → IsKept r s
kept_same r s e = record {
  connection = ap (λ (z : Record). z.connection) e;
  asked = ap (λ (z : Record). z.asked) e;
  parts = ([], ap (λ (z : Record). z.parts) e ∙ sym (append-nil r.parts));
  settled = λ n. e;
}

kept_then : (r s t : Record) → IsKept r s → IsKept s t → IsKept r t
kept_then r s t a b = record {
  connection = b.connection ∙ a.connection;
  asked = b.asked ∙ a.asked;
  parts = (a.parts.0 ++ b.parts.0, b.parts.1 ∙ ap (λ ps. ps ++ b.parts.0) a.parts.1 ∙ append_assoc r.parts a.parts.0 b.parts.0);
  settled = λ n. b.settled (λ p. n (sym (ap (λ (z : Record). z.state) (a.settled n)) ∙ p)) ∙ a.settled n;
}

-- a call is kept, and so is its entry
record Stays (x y : Call) : Type 0 where
  pub kept : IsKept (shown x) (shown y)
  pub entry : (e : ℕ) → EntryOf x e → EntryOf y e
  pub mine : ours y ≡ ours x

stays_same : (x : Call) → Stays x x
stays_same x = record { kept = kept_same (shown x) (shown x) refl; entry = λ e is. is; mine = refl }

stays_then : (x y z : Call) → Stays x y → Stays y z → Stays x z
stays_then x y z a b = record {
  kept = kept_then (shown x) (shown y) (shown z) a.kept b.kept;
  entry = λ e is. b.entry e (a.entry e is);
  mine = b.mine ∙ a.mine;
}

-- a call that has no entry yet is put elsewhere
stays_placed : (x : Call) (p : Place) → ((e : ℕ) → EntryOf x e → ⊥) → Stays x (placed x p)
stays_placed x p none = record { kept = kept_same (shown x) (shown x) refl; entry = λ e is. absurd (none e is); mine = refl }

stays_never : (c : ℕ) (x : Call) → Stays x (never c x)
stays_never c x = record { kept = kept_same (shown x) (shown x) refl; entry = never_entry_to c x; mine = refl }

lost_by : (b : Bool) (s : State) → (s ≡ Pending → ⊥) → (if b then lost_state s else s) ≡ s
lost_by true Pending n = absurd (n refl)
lost_by true Done n = refl
lost_by true Sent n = refl
lost_by true Lost n = refl
lost_by true Foreign n = refl
lost_by false s n = refl

abbrev in_state : Record → State → Record
in_state r s = record { connection = r.connection; asked = r.asked; parts = r.parts; state = s }

stays_lost : (c : ℕ) (x : Call) → Stays x (lost c x)
stays_lost c x = record {
  kept = record { connection = refl; asked = refl; parts = ([], sym (append-nil x.parts)); settled = λ n. ap (in_state (shown x)) (lost_by (x.connection == c) x.state n) };
  entry = λ e is. is;
  mine = ours-lost c x;
}

-- one that is pending gets a part
stays_given : (x : Call) (part : Content) (more : Bool) → x.state ≡ Pending → Stays x (with_part x part more)
stays_given x part more pending = record {
  kept = record { connection = refl; asked = refl; parts = (part ∷ [], refl); settled = λ n. absurd (n pending) };
  entry = λ e is. is;
  mine = by more;
}
  where
    by : (b : Bool) → is_ours (if b then x.state else Done) ≡ is_ours x.state
    by true = refl
    by false = sym (ap is_ours pending)

-- ---- lists of calls

-- each call stays
abbrev AllStay : List Call → List Call → Type 0
AllStay xs ys = (i : ℕ) (x : Call) → CallIs xs i x → (y : Call) × CallIs ys i y × Stays x y

-- an entry that a call names was named before, or its index is at least this one
abbrev AreFresh : ℕ → List Call → List Call → Type 0
AreFresh n xs ys = (j e : ℕ) (y : Call) → CallIs ys j y → EntryOf y e → (n ≤ e) ⊎ ((x : Call) × CallIs xs j x × EntryOf x e)

stay_push : (xs : List Call) (y : Call) → AllStay xs (xs ++ y ∷ [])
stay_push xs y i x at = (x, get-push_old xs i x y at, stays_same x)

fresh_push : (n : ℕ) (xs : List Call) (y : Call) → ((e : ℕ) → EntryOf y e → ⊥) → AreFresh n xs (xs ++ y ∷ [])
fresh_push n xs y none j e z at is = elim (get-push_cases xs j z y at) [ inl h ↦ inr (z, h, is) | inr h ↦ absurd (none e (rw h.1 is)) ]

stay_set : (xs : List Call) (i : ℕ) (x y : Call) → CallIs xs i x → Stays x y → AllStay xs (slice_set xs i y)
stay_set xs i x y at s j z g = elim (same_or_not j i) [
  | inl e ↦ (y, rw e (get-set_same xs i x y at), let same : z ≡ x = same_Some z x (sym g ∙ ap (slice_get xs) e ∙ at) in rw same s)
  | inr n ↦ (z, get-set_other xs i j y n ∙ g, stays_same z)
]

fresh_set : (n : ℕ) (xs : List Call) (i : ℕ) (x y : Call) → CallIs xs i x → ((e : ℕ) → EntryOf y e → (n ≤ e) ⊎ EntryOf x e) → AreFresh n xs (slice_set xs i y)
fresh_set n xs i x y at back j e z g is = elim (same_or_not j i) [
  | inl s ↦
      let same : z ≡ y = same_Some z y (sym g ∙ ap (slice_get (slice_set xs i y)) s ∙ get-set_same xs i x y at) in
      let here : EntryOf y e = rw same at is in
      elim (back e here) [ inl le ↦ inl le | inr was ↦ inr (x, rw s at, was) ]
  | inr o ↦ inr (z, sym (get-set_other xs i j y o) ∙ g, is)
]

stay_map : (f : Call → Call) → ((x : Call) → Stays x (f x)) → (xs : List Call) → AllStay xs (map f xs)
stay_map f s xs i x at = (f x, get-map f xs i x at, s x)

fresh_map : (n : ℕ) (f : Call → Call) → ((x : Call) (e : ℕ) → EntryOf (f x) e → EntryOf x e) → (xs : List Call) → AreFresh n xs (map f xs)
fresh_map n f back xs j e y g is = let p = get-map_back f xs j y g in inr (p.0, p.1, back p.0 e (rw p.2 is))

-- ---- states of the machine

-- the later state keeps all calls and entries of the earlier one
record Onward {H : Type 0} (m n : Machine H) : Type 0 where
  pub calls : AllStay m.calls n.calls
  pub log : LogGrows m.log n.log
  pub fresh : AreFresh (length m.log) m.calls n.calls

log_same : (log : List LogEntry) → LogGrows log log
log_same log = ([], sym (append-nil log))

log_then : (a b c : List LogEntry) → LogGrows a b → LogGrows b c → LogGrows a c
log_then a b c f g = (f.0 ++ g.0, g.1 ∙ ap (λ es. es ++ g.0) f.1 ∙ append_assoc a f.0 g.0)

log_longer : (a b : List LogEntry) → LogGrows a b → length a ≤ length b
log_longer a b g = let same = ap length g.1 in omega (arith, length-append a g.0)

onward_same : {H : Type 0} (m : Machine H) → Onward m m
onward_same m = record { calls = λ i x at. (x, at, stays_same x); log = log_same m.log; fresh = λ j e y at is. inr (y, at, is) }

onward_then : {H : Type 0} (m n o : Machine H) → Onward m n → Onward n o → Onward m o
onward_then m n o a b = record {
  calls = λ i x at. let p = a.calls i x at in let q = b.calls i p.0 p.1 in (q.0, q.1, stays_then x p.0 q.0 p.2 q.2);
  log = log_then m.log n.log o.log a.log b.log;
  fresh = λ j e z at is. elim (b.fresh j e z at is) [
    | inl le ↦ inl (let longer = log_longer m.log n.log a.log in omega arith)
    | inr p ↦ a.fresh j e p.0 p.1 p.2
  ];
}

onward_new : {H : Type 0} (m : Machine H) (y : Call) → ((e : ℕ) → EntryOf y e → ⊥) → Onward m (with_new m y)
onward_new m y none = record { calls = stay_push m.calls y; log = log_same m.log; fresh = fresh_push (length m.log) m.calls y none }

onward_written : {H : Type 0} (m : Machine H) (i : ℕ) (x y : Call) → CallIs m.calls i x → Stays x y → ((e : ℕ) → EntryOf y e → EntryOf x e) → Onward m (with_call m i y)
onward_written m i x y at s back = record {
  calls = stay_set m.calls i x y at s;
  log = log_same m.log;
  fresh = fresh_set (length m.log) m.calls i x y at (λ e is. inr (back e is));
}

-- a request that waits gets the next entry
onward_logged : {H : Type 0} (m : Machine H) (i : ℕ) (x : Call) (p : Place) (en : LogEntry) (h : H) → CallIs m.calls i x → x.place ≡ Waiting → ((e : ℕ) → EntryOf (placed x p) e → length m.log ≤ e)
    → Onward m (logged m i (placed x p) en h)
onward_logged m i x p en h at waits last = record {
  calls = stay_set m.calls i x (placed x p) at (stays_placed x p (λ e is. not_waiting x e waits is));
  log = (en ∷ [], refl);
  fresh = fresh_set (length m.log) m.calls i x (placed x p) at (λ e is. inl (last e is));
}

onward_server_gone : {H : Type 0} (m : Machine H) (c : ℕ) → Onward m (server_gone m c)
onward_server_gone m c = record { calls = stay_map (never c) (stays_never c) m.calls; log = log_same m.log; fresh = fresh_map (length m.log) (never c) (never_entry_from c) m.calls }

onward_client_gone : {H : Type 0} (m : Machine H) (c : ℕ) → Onward m (machine.client_gone m c)
onward_client_gone m c = record { calls = stay_map (lost c) (stays_lost c) m.calls; log = log_same m.log; fresh = fresh_map (length m.log) (lost c) (λ x e is. is) m.calls }

-- the entry that a place names
answered_is : (a e : ℕ) → (Answered a ≡ Answered e) ⊎ (Answered a ≡ Mute e) → a ≡ e
answered_is a e (inl q) = cc
answered_is a e (inr q) = cc

mute_is : (a e : ℕ) → (Mute a ≡ Answered e) ⊎ (Mute a ≡ Mute e) → a ≡ e
mute_is a e (inl q) = cc
mute_is a e (inr q) = cc

logged_last : (x : Call) (n e : ℕ) → EntryOf (placed x (logged_place x n)) e → n ≤ e
logged_last x n e is = by x.asked.more_to_come is
  where
    by : (b : Bool) → ((if b then Mute n else Answered n) ≡ Answered e) ⊎ ((if b then Mute n else Answered n) ≡ Mute e) → n ≤ e
    by true q = let same = mute_is n e q in omega arith
    by false q = let same = answered_is n e q in omega arith

mute_last : (x : Call) (n e : ℕ) → EntryOf (placed x (Mute n)) e → n ≤ e
mute_last x n e is = let same = mute_is n e is in omega arith

module _ (H : Type 0) (does : Does H) (stops : Stops H) where
  onward_muted : (m : Machine H) (i : ℕ) (x : Call) (en : LogEntry) (h : H) → CallIs m.calls i x → x.place ≡ Waiting → Onward m (server_gone (logged m i (placed x (Mute (length m.log))) en h) x.connection)
  onward_muted m i x en h at waits =
      let one : Machine H = logged m i (placed x (Mute (length m.log))) en h in
      onward_then m one (server_gone one x.connection) (onward_logged m i x (Mute (length m.log)) en h at waits (mute_last x (length m.log))) (onward_server_gone one x.connection)

  -- only a pending call gets parts
  onward_given : (m : Machine H) (i e : ℕ) (x : Call) → Ok m → (due : IsDue m.log x e) → m.client_lives x.connection ≡ true → CallIs m.calls i x → Onward m (with_call m i (with_part x due.owes.0 (are_left due.owes.1)))
  onward_given m i e x ok due alive at =
      let o = ok.each i x at in
      let pending : x.state ≡ Pending = still_pending m x ok o (o.answered e due.place) alive (undone m x e due alive ok.raws o) in
      onward_written m i x (with_part x due.owes.0 (are_left due.owes.1)) at (stays_given x due.owes.0 (are_left due.owes.1) pending) (λ e is. is)

  onward_step : (m n : Machine H) → Ok m → machine.Step H does stops m n → Onward m n
  onward_step m n ok (machine.issue c kind payload l e) = rw e (onward_new m (new_call c (asked_as kind payload)) (λ e is. not_onway (new_call c (asked_as kind payload)) e refl is))
  onward_step m n ok (machine.arrive i x l at on first e) = rw e (onward_written m i x (placed x Waiting) at (stays_placed x Waiting (λ e is. not_onway x e on is)) (λ e is. absurd (not_waiting (placed x Waiting) e refl is)))
  onward_step m n ok (machine.answer i x answers h at waits d e) =
      rw e (onward_logged m i x (logged_place x (length m.log)) (entry_for x (Some answers)) h at waits (logged_last x (length m.log)))
  onward_step m n ok (machine.log_lost i x answers h at waits loud d e) = rw e (onward_muted m i x (entry_for x (Some answers)) h at waits)
  onward_step m n ok (machine.stop i x why h at waits s e) = rw e (onward_muted m i x (entry_for x _) h at waits)
  onward_step m n ok (machine.give_back i e' x due l at first e) = rw e (onward_given m i e' x ok due l at)
  onward_step m n ok (machine.client_lost c e) = rw e (onward_client_gone m c)
  onward_step m n ok (machine.server_lost c e) = rw e (onward_server_gone m c)
  onward_step m n ok (machine.appear c a raw l e) = rw e (onward_new m (stranger c a) (λ e is. not_waiting (stranger c a) e refl is))

  onward_steps : (m n : Machine H) → Ok m → machine.Steps H does stops m n → Onward m n
  onward_steps m n ok machine.stay = onward_same m
  onward_steps m n ok (machine.go {n = mid} ss s) = onward_then m mid n (onward_steps m mid ok ss) (onward_step mid n (ok_steps H does stops m mid ok ss) s)

-- ---- what follows

abbrev shown_by : Bool → Record → List Record → List Record
shown_by b r rs = if b then r ∷ rs else rs

-- the calls that are shown are kept
shown_kept : (xs ys : List Call) → AllStay xs ys → CallsAreKept (shown_calls xs) (shown_calls ys)
shown_kept [] ys s i r g = absurd (none-some r g)
shown_kept (x ∷ xs) [] s i r g = let p = s zero x refl in absurd (none-some p.0 p.1)
shown_kept (x ∷ xs) (y ∷ ys) s i r g =
    let p = s zero x refl in
    let same : y ≡ p.0 = same_Some y p.0 p.1 in
    by (rw same p.2) (shown_kept xs ys (λ j z at. s (suc j) z at)) (ours x) refl i g
  where
    by : Stays x y → CallsAreKept (shown_calls xs) (shown_calls ys) → (b : Bool) → ours x ≡ b → (k : ℕ) → slice_get (shown_by b (shown x) (shown_calls xs)) k ≡ Some r
        → (t : Record) × (slice_get (shown_by (ours y) (shown y) (shown_calls ys)) k ≡ Some t) × IsKept r t
    by first more true e zero g =
        let is : shown x ≡ r = same_Some (shown x) r g in
        (shown y, ap (λ b. slice_get (shown_by b (shown y) (shown_calls ys)) zero) (first.mine ∙ e), rw (← is) first.kept)
    by first more true e (suc k) g = let q = more k r g in (q.0, ap (λ b. slice_get (shown_by b (shown y) (shown_calls ys)) (suc k)) (first.mine ∙ e) ∙ q.1, q.2)
    by first more false e k g = let q = more k r g in (q.0, ap (λ b. slice_get (shown_by b (shown y) (shown_calls ys)) k) (first.mine ∙ e) ∙ q.1, q.2)

-- a place names one entry at most
entry_is : (p : Place) (a b : ℕ) → (p ≡ Answered a) ⊎ (p ≡ Mute a) → (p ≡ Answered b) ⊎ (p ≡ Mute b) → a ≡ b
entry_is p a b (inl f) (inl g) = cc
entry_is p a b (inl f) (inr g) = cc
entry_is p a b (inr f) (inl g) = cc
entry_is p a b (inr f) (inr g) = cc

earlier : {H : Type 0} (m n : Machine H) → Ok m → Onward m n → DoneIsEarlier m n
earlier m n ok o i j e e' x y z at done at' is late at'' is' =
    let whole = done_whole m ok i x at done in
    let was = o.calls i x at in
    let same : y ≡ was.0 = same_Some y was.0 (sym at' ∙ was.1) in
    by whole.0 whole.1 whole.3 (rw same (was.2.entry whole.0 (inl whole.2))) (o.fresh j e' z at'' is')
  where
    by : (a : ℕ) (en : LogEntry) → slice_get m.log a ≡ Some en → EntryOf y a → (length m.log ≤ e') ⊎ ((w : Call) × CallIs m.calls j w × EntryOf w e') → e < e'
    by a en in_log here (inl le) =
        let same = entry_is y.place a e here is in
        let within = slice_get_within m.log a en in_log in
        omega arith
    by a en in_log here (inr p) = let within = slice_get_within m.calls j p.0 p.1 in absurd (omega arith)

module _ (H : Type 0) (does : Does H) (stops : Stops H) (first : H) (raw : ℕ → Bool) (m n : Machine H) where
  onward : machine.Steps H does stops (empty first raw) m → machine.Steps H does stops m n → Onward m n
  onward reached steps = onward_steps H does stops m n (ok_steps H does stops (empty first raw) m (ok_empty first raw) reached) steps

  pub calls_are_kept : machine.Steps H does stops (empty first raw) m → machine.Steps H does stops m n → CallsAreKept (shown_calls m.calls) (shown_calls n.calls)
  calls_are_kept reached steps = shown_kept m.calls n.calls (onward reached steps).calls

  pub log_grows : machine.Steps H does stops (empty first raw) m → machine.Steps H does stops m n → LogGrows m.log n.log
  log_grows reached steps = (onward reached steps).log

  pub done_is_earlier : machine.Steps H does stops (empty first raw) m → machine.Steps H does stops m n → DoneIsEarlier m n
  done_is_earlier reached steps = earlier m n (ok_steps H does stops (empty first raw) m (ok_empty first raw) reached) (onward reached steps)
