-- What is promised of each call of the machine, and how it carries over to a later state.
use Rattle.std.proofs.Common.{◌≡◌, ℕ, true, false, List, [], refl, sym, ◌∙◌, ap, subst, Option, Some, None, ◌⊎◌, inl, inr}
use Rattle.std.specs.Prelude.{slice_get, slice_set}
use Rattle.std.proofs.lemmas.Option.{same_Some}
use Rattle.wire_msg.specs.{Content}
use Rattle.wire_peer.specs.{LogEntry}
use Rattle.wire_model.specs.Machines.{Call, CallIs, Place, OnWay, Waiting, Answered, Mute, Never, State, Pending, Done, Sent, Lost, Foreign, is_ours, EntryOf, Machine, with_call, with_new, Owes}
use Rattle.wire_model.proofs.Lists.{get-push_old, get-push_cases, get-set_same, get-set_other, same_or_not}
use Rattle.wire_model.proofs.Ranks.{ours}

-- ---- what is promised

-- the call has no parts and isn't done
abbrev pub Early : Call → Type 0
Early x = (x.parts ≡ []) × (x.state ≡ Done → ⊥)

-- done with all of the answers, or not done with a beginning
abbrev pub Held : Option (List Content) → Call → Type 0
Held answers x = ((x.state ≡ Done) × (answers ≡ Some x.parts)) ⊎ ((x.state ≡ Done → ⊥) × Owes answers x.parts)

abbrev pub HoldsAt : List LogEntry → Call → Place → Type 0
HoldsAt log x OnWay = Early x
HoldsAt log x Waiting = Early x
HoldsAt log x (Answered e) = (en : LogEntry) × (slice_get log e ≡ Some en) × Held en.answers x
HoldsAt log x (Mute e) = Early x
HoldsAt log x Never = Early x

pub record CallOk {H : Type 0} (m : Machine H) (x : Call) : Type 0 where
  pub entry : (e : ℕ) → EntryOf x e → (en : LogEntry) × (slice_get m.log e ≡ Some en) × (en.connection ≡ x.connection) × (en.payload ≡ x.asked.payload)
  pub holds : HoldsAt m.log x x.place
  pub quiet : x.asked.more_to_come ≡ true → ours x ≡ true → x.state ≡ Sent
  pub loud : x.asked.more_to_come ≡ false → x.state ≡ Sent → ⊥
  pub answered : (e : ℕ) → x.place ≡ Answered e → x.asked.more_to_come ≡ false
  pub mute : x.asked.more_to_come ≡ false → ((x.place ≡ Never) ⊎ ((e : ℕ) × (x.place ≡ Mute e))) → m.server_lives x.connection ≡ false
  pub pending : x.state ≡ Pending → m.client_lives x.connection ≡ true
  pub lost : x.state ≡ Lost → m.client_lives x.connection ≡ false
  pub foreign : x.state ≡ Foreign → m.raw x.connection ≡ true
  pub owned : ours x ≡ true → m.raw x.connection ≡ false

pub record Ok {H : Type 0} (m : Machine H) : Type 0 where
  pub each : (i : ℕ) (x : Call) → CallIs m.calls i x → CallOk m x
  pub unshared : (i j e : ℕ) (x y : Call) → CallIs m.calls i x → CallIs m.calls j y → EntryOf x e → EntryOf y e → i ≡ j
  pub named : (e : ℕ) (en : LogEntry) → slice_get m.log e ≡ Some en → (i : ℕ) × (x : Call) × CallIs m.calls i x × EntryOf x e
  pub answers : (e : ℕ) (en : LogEntry) → slice_get m.log e ≡ Some en → (en.answers ≡ None) ⊎ Owes en.answers []
  pub raws : (c : ℕ) → m.raw c ≡ true → m.client_lives c ≡ false

-- ---- how it carries over

-- a later state: the log may be longer, server halves may be lost
pub record Later {H : Type 0} (m n : Machine H) : Type 0 where
  pub log : (e : ℕ) (en : LogEntry) → slice_get m.log e ≡ Some en → slice_get n.log e ≡ Some en
  pub raw : (c : ℕ) → n.raw c ≡ m.raw c
  pub client : (c : ℕ) → n.client_lives c ≡ m.client_lives c
  pub server : (c : ℕ) → m.server_lives c ≡ false → n.server_lives c ≡ false

holds_later : (log log' : List LogEntry) (x : Call) (p : Place) → ((e : ℕ) (en : LogEntry) → slice_get log e ≡ Some en → slice_get log' e ≡ Some en) → HoldsAt log x p → HoldsAt log' x p
holds_later log log' x OnWay l h = h
holds_later log log' x Waiting l h = h
holds_later log log' x (Answered e) l h = (h.0, l e h.0 h.1, h.2)
holds_later log log' x (Mute e) l h = h
holds_later log log' x Never l h = h

pub ok_later : {H : Type 0} (m n : Machine H) (x : Call) → Later m n → CallOk m x → CallOk n x
ok_later m n x l ok = record {
  entry = λ e is. let p = ok.entry e is in (p.0, l.log e p.0 p.1, p.2, p.3);
  holds = holds_later m.log n.log x x.place l.log ok.holds;
  quiet = ok.quiet;
  loud = ok.loud;
  answered = ok.answered;
  mute = λ s is. l.server x.connection (ok.mute s is);
  pending = λ s. l.client x.connection ∙ ok.pending s;
  lost = λ s. l.client x.connection ∙ ok.lost s;
  foreign = λ s. l.raw x.connection ∙ ok.foreign s;
  owned = λ o. l.raw x.connection ∙ ok.owned o;
}

-- the calls that name entries are the same
pub ok_kept : {H : Type 0} (m n : Machine H) → n.log ≡ m.log → ((c : ℕ) → n.raw c ≡ true → n.client_lives c ≡ false)
    → ((i : ℕ) (y : Call) → CallIs n.calls i y → CallOk n y)
    → ((i : ℕ) (y : Call) → CallIs n.calls i y → (e : ℕ) → EntryOf y e → (x : Call) × CallIs m.calls i x × EntryOf x e)
    → ((i : ℕ) (x : Call) → CallIs m.calls i x → (e : ℕ) → EntryOf x e → (y : Call) × CallIs n.calls i y × EntryOf y e)
    → Ok m → Ok n
ok_kept m n same raws each back there ok = record {
  each = each;
  unshared = λ i j e x y gi gj a b. let p = back i x gi e a in let q = back j y gj e b in ok.unshared i j e p.0 q.0 p.1 q.1 p.2 q.2;
  named = λ e en g. let p = ok.named e en (ap (λ l. slice_get l e) (sym same) ∙ g) in let q = there p.0 p.1 p.2 e p.3 in (p.0, q.0, q.1, q.2);
  answers = λ e en g. ok.answers e en (ap (λ l. slice_get l e) (sym same) ∙ g);
  raws = raws;
}

pub not_waiting : (x : Call) (e : ℕ) → x.place ≡ Waiting → EntryOf x e → ⊥
not_waiting x e w (inl p) = let q : Waiting ≡ Answered e = sym w ∙ p in cc
not_waiting x e w (inr p) = let q : Waiting ≡ Mute e = sym w ∙ p in cc

pub not_onway : (x : Call) (e : ℕ) → x.place ≡ OnWay → EntryOf x e → ⊥
not_onway x e w (inl p) = let q : OnWay ≡ Answered e = sym w ∙ p in cc
not_onway x e w (inr p) = let q : OnWay ≡ Mute e = sym w ∙ p in cc

-- one more call that names nothing
pub ok_new : {H : Type 0} (m : Machine H) (y : Call) → CallOk (with_new m y) y → ((e : ℕ) → EntryOf y e → ⊥) → Ok m → Ok (with_new m y)
ok_new m y okay none ok = ok_kept m (with_new m y) refl ok.raws
    (λ i z g. elim (get-push_cases m.calls i z y g) [ inl h ↦ ok_later m (with_new m y) z (record { log = λ e en g. g; raw = λ c. refl; client = λ c. refl; server = λ c l. l }) (ok.each i z h) | inr h ↦ rw (← h.1) okay ])
    (λ i z g e is. elim (get-push_cases m.calls i z y g) [ inl h ↦ (z, h, is) | inr h ↦ absurd (none e (rw h.1 is)) ])
    (λ i x g e is. (x, get-push_old m.calls i x y g, is))
    ok

-- a write at a call that names the same entries
pub ok_written : {H : Type 0} (m : Machine H) (i : ℕ) (x y : Call) → CallIs m.calls i x → ((e : ℕ) → EntryOf x e → EntryOf y e) → ((e : ℕ) → EntryOf y e → EntryOf x e) → CallOk m y → Ok m → Ok (with_call m i y)
ok_written m i x y at to from okay ok = ok_kept m (with_call m i y) refl ok.raws
    (λ j z g. elim (same_or_not j i) [
      | inl s ↦ let same : z ≡ y = same_Some z y (sym g ∙ ap (slice_get (slice_set m.calls i y)) s ∙ get-set_same m.calls i x y at) in rw same (ok_later m (with_call m i y) y (record { log = λ e en g. g; raw = λ c. refl; client = λ c. refl; server = λ c l. l }) okay)
      | inr n ↦ ok_later m (with_call m i y) z (record { log = λ e en g. g; raw = λ c. refl; client = λ c. refl; server = λ c l. l }) (ok.each j z (sym (get-set_other m.calls i j y n) ∙ g))
    ])
    (λ j z g e is. elim (same_or_not j i) [
      | inl s ↦ let same : z ≡ y = same_Some z y (sym g ∙ ap (slice_get (slice_set m.calls i y)) s ∙ get-set_same m.calls i x y at) in (x, rw s at, from e (rw same at is))
      | inr n ↦ (z, sym (get-set_other m.calls i j y n) ∙ g, is)
    ])
    (λ j z g e is. elim (same_or_not j i) [
      | inl s ↦ (y, rw s (get-set_same m.calls i x y at), to e (let same : z ≡ x = same_Some z x (sym g ∙ ap (slice_get m.calls) s ∙ at) in rw same at is))
      | inr n ↦ (z, get-set_other m.calls i j y n ∙ g, is)
    ])
    ok

pub holds_as : {H : Type 0} (m : Machine H) (x : Call) (p : Place) → CallOk m x → x.place ≡ p → HoldsAt m.log x p
holds_as m x p ok e = subst (λ q. HoldsAt m.log x q) e ok.holds

-- ---- what follows of one call

-- a call of ours that waits and is acknowledged is pending while its client lives
pub still_pending : {H : Type 0} (m : Machine H) (x : Call) → Ok m → CallOk m x → x.asked.more_to_come ≡ false → m.client_lives x.connection ≡ true → (x.state ≡ Done → ⊥) → x.state ≡ Pending
still_pending m x all ok loud l undone = by x.state refl
  where
    by : (s : State) → x.state ≡ s → x.state ≡ Pending
    by Pending e = e
    by Done e = absurd (undone e)
    by Sent e = absurd (ok.loud loud e)
    by Lost e = absurd (let no : true ≡ false = sym l ∙ ok.lost e in cc)
    by Foreign e = absurd (let no : true ≡ false = sym l ∙ all.raws x.connection (ok.foreign e) in cc)

pub waiting_early : {H : Type 0} (m : Machine H) (x : Call) → CallOk m x → x.place ≡ Waiting → Early x
waiting_early m x ok w = holds_as m x Waiting ok w

-- if the client half is alive, the connection's calls are ours
pub ours_here : {H : Type 0} (m : Machine H) (x : Call) → Ok m → CallOk m x → m.client_lives x.connection ≡ true → ours x ≡ true
ours_here m x all ok l = by x.state refl
  where
    by : (s : State) → x.state ≡ s → ours x ≡ true
    by Pending e = ap is_ours e
    by Done e = ap is_ours e
    by Sent e = ap is_ours e
    by Lost e = ap is_ours e
    by Foreign e = absurd (let no : true ≡ false = sym l ∙ all.raws x.connection (ok.foreign e) in cc)
