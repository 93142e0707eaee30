-- What is promised holds after a call appears, arrives, is answered, or gets a part.
use Rattle.std.proofs.Common.{◌≡◌, ℕ, ◌<◌, Bool, true, false, List, [], ◌∷◌, ◌++◌, length, length-append, refl, sym, ◌∙◌, ap, subst, arith, append_assoc, Option, Some, None, ◌⊎◌, inl, inr}
use Rattle.std.specs.Prelude.{slice_get, slice_set, if◌then◌else◌}
use Rattle.std.proofs.lemmas.Option.{same_Some, slice_get_within}
use Rattle.wire_msg.specs.{Content}
use Rattle.wire_peer.specs.{Asked, IsCount, LogEntry, are_left}
use Rattle.wire_model.specs.Machines.{Call, CallIs, Place, OnWay, Waiting, Answered, Mute, Never, Pending, Done, Sent, Lost, Foreign, EntryOf, Machine, new_call, stranger, placed, with_part, with_call, logged, logged_place, entry_for, Owes, IsDue}
use Rattle.wire_model.proofs.Lists.{get-push_old, get-push_new, get-push_cases, get-set_same, get-set_other, same_or_not}
use Rattle.wire_model.proofs.Ranks.{ours}
use Rattle.wire_model.proofs.Machines.{Early, CallOk, Ok, Later, ok_later, ok_written, not_waiting, not_onway, holds_as}

-- ---- a call appears, and arrives

pub new_ok : {H : Type 0} (m : Machine H) (c : ℕ) (a : Asked) → m.raw c ≡ false → m.client_lives c ≡ true → CallOk m (new_call c a)
new_ok m c a ours l = record {
  entry = λ e is. absurd (not_onway (new_call c a) e refl is);
  holds = (refl, not_done a.more_to_come);
  quiet = λ s o. ap (λ b. if b then Sent else Pending) s;
  loud = λ s d. let p : Pending ≡ Sent = sym (ap (λ b. if b then Sent else Pending) s) ∙ d in cc;
  answered = λ e p. let q : OnWay ≡ Answered e = p in cc;
  mute = λ s is. elim is [ inl p ↦ absurd (let q : OnWay ≡ Never = p in cc) | inr p ↦ absurd (let q : OnWay ≡ Mute p.0 = p.1 in cc) ];
  pending = λ s. l;
  lost = λ s. absurd (not_lost a.more_to_come s);
  foreign = λ s. absurd (not_foreign a.more_to_come s);
  owned = λ o. ours;
}
  where
    not_done : (b : Bool) → (if b then Sent else Pending) ≡ Done → ⊥
    not_done true e = cc
    not_done false e = cc

    not_lost : (b : Bool) → (if b then Sent else Pending) ≡ Lost → ⊥
    not_lost true e = cc
    not_lost false e = cc

    not_foreign : (b : Bool) → (if b then Sent else Pending) ≡ Foreign → ⊥
    not_foreign true e = cc
    not_foreign false e = cc

pub stranger_ok : {H : Type 0} (m : Machine H) (c : ℕ) (a : Asked) → m.raw c ≡ true → CallOk m (stranger c a)
stranger_ok m c a raw = record {
  entry = λ e is. absurd (not_waiting (stranger c a) e refl is);
  holds = (refl, λ d. let p : Foreign ≡ Done = d in cc);
  quiet = λ s o. let p : false ≡ true = o in cc;
  loud = λ s d. let p : Foreign ≡ Sent = d in cc;
  answered = λ e p. let q : Waiting ≡ Answered e = p in cc;
  mute = λ s is. elim is [ inl p ↦ absurd (let q : Waiting ≡ Never = p in cc) | inr p ↦ absurd (let q : Waiting ≡ Mute p.0 = p.1 in cc) ];
  pending = λ s. absurd (let p : Foreign ≡ Pending = s in cc);
  lost = λ s. absurd (let p : Foreign ≡ Lost = s in cc);
  foreign = λ s. raw;
  owned = λ o. absurd (let p : false ≡ true = o in cc);
}

arrived_ok : {H : Type 0} (m : Machine H) (x : Call) → x.place ≡ OnWay → CallOk m x → CallOk m (placed x Waiting)
arrived_ok m x on ok = record {
  entry = λ e is. absurd (not_waiting (placed x Waiting) e refl is);
  holds = holds_as m x OnWay ok on;
  quiet = ok.quiet;
  loud = ok.loud;
  answered = λ e p. let q : Waiting ≡ Answered e = p in cc;
  mute = λ s is. elim is [ inl p ↦ absurd (let q : Waiting ≡ Never = p in cc) | inr p ↦ absurd (let q : Waiting ≡ Mute p.0 = p.1 in cc) ];
  pending = ok.pending;
  lost = ok.lost;
  foreign = ok.foreign;
  owned = ok.owned;
}

pub ok_arrived : {H : Type 0} (m : Machine H) (i : ℕ) (x : Call) → CallIs m.calls i x → x.place ≡ OnWay → Ok m → Ok (with_call m i (placed x Waiting))
ok_arrived m i x at on ok = ok_written m i x (placed x Waiting) at (λ e is. absurd (not_onway x e on is)) (λ e is. absurd (not_waiting (placed x Waiting) e refl is)) (arrived_ok m x on (ok.each i x at)) ok

-- ---- a call gets a part

-- no list is itself with more after it
too_long : (parts : List Content) (part : Content) (rest : List Content) → parts ≡ parts ++ part ∷ rest → ⊥
too_long parts part rest e = let l : length parts ≡ length (parts ++ part ∷ rest) = ap length e in omega (arith, length-append parts (part ∷ rest))

-- a call that gets a part
module _ {H : Type 0} (m : Machine H) (x : Call) (e : ℕ) (due : IsDue m.log x e) (lives : m.client_lives x.connection ≡ true) (raws : (c : ℕ) → m.raw c ≡ true → m.client_lives c ≡ false) (ok : CallOk m x) where
  pub undone : x.state ≡ Done → ⊥
  undone d = let h = holds_as m x (Answered e) ok due.place in
      let same : h.0 ≡ due.entry = same_Some h.0 due.entry (sym h.1 ∙ due.in_log) in
      elim h.2 [
        | inl w ↦ too_long x.parts due.owes.0 due.owes.1 (same_Some x.parts (x.parts ++ due.owes.0 ∷ due.owes.1) (sym w.1 ∙ ap (λ (en : LogEntry). en.answers) same ∙ due.owes.2))
        | inr w ↦ w.0 d
      ]

  not_raw : (b : Bool) → m.raw x.connection ≡ b → m.raw x.connection ≡ false
  not_raw false e = e
  not_raw true e = absurd (let no : true ≡ false = sym lives ∙ raws x.connection e in cc)

  pub given_ok : (part : Content) (rest : List Content) → due.entry.answers ≡ Some (x.parts ++ part ∷ rest) → CallOk m (with_part x part (are_left rest))
  given_ok part [] owes = record {
    entry = ok.entry;
    holds = rw due.place (due.entry, due.in_log, inl (refl, owes));
    quiet = λ s. absurd (let loud = ok.answered e due.place in let no : true ≡ false = sym s ∙ loud in cc);
    loud = λ s d. let q : Done ≡ Sent = d in cc;
    answered = ok.answered;
    mute = ok.mute;
    pending = λ s. absurd (let q : Done ≡ Pending = s in cc);
    lost = λ s. absurd (let q : Done ≡ Lost = s in cc);
    foreign = λ s. absurd (let q : Done ≡ Foreign = s in cc);
    owned = λ o. not_raw (m.raw x.connection) refl;
  }
  given_ok part (b ∷ bs) owes = record {
    entry = ok.entry;
    holds = rw due.place (due.entry, due.in_log, inr (undone, (b, bs, owes ∙ ap (λ z. Some z) (sym (append_assoc x.parts (part ∷ []) (b ∷ bs))))));
    quiet = ok.quiet;
    loud = ok.loud;
    answered = ok.answered;
    mute = ok.mute;
    pending = ok.pending;
    lost = ok.lost;
    foreign = ok.foreign;
    owned = ok.owned;
  }

-- ---- a waiting call is answered

-- a new entry, which one waiting call names
pub ok_logged : {H : Type 0} (m : Machine H) (i : ℕ) (x : Call) (p : Place) (en : LogEntry) (h : H) → CallIs m.calls i x → x.place ≡ Waiting
    → ((p ≡ Answered (length m.log)) ⊎ (p ≡ Mute (length m.log))) → ((en.answers ≡ None) ⊎ Owes en.answers [])
    → CallOk (logged m i (placed x p) en h) (placed x p) → Ok m → Ok (logged m i (placed x p) en h)
ok_logged m i x p en h at waits names some okay ok = record {
  each = λ j z g. elim (cases j z g) [ inl s ↦ rw s.1 okay | inr o ↦ ok_later m (logged m i (placed x p) en h) z later (ok.each j z o.1) ];
  unshared = λ j k e z w gj gk a b. elim (cases j z gj) [
    | inl s ↦ elim (cases k w gk) [
      | inl s' ↦ s.0 ∙ sym s'.0
      | inr o ↦ absurd (older k w e o.1 b (only e (rw s.1 at a)))
    ]
    | inr o ↦ elim (cases k w gk) [
      | inl s ↦ absurd (older j z e o.1 a (only e (rw s.1 at b)))
      | inr o' ↦ ok.unshared j k e z w o.1 o'.1 a b
    ]
  ];
  named = λ e e' g. elim (get-push_cases m.log e e' en g) [
    | inl old ↦ let q = ok.named e e' old in
        (q.0, q.1, get-set_other m.calls i q.0 (placed x p) (λ s. not_waiting x e waits (let same : q.1 ≡ x = same_Some q.1 x (sym q.2 ∙ ap (slice_get m.calls) s ∙ at) in rw same at q.3)) ∙ q.2, q.3)
    | inr new ↦ (i, placed x p, get-set_same m.calls i x (placed x p) at, rw new.0 names)
  ];
  answers = λ e e' g. elim (get-push_cases m.log e e' en g) [ inl old ↦ ok.answers e e' old | inr new ↦ rw (← new.1) some ];
  raws = ok.raws;
}
  where
    later : Later m (logged m i (placed x p) en h)
    later = record { log = λ e e' g. get-push_old m.log e e' en g; raw = λ c. refl; client = λ c. refl; server = λ c l. l }

    cases : (j : ℕ) (z : Call) → CallIs (slice_set m.calls i (placed x p)) j z → ((j ≡ i) × (z ≡ placed x p)) ⊎ ((j ≡ i → ⊥) × CallIs m.calls j z)
    cases j z g = elim (same_or_not j i) [
      | inl s ↦ inl (s, same_Some z (placed x p) (sym g ∙ ap (slice_get (slice_set m.calls i (placed x p))) s ∙ get-set_same m.calls i x (placed x p) at))
      | inr o ↦ inr (o, sym (get-set_other m.calls i j (placed x p) o) ∙ g)
    ]

    only : (e : ℕ) → EntryOf (placed x p) e → e ≡ length m.log
    only e (inl q) = elim names [ inl a ↦ (let r : Answered (length m.log) ≡ Answered e = sym a ∙ q in cc) | inr b ↦ absurd (let r : Mute (length m.log) ≡ Answered e = sym b ∙ q in cc) ]
    only e (inr q) = elim names [ inl a ↦ absurd (let r : Answered (length m.log) ≡ Mute e = sym a ∙ q in cc) | inr b ↦ (let r : Mute (length m.log) ≡ Mute e = sym b ∙ q in cc) ]

    older : (j : ℕ) (z : Call) (e : ℕ) → CallIs m.calls j z → EntryOf z e → e ≡ length m.log → ⊥
    older j z e g is same = let q = (ok.each j z g).entry e is in let within = slice_get_within m.log e q.0 q.1 in absurd (omega arith)

-- at least one answer
pub owes_all : (a : Asked) (answers : List Content) → IsCount a (length answers) → Owes (Some answers) []
owes_all a [] good = absurd (let some : 0 < 0 = good.0 in omega (arith, some))
owes_all a (b ∷ bs) good = (b, bs, refl)

-- the waiting call that is answered
module _ {H : Type 0} (m : Machine H) (i : ℕ) (x : Call) (h : H) (waits : x.place ≡ Waiting) (ok : CallOk m x) where
  early : Early x
  early = holds_as m x Waiting ok waits

  answered_ok : (answers : List Content) → IsCount x.asked (length answers) → x.asked.more_to_come ≡ false → CallOk (logged m i (placed x (Answered (length m.log))) (entry_for x (Some answers)) h) (placed x (Answered (length m.log)))
  answered_ok answers good loud = record {
    entry = λ e is. (entry_for x (Some answers), rw (only e is) (get-push_new m.log (entry_for x (Some answers))), refl, refl);
    holds = (entry_for x (Some answers), get-push_new m.log (entry_for x (Some answers)), inr (early.1, rw early.0 (owes_all x.asked answers good)));
    quiet = ok.quiet;
    loud = ok.loud;
    answered = λ e q. loud;
    mute = λ s is. elim is [ inl q ↦ absurd (let r : Answered (length m.log) ≡ Never = q in cc) | inr q ↦ absurd (let r : Answered (length m.log) ≡ Mute q.0 = q.1 in cc) ];
    pending = ok.pending;
    lost = ok.lost;
    foreign = ok.foreign;
    owned = ok.owned;
  }
    where
      only : (e : ℕ) → EntryOf (placed x (Answered (length m.log))) e → e ≡ length m.log
      only e (inl q) = let r : Answered (length m.log) ≡ Answered e = q in cc
      only e (inr q) = absurd (let r : Answered (length m.log) ≡ Mute e = q in cc)

  -- without an answer: the request wants none, or the server half is lost
  pub mute_ok : (answers : Option (List Content)) → (x.asked.more_to_come ≡ true) ⊎ (m.server_lives x.connection ≡ false) → CallOk (logged m i (placed x (Mute (length m.log))) (entry_for x answers) h) (placed x (Mute (length m.log)))
  mute_ok answers why = record {
    entry = λ e is. (entry_for x answers, rw (only e is) (get-push_new m.log (entry_for x answers)), refl, refl);
    holds = early;
    quiet = ok.quiet;
    loud = ok.loud;
    answered = λ e q. absurd (let r : Mute (length m.log) ≡ Answered e = q in cc);
    mute = λ s is. elim why [ inl t ↦ absurd (let r : true ≡ false = sym t ∙ s in cc) | inr dead ↦ dead ];
    pending = ok.pending;
    lost = ok.lost;
    foreign = ok.foreign;
    owned = ok.owned;
  }
    where
      only : (e : ℕ) → EntryOf (placed x (Mute (length m.log))) e → e ≡ length m.log
      only e (inl q) = absurd (let r : Mute (length m.log) ≡ Answered e = q in cc)
      only e (inr q) = let r : Mute (length m.log) ≡ Mute e = q in cc

pub ok_answered : {H : Type 0} (m : Machine H) (i : ℕ) (x : Call) (answers : List Content) (h : H) → CallIs m.calls i x → x.place ≡ Waiting → IsCount x.asked (length answers) → Ok m
    → Ok (logged m i (placed x (logged_place x (length m.log))) (entry_for x (Some answers)) h)
ok_answered m i x answers h at waits good ok = by x.asked.more_to_come refl
  where
    by : (b : Bool) → x.asked.more_to_come ≡ b → Ok (logged m i (placed x (logged_place x (length m.log))) (entry_for x (Some answers)) h)
    by true s = subst (λ p. Ok (logged m i (placed x p) (entry_for x (Some answers)) h)) (sym (ap (λ b. if b then Mute (length m.log) else Answered (length m.log)) s))
        (ok_logged m i x (Mute (length m.log)) (entry_for x (Some answers)) h at waits (inr refl) (inr (owes_all x.asked answers good)) (mute_ok m i x h waits (ok.each i x at) (Some answers) (inl s)) ok)
    by false s = subst (λ p. Ok (logged m i (placed x p) (entry_for x (Some answers)) h)) (sym (ap (λ b. if b then Mute (length m.log) else Answered (length m.log)) s))
        (ok_logged m i x (Answered (length m.log)) (entry_for x (Some answers)) h at waits (inl refl) (inr (owes_all x.asked answers good)) (answered_ok m i x h waits (ok.each i x at) answers good s) ok)
