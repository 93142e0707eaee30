-- What is promised holds after a half of a connection is lost.
use Rattle.std.proofs.Common.{◌≡◌, ℕ, Bool, true, false, eqb, List, [], length, map, refl, sym, ◌∙◌, ap, arith, Option, None, ◌⊎◌, inl, inr}
use Rattle.std.specs.Prelude.{if◌then◌else◌}
use Rattle.std.proofs.lemmas.Bool.Decides.{nat_tests}
use Rattle.wire_msg.specs.{Content}
use Rattle.wire_model.specs.Machines.{Call, CallIs, Place, OnWay, Waiting, Answered, Mute, Never, State, Pending, Done, Sent, Lost, Foreign, EntryOf, Machine, all_but, lost_state, lost, never_place, never, placed, logged, entry_for, client_gone, server_gone, Owes}
use Rattle.wire_model.proofs.Lists.{get-map, get-map_back}
use Rattle.wire_model.proofs.Ranks.{ours-lost}
use Rattle.wire_model.proofs.Machines.{Early, Held, HoldsAt, CallOk, Ok, ok_later, ok_kept}
use Rattle.wire_model.proofs.Entries.{ok_logged, mute_ok}

-- a half that was lost is gone
pub gone_here : (f : ℕ → Bool) (c : ℕ) → all_but f c c ≡ false
gone_here f c = grind (arith, nat_tests)

-- the client half is lost
pub ok_client_gone : {H : Type 0} (m : Machine H) (c : ℕ) → Ok m → Ok (client_gone m c)
ok_client_gone m c ok = ok_kept m (client_gone m c) refl (λ d raw. dead_stays (eqb d c) (m.client_lives d) (ok.raws d raw))
    (λ i y g. let p = get-map_back (lost c) m.calls i y g in rw (← p.2) (gone_ok p.0 (ok.each i p.0 p.1)))
    (λ i y g e is. let p = get-map_back (lost c) m.calls i y g in (p.0, p.1, rw (← p.2) at is))
    (λ i x g e is. (lost c x, get-map (lost c) m.calls i x g, is))
    ok
  where
    dead_stays : (b v : Bool) → v ≡ false → (if b then false else v) ≡ false
    dead_stays true v e = refl
    dead_stays false v e = e

    state_done : (b : Bool) (s : State) → (if b then lost_state s else s) ≡ Done → s ≡ Done
    state_done true Pending e = cc
    state_done true Done e = refl
    state_done true Sent e = cc
    state_done true Lost e = cc
    state_done true Foreign e = cc
    state_done false s e = e

    done_stays : (b : Bool) (s : State) → s ≡ Done → (if b then lost_state s else s) ≡ Done
    done_stays true s e = ap lost_state e
    done_stays false s e = e

    sent_stays : (b : Bool) (s : State) → s ≡ Sent → (if b then lost_state s else s) ≡ Sent
    sent_stays true s e = ap lost_state e
    sent_stays false s e = e

    sent_from : (b : Bool) (s : State) → (if b then lost_state s else s) ≡ Sent → s ≡ Sent
    sent_from true Pending e = cc
    sent_from true Done e = cc
    sent_from true Sent e = refl
    sent_from true Lost e = cc
    sent_from true Foreign e = cc
    sent_from false s e = e

    foreign_from : (b : Bool) (s : State) → (if b then lost_state s else s) ≡ Foreign → s ≡ Foreign
    foreign_from true Pending e = cc
    foreign_from true Done e = cc
    foreign_from true Sent e = cc
    foreign_from true Lost e = cc
    foreign_from true Foreign e = refl
    foreign_from false s e = e

    same_conn : (x : Call) (b : Bool) → eqb x.connection c ≡ b → CallOk m x → (if b then lost_state x.state else x.state) ≡ Lost → (if b then false else m.client_lives x.connection) ≡ false
    same_conn x true eq o e = refl
    same_conn x false eq o e = o.lost e

    not_pending : (s : State) → lost_state s ≡ Pending → ⊥
    not_pending Pending e = cc
    not_pending Done e = cc
    not_pending Sent e = cc
    not_pending Lost e = cc
    not_pending Foreign e = cc

    pending_here : (x : Call) (b : Bool) → CallOk m x → (if b then lost_state x.state else x.state) ≡ Pending → (if b then false else m.client_lives x.connection) ≡ true
    pending_here x true o e = absurd (not_pending x.state e)
    pending_here x false o e = o.pending e

    early_lost : (x : Call) → Early x → Early (lost c x)
    early_lost x e = (e.0, λ d. e.1 (state_done (eqb x.connection c) x.state d))

    held_lost : (answers : Option (List Content)) (x : Call) → Held answers x → Held answers (lost c x)
    held_lost answers x (inl w) = inl (done_stays (eqb x.connection c) x.state w.0, w.1)
    held_lost answers x (inr w) = inr ((λ d. w.0 (state_done (eqb x.connection c) x.state d)), w.1)

    holds_lost : (x : Call) (p : Place) → HoldsAt m.log x p → HoldsAt m.log (lost c x) p
    holds_lost x OnWay h = early_lost x h
    holds_lost x Waiting h = early_lost x h
    holds_lost x (Answered e) h = (h.0, h.1, held_lost h.0.answers x h.2)
    holds_lost x (Mute e) h = early_lost x h
    holds_lost x Never h = early_lost x h

    gone_ok : (x : Call) → CallOk m x → CallOk (client_gone m c) (lost c x)
    gone_ok x o = record {
      entry = o.entry;
      holds = holds_lost x x.place o.holds;
      quiet = λ s w. sent_stays (eqb x.connection c) x.state (o.quiet s (sym (ours-lost c x) ∙ w));
      loud = λ s d. o.loud s (sent_from (eqb x.connection c) x.state d);
      answered = o.answered;
      mute = o.mute;
      pending = λ e. pending_here x (eqb x.connection c) o e;
      lost = λ e. same_conn x (eqb x.connection c) refl o e;
      foreign = λ e. o.foreign (foreign_from (eqb x.connection c) x.state e);
      owned = λ w. o.owned (sym (ours-lost c x) ∙ w);
    }

-- the server half is lost in two steps: it is no longer alive, and then requests without an entry
-- never get one
abbrev shut : {H : Type 0} → Machine H → ℕ → Machine H
shut m c = record { calls = m.calls; log = m.log; handler = m.handler; raw = m.raw; client_lives = m.client_lives; server_lives = all_but m.server_lives c }

abbrev never_all : {H : Type 0} → Machine H → ℕ → Machine H
never_all m c = record { calls = map (never c) m.calls; log = m.log; handler = m.handler; raw = m.raw; client_lives = m.client_lives; server_lives = m.server_lives }

shut_stays : (f : ℕ → Bool) (c d : ℕ) → f d ≡ false → all_but f c d ≡ false
shut_stays f c d e = elim (eqb d c) as (λ b. (if b then false else f d) ≡ false) [ true ↦ refl | false ↦ e ]

ok_shut : {H : Type 0} (m : Machine H) (c : ℕ) → Ok m → Ok (shut m c)
ok_shut m c ok = record {
  each = λ i x g. ok_later m (shut m c) x (record { log = λ e en g. g; raw = λ d. refl; client = λ d. refl; server = λ d l. shut_stays m.server_lives c d l }) (ok.each i x g);
  unshared = ok.unshared;
  named = ok.named;
  answers = ok.answers;
  raws = ok.raws;
}

entry_to : (p : Place) (e : ℕ) → (p ≡ Answered e) ⊎ (p ≡ Mute e) → (never_place p ≡ Answered e) ⊎ (never_place p ≡ Mute e)
entry_to p e (inl q) = inl (ap never_place q)
entry_to p e (inr q) = inr (ap never_place q)

entry_from : (p : Place) (e : ℕ) → (never_place p ≡ Answered e) ⊎ (never_place p ≡ Mute e) → (p ≡ Answered e) ⊎ (p ≡ Mute e)
entry_from OnWay e (inl q) = cc
entry_from OnWay e (inr q) = cc
entry_from Waiting e (inl q) = cc
entry_from Waiting e (inr q) = cc
entry_from (Answered i) e q = q
entry_from (Mute i) e q = q
entry_from Never e (inl q) = cc
entry_from Never e (inr q) = cc

pub never_entry_to : (c : ℕ) (x : Call) (e : ℕ) → EntryOf x e → EntryOf (never c x) e
never_entry_to c x e is = elim (eqb x.connection c) as (λ b. ((if b then never_place x.place else x.place) ≡ Answered e) ⊎ ((if b then never_place x.place else x.place) ≡ Mute e)) [ true ↦ entry_to x.place e is | false ↦ is ]

pub never_entry_from : (c : ℕ) (x : Call) (e : ℕ) → EntryOf (never c x) e → EntryOf x e
never_entry_from c x e is = elim (eqb x.connection c) as (λ b. ((if b then never_place x.place else x.place) ≡ Answered e) ⊎ ((if b then never_place x.place else x.place) ≡ Mute e) → EntryOf x e) [ true ↦ λ q. entry_from x.place e q | false ↦ λ q. q ] is

ok_never : {H : Type 0} (m : Machine H) (c : ℕ) → m.server_lives c ≡ false → Ok m → Ok (never_all m c)
ok_never m c dead ok = ok_kept m (never_all m c) refl ok.raws
    (λ i y g. let p = get-map_back (never c) m.calls i y g in rw (← p.2) (never_ok p.0 (ok.each i p.0 p.1)))
    (λ i y g e is. let p = get-map_back (never c) m.calls i y g in (p.0, p.1, never_entry_from c p.0 e (rw (← p.2) at is)))
    (λ i x g e is. (never c x, get-map (never c) m.calls i x g, never_entry_to c x e is))
    ok
  where
    is_answered : (p : Place) (e : ℕ) → never_place p ≡ Answered e → p ≡ Answered e
    is_answered OnWay e q = cc
    is_answered Waiting e q = cc
    is_answered (Answered i) e q = q
    is_answered (Mute i) e q = cc
    is_answered Never e q = cc

    answered_from : (b : Bool) (p : Place) (e : ℕ) → (if b then never_place p else p) ≡ Answered e → p ≡ Answered e
    answered_from true p e q = is_answered p e q
    answered_from false p e q = q

    here : (x : Call) (b : Bool) → eqb x.connection c ≡ b → x.asked.more_to_come ≡ false → CallOk m x
        → (((if b then never_place x.place else x.place) ≡ Never) ⊎ ((e : ℕ) × ((if b then never_place x.place else x.place) ≡ Mute e))) → m.server_lives x.connection ≡ false
    here x true eq s o is = let same : x.connection ≡ c = grind (arith, nat_tests) in rw same dead
    here x false eq s o is = o.mute s is

    holds_never : (x : Call) (p : Place) → HoldsAt m.log x p → HoldsAt m.log x (never_place p)
    holds_never x OnWay h = h
    holds_never x Waiting h = h
    holds_never x (Answered e) h = h
    holds_never x (Mute e) h = h
    holds_never x Never h = h

    holds_by : (x : Call) (b : Bool) → HoldsAt m.log x x.place → HoldsAt m.log x (if b then never_place x.place else x.place)
    holds_by x true h = holds_never x x.place h
    holds_by x false h = h

    moved : (x : Call) (q p : Place) → HoldsAt m.log x p → HoldsAt m.log (placed x q) p
    moved x q OnWay h = h
    moved x q Waiting h = h
    moved x q (Answered e) h = h
    moved x q (Mute e) h = h
    moved x q Never h = h

    never_ok : (x : Call) → CallOk m x → CallOk (never_all m c) (never c x)
    never_ok x o = record {
      entry = λ e is. o.entry e (never_entry_from c x e is);
      holds = moved x (if eqb x.connection c then never_place x.place else x.place) (if eqb x.connection c then never_place x.place else x.place) (holds_by x (eqb x.connection c) o.holds);
      quiet = o.quiet;
      loud = o.loud;
      answered = λ e q. o.answered e (answered_from (eqb x.connection c) x.place e q);
      mute = λ s is. here x (eqb x.connection c) refl s o is;
      pending = o.pending;
      lost = o.lost;
      foreign = o.foreign;
      owned = o.owned;
    }

pub ok_server_gone : {H : Type 0} (m : Machine H) (c : ℕ) → Ok m → Ok (server_gone m c)
ok_server_gone m c ok = ok_never (shut m c) c (gone_here m.server_lives c) (ok_shut m c ok)

-- logged without an answer, and the server half is lost
pub ok_mute_gone : {H : Type 0} (m : Machine H) (i : ℕ) (x : Call) (answers : Option (List Content)) (h : H) → CallIs m.calls i x → x.place ≡ Waiting → ((answers ≡ None) ⊎ Owes answers []) → Ok m
    → Ok (server_gone (logged m i (placed x (Mute (length m.log))) (entry_for x answers) h) x.connection)
ok_mute_gone m i x answers h at waits some ok =
    let ok' = ok_shut m x.connection ok in
    ok_never (logged (shut m x.connection) i (placed x (Mute (length m.log))) (entry_for x answers) h) x.connection (gone_here m.server_lives x.connection)
    (ok_logged (shut m x.connection) i x (Mute (length m.log)) (entry_for x answers) h at waits (inr refl) some
    (mute_ok (shut m x.connection) i x h waits (ok'.each i x at) answers (inr (gone_here m.server_lives x.connection))) ok')
