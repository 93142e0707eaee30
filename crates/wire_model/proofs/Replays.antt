-- The log is a run of the handler, in every state that the machine reaches.
use Rattle.std.proofs.Common.{◌≡◌, ℕ, suc, Bool, true, false, List, [], ◌∷◌, ◌++◌, length, map, refl, sym, ◌∙◌, ap, Option, Some, None, inl, inr}
use Rattle.std.specs.Prelude.{slice_get, slice_set, if◌then◌else◌}
use Rattle.std.proofs.lemmas.Option.{none-some, same_Some}
use Rattle.wire_msg.specs.{Content}
use Rattle.wire_peer.specs.{Asked, Does, LogEntry, LogStep, RunOf, Stops, are_left}
use Rattle.wire_peer.proofs.Lemmas.{run_push}
use Rattle.wire_model.specs.Facts.{LogIsRun}
use Rattle.wire_model.specs.Machines.{Call, CallIs, Place, Waiting, Answered, Mute, EntryOf, Machine, asked_as, lost, never, new_call, stranger, placed, with_part, logged, logged_place, entry_for, empty}
use Rattle.wire_model.specs.Machines as machine
use Rattle.wire_model.proofs.Lists.{get-push_old, get-push_new, get-push_cases, get-set_same, get-set_other, same_or_not, get-map_back}
use Rattle.wire_model.proofs.Promises.{not_waiting, not_onway, never_entry_from}

-- a call that names an entry named it before, and asks the same
abbrev NamedBefore : List Call → List Call → Type 0
NamedBefore calls calls' = (i : ℕ) (y : Call) (e : ℕ) → CallIs calls' i y → EntryOf y e → (x : Call) × CallIs calls i x × EntryOf x e × (x.asked ≡ y.asked)

named_set : (calls : List Call) (i : ℕ) (x y : Call) → CallIs calls i x → ((e : ℕ) → EntryOf y e → EntryOf x e) → x.asked ≡ y.asked → NamedBefore calls (slice_set calls i y)
named_set calls i x y at from a j z e g is = elim (same_or_not j i) [
  | inl s ↦ let same : z ≡ y = same_Some z y (sym g ∙ ap (slice_get (slice_set calls i y)) s ∙ get-set_same calls i x y at) in
      (x, ap (slice_get calls) s ∙ at, from e (rw same at is), a ∙ ap (λ (w : Call). w.asked) (sym same))
  | inr n ↦ (z, sym (get-set_other calls i j y n) ∙ g, is, refl)
]

named_push : (calls : List Call) (y : Call) → ((e : ℕ) → EntryOf y e → ⊥) → NamedBefore calls (calls ++ y ∷ [])
named_push calls y none i z e g is = elim (get-push_cases calls i z y g) [ inl h ↦ (z, h, is, refl) | inr h ↦ absurd (none e (rw h.1 is)) ]

named_lost : (calls : List Call) (c : ℕ) → NamedBefore calls (map (lost c) calls)
named_lost calls c i y e g is = let p = get-map_back (lost c) calls i y g in (p.0, p.1, rw (← p.2) at is, ap (λ (w : Call). w.asked) p.2)

named_never : (calls : List Call) (c : ℕ) → NamedBefore calls (map (never c) calls)
named_never calls c i y e g is = let p = get-map_back (never c) calls i y g in (p.0, p.1, never_entry_from c p.0 e (rw (← p.2) at is), ap (λ (w : Call). w.asked) p.2)

-- a run has as many requests as entries
run_length : {H : Type 0} (does : Does H) (stops : Stops H) (from to : H) (requests : List Asked) (log : List LogEntry) → RunOf does stops from requests log to → length requests ≡ length log
run_length does stops from to [] [] run = refl
run_length does stops from to [] (e ∷ log) run = absurd run
run_length does stops from to (a ∷ requests) [] run = absurd run
run_length does stops from to (a ∷ requests) (e ∷ log) run = ap suc (run_length does stops run.0 to requests log run.3)

module _ (H : Type 0) (does : Does H) (stops : Stops H) where
  -- the log and the handler are as they were
  run_kept : (first : H) (m n : Machine H) → n.log ≡ m.log → n.handler ≡ m.handler → NamedBefore m.calls n.calls → LogIsRun does stops first m → LogIsRun does stops first n
  run_kept first m n log handler before r = record {
    requests = r.requests;
    run = rw log (rw handler r.run);
    asked = λ i e y g is. let p = before i y e g is in r.asked i e p.0 p.1 p.2 ∙ ap (λ a. Some a) p.3;
  }

  -- one more entry, named by the call that waited
  run_logged : (first : H) (m : Machine H) (i : ℕ) (x : Call) (p : Place) (answers : Option (List Content)) (h : H) → CallIs m.calls i x → x.place ≡ Waiting
      → ((e : ℕ) → EntryOf (placed x p) e → e ≡ length m.log) → LogStep does stops m.handler x.asked answers h
      → LogIsRun does stops first m → LogIsRun does stops first (logged m i (placed x p) (entry_for x answers) h)
  run_logged first m i x p answers h at waits only step r = record {
    requests = r.requests ++ x.asked ∷ [];
    run = run_push does stops first m.handler h r.requests m.log x.asked (entry_for x answers) r.run refl step;
    asked = λ j e y g is. elim (same_or_not j i) [
      | inl s ↦
          let same : y ≡ placed x p = same_Some y (placed x p) (sym g ∙ ap (slice_get (slice_set m.calls i (placed x p))) s ∙ get-set_same m.calls i x (placed x p) at) in
          let last : e ≡ length r.requests = only e (rw same at is) ∙ sym (run_length does stops first m.handler r.requests m.log r.run) in
          ap (slice_get (r.requests ++ x.asked ∷ [])) last ∙ get-push_new r.requests x.asked ∙ ap (λ (w : Call). Some w.asked) (sym same)
      | inr n ↦ get-push_old r.requests e y.asked x.asked (r.asked j e y (sym (get-set_other m.calls i j (placed x p) n) ∙ g) is)
    ];
  }

  answered_only : (x : Call) (b : Bool) (n e : ℕ) → EntryOf (placed x (if b then Mute n else Answered n)) e → e ≡ n
  answered_only x true n e (inl q) = absurd (let r : Mute n ≡ Answered e = q in cc)
  answered_only x true n e (inr q) = let r : Mute n ≡ Mute e = q in cc
  answered_only x false n e (inl q) = let r : Answered n ≡ Answered e = q in cc
  answered_only x false n e (inr q) = absurd (let r : Answered n ≡ Mute e = q in cc)

  -- the same, and the server half is lost
  run_mute : (first : H) (m : Machine H) (i : ℕ) (x : Call) (answers : Option (List Content)) (h : H) → CallIs m.calls i x → x.place ≡ Waiting → LogStep does stops m.handler x.asked answers h
      → LogIsRun does stops first m → LogIsRun does stops first (machine.server_gone (logged m i (placed x (Mute (length m.log))) (entry_for x answers) h) x.connection)
  run_mute first m i x answers h at waits step r =
      let n = logged m i (placed x (Mute (length m.log))) (entry_for x answers) h in
      run_kept first n (machine.server_gone n x.connection) refl refl (named_never n.calls x.connection)
      (run_logged first m i x (Mute (length m.log)) answers h at waits (answered_only x true (length m.log)) step r)

  run_step : (first : H) (m n : Machine H) → LogIsRun does stops first m → machine.Step H does stops m n → LogIsRun does stops first n
  run_step first m n r (machine.issue c kind payload l e) =
      rw e (run_kept first m (machine.with_new m (new_call c (asked_as kind payload))) refl refl (named_push m.calls (new_call c (asked_as kind payload)) (λ d is. not_onway (new_call c (asked_as kind payload)) d refl is)) r)
  run_step first m n r (machine.arrive i x l at on f e) =
      rw e (run_kept first m (machine.with_call m i (placed x Waiting)) refl refl (named_set m.calls i x (placed x Waiting) at (λ d is. absurd (not_waiting (placed x Waiting) d refl is)) refl) r)
  run_step first m n r (machine.answer i x answers h at waits d e) =
      rw e (run_logged first m i x (logged_place x (length m.log)) (Some answers) h at waits (answered_only x x.asked.more_to_come (length m.log)) d r)
  run_step first m n r (machine.log_lost i x answers h at waits loud d e) = rw e (run_mute first m i x (Some answers) h at waits d r)
  run_step first m n r (machine.stop i x why h at waits s e) = rw e (run_mute first m i x None h at waits (why, s) r)
  run_step first m n r (machine.give_back i e' x due l at f e) =
      rw e (run_kept first m (machine.with_call m i (with_part x due.owes.0 (are_left due.owes.1))) refl refl (named_set m.calls i x (with_part x due.owes.0 (are_left due.owes.1)) at (λ d is. is) refl) r)
  run_step first m n r (machine.client_lost c e) = rw e (run_kept first m (machine.client_gone m c) refl refl (named_lost m.calls c) r)
  run_step first m n r (machine.server_lost c e) = rw e (run_kept first m (machine.server_gone m c) refl refl (named_never m.calls c) r)
  run_step first m n r (machine.appear c a raw l e) =
      rw e (run_kept first m (machine.with_new m (stranger c a)) refl refl (named_push m.calls (stranger c a) (λ d is. not_waiting (stranger c a) d refl is)) r)

  -- it holds in every state that is reached
  pub run_steps : (first : H) (m n : Machine H) → LogIsRun does stops first m → machine.Steps H does stops m n → LogIsRun does stops first n
  run_steps first m n r machine.stay = r
  run_steps first m n r (machine.go {n = mid} ss s) = run_step first mid n (run_steps first m mid r ss) s

  pub run_empty : (first : H) (raw : ℕ → Bool) → LogIsRun does stops first (empty first raw)
  run_empty first raw = record { requests = []; run = refl; asked = λ i e x g is. absurd (none-some x g) }
