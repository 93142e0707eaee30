-- Connections stay, raw or not, and the number of the next one is the number after the last.
use Rattle.std.proofs.Common.{◌≡◌, ℕ, suc, ◌+◌, Bool, true, false, List, [], ◌∷◌, ◌++◌, length, refl, sym, ◌∙◌, ap, arith, Option, Some, None, inl, inr}
use Rattle.std.specs.Prelude.{◌^◌, ◌-◌, ◌==◌, ◌&&◌, not, nat_lt, if◌then◌else◌, Result, Ok, Err}
use Rattle.std.proofs.lemmas.Option.{none-some, same_Some}
use Rattle.wire_pool.specs.{PoolSeen, checked_in, checked_out, drawn, id_after}
use Rattle.wire_pool.specs.Loans.{lending, loan_of}
use Rattle.wire_pool.specs.Pools.{lend, next_after, open_new, take_back}
use Rattle.wire_pool.specs.declared.loans.Loan.{Loan}
use Rattle.wire_pool.specs.declared.pool_answers.CheckIn.{CheckIn}
use Rattle.wire_pool.specs.declared.pool_answers.CheckIn.TheVariants as ins
use Rattle.wire_pool.specs.declared.pool_answers.CheckOut.{CheckOut}
use Rattle.wire_pool.specs.declared.pool_answers.CheckOut.TheVariants as outs
use Rattle.wire_msg.specs.{Content}
use Rattle.wire_peer.specs.{Does, Stops, content_of}
use Rattle.wire_peer.specs.declared.calls.CallKind.{CallKind}
use Rattle.wire_peer.specs.declared.calls.CallNo.{CallNo}
use Rattle.wire_peer.specs.declared.server_state.AnswerRefusal.{AnswerRefusal}
use Rattle.wire_model.specs.declared.events.Event.{Event}
use Rattle.wire_model.specs.declared.events.Event.TheVariants as events
use Rattle.wire_model.specs.declared.limits.WorldLimits.{WorldLimits}
use Rattle.wire_model.specs.declared.refusals.WorldRefusal.{WorldRefusal}
use Rattle.wire_model.specs.declared.refusals.WorldRefusal.TheVariants as refusals
use Rattle.wire_model.specs.declared.reports.Report.{Report}
use Rattle.wire_model.specs.Conns.{Conn, World, conn_at, conn_set, new_conn, new_raw_conn}
use Rattle.wire_model.specs.Cuts.{cleared_world, cut_down, cut_up, dropped, is_healthy, restarted_world}
use Rattle.wire_model.specs.Machines.{Machine}
use Rattle.wire_model.specs.Machines as machine
use Rattle.wire_model.specs.Moves.{Calls, GivesRaw, MovesDown, MovesUp, TakesRaw, TakesUncopied}
use Rattle.wire_model.specs.Happening.{Answers, CutsDown, CutsUp, Happens, Succeeds, IsRefused, Opens, PartDone, Returns, Run, RunsOut, opened, with_pool}
use Rattle.wire_model.proofs.Lists.{same_or_not}
use Rattle.wire_model.proofs.Places.{conn_push-old, conn_set-other, conn_set-same, length-conn_set, length-push}
use Rattle.wire_model.proofs.Shuts.{Shuts, stays, up, down, shuts_all_cut, shuts_cut_at, shuts_length, shuts_restarted}

-- each connection is there, and raw if it was
abbrev pub Grows : List Conn → List Conn → Type 0
Grows ks js = (c : ℕ) (k : Conn) → conn_at ks c ≡ Some k → (j : Conn) × (conn_at js c ≡ Some j) × (j.raw ≡ k.raw)

grows_same : (ks js : List Conn) → js ≡ ks → Grows ks js
grows_same ks js e c k g = (k, ap (λ z. conn_at z c) e ∙ g, refl)

grows_then : (ks js is : List Conn) → Grows ks js → Grows js is → Grows ks is
grows_then ks js is a b c k g = let p = a c k g in let q = b c p.0 p.1 in (q.0, q.1, q.2 ∙ p.2)

grows_set : (ks js : List Conn) (c : ℕ) (k k' : Conn) → conn_at ks c ≡ Some k → k'.raw ≡ k.raw → js ≡ conn_set ks c k' → Grows ks js
grows_set ks js c k k' at raw e d j g = elim (same_or_not d c) [
  | inl s ↦ (k', ap (λ z. conn_at z d) e ∙ ap (conn_at (conn_set ks c k')) s ∙ conn_set-same ks c k k' at, raw ∙ ap (λ (z : Conn). z.raw) (same_Some k j (sym at ∙ ap (conn_at ks) (sym s) ∙ g)))
  | inr o ↦ (j, ap (λ z. conn_at z d) e ∙ conn_set-other ks c d k' o ∙ g, refl)
]

grows_shuts : (ks js : List Conn) → Shuts ks js → Grows ks js
grows_shuts ks js stays = grows_same ks ks refl
grows_shuts ks js (up {js = is} c k s at e) = grows_then ks is js (grows_shuts ks is s) (grows_set is js c k (cut_up k) at refl e)
grows_shuts ks js (down {js = is} c k s at e) = grows_then ks is js (grows_shuts ks is s) (grows_set is js c k (cut_down k) at refl e)

-- ---- the pool's next number

-- the next number is one more than the number of connections
abbrev pub NextIs : {H : Type 0} → World H → Type 0
NextIs w = w.pool.next ≡ id_after (length w.conns)

-- the number after n is n + 1
pub after_is : (n c : ℕ) → id_after n ≡ Some c → c ≡ suc n
after_is n c e = by (n == 2 ^ 64 - 1) e
  where
    by : (b : Bool) → (if b then None else Some (n + 1)) ≡ Some c → c ≡ suc n
    by true e = absurd (none-some c e)
    by false e = let is : n + 1 ≡ c = same_Some (n + 1) c e in omega arith

abbrev with_loan : PoolSeen → ℕ → PoolSeen
with_loan p id = record p { lent = p.lent ++ lending id ∷ []; next = id_after id }

abbrev open_by : PoolSeen → ℕ → Bool → CheckOut × PoolSeen
open_by p id b = if b then (outs.Open id, with_loan p id) else (outs.Full, p)

used_next : (p : PoolSeen) (c : ℕ) (new : PoolSeen) → checked_out p ≡ (outs.Use c, new) → new.next ≡ p.next
used_next p c new e = by p.closed e
  where
    answer : {x y : CheckOut × PoolSeen} → x ≡ y → x.0 ≡ y.0
    answer e = ap (λ (z : CheckOut × PoolSeen). z.0) e

    from_by : (id : ℕ) (b : Bool) → open_by p id b ≡ (outs.Use c, new) → new.next ≡ p.next
    from_by id true e = let no : outs.Open id ≡ outs.Use c = answer e in cc
    from_by id false e = let no : outs.Full ≡ outs.Use c = answer e in cc

    from_new : (o : Option ℕ) → open_new p o ≡ (outs.Use c, new) → new.next ≡ p.next
    from_new None e = let no : outs.Full ≡ outs.Use c = answer e in cc
    from_new (Some id) e = from_by id (nat_lt (length p.lent) p.max) e

    from_idle : (ids : List ℕ) → lend p ids ≡ (outs.Use c, new) → new.next ≡ p.next
    from_idle [] e = from_new p.next e
    from_idle (id ∷ ids) e = sym (ap (λ (z : CheckOut × PoolSeen). z.1.next) e)

    by : (b : Bool) → ◌≡◌ {A = CheckOut × PoolSeen} (if b then (outs.PoolClosed, p) else lend p p.idle) (outs.Use c, new) → new.next ≡ p.next
    by true e = let no : outs.PoolClosed ≡ outs.Use c = answer e in cc
    by false e = from_idle p.idle e

pub opened_next : (p : PoolSeen) (c : ℕ) (new : PoolSeen) → checked_out p ≡ (outs.Open c, new) → (p.next ≡ Some c) × (new.next ≡ id_after c)
opened_next p c new e = by p.closed e
  where
    answer : {x y : CheckOut × PoolSeen} → x ≡ y → x.0 ≡ y.0
    answer e = ap (λ (z : CheckOut × PoolSeen). z.0) e

    from_by : (id : ℕ) (b : Bool) → open_by p id b ≡ (outs.Open c, new) → (Some id ≡ Some c) × (new.next ≡ id_after c)
    from_by id true e =
        let same : outs.Open id ≡ outs.Open c = answer e in
        let is : id ≡ c = cc in
        (ap (λ i. Some i) is, sym (ap (λ (z : CheckOut × PoolSeen). z.1.next) e) ∙ ap id_after is)
    from_by id false e = absurd (let no : outs.Full ≡ outs.Open c = answer e in cc)

    from_new : (o : Option ℕ) → open_new p o ≡ (outs.Open c, new) → (o ≡ Some c) × (new.next ≡ id_after c)
    from_new None e = absurd (let no : outs.Full ≡ outs.Open c = answer e in cc)
    from_new (Some id) e = from_by id (nat_lt (length p.lent) p.max) e

    from_idle : (ids : List ℕ) → lend p ids ≡ (outs.Open c, new) → (p.next ≡ Some c) × (new.next ≡ id_after c)
    from_idle [] e = from_new p.next e
    from_idle (id ∷ ids) e = absurd (let no : outs.Use id ≡ outs.Open c = answer e in cc)

    by : (b : Bool) → ◌≡◌ {A = CheckOut × PoolSeen} (if b then (outs.PoolClosed, p) else lend p p.idle) (outs.Open c, new) → (p.next ≡ Some c) × (new.next ≡ id_after c)
    by true e = absurd (let no : outs.PoolClosed ≡ outs.Open c = answer e in cc)
    by false e = from_idle p.idle e

returned_next : (p : PoolSeen) (c : ℕ) (healthy : Bool) → (checked_in p c healthy).1.next ≡ p.next
returned_next p c healthy = by (loan_of c p.lent)
  where
    chosen : (b : Bool) (x y : CheckIn × PoolSeen) → x.1.next ≡ p.next → y.1.next ≡ p.next → (if b then x else y).1.next ≡ p.next
    chosen true x y a b = a
    chosen false x y a b = b

    by : (o : Option Loan) → (take_back p c healthy o).1.next ≡ p.next
    by None = refl
    by (Some loan) = chosen (healthy && (not p.closed && not loan.cleared)) _ _ refl refl

-- ---- events

-- as many connections as before, and the same next number
pub record Keeps {H : Type 0} (w n : World H) : Type 0 where
  pub many : length n.conns ≡ length w.conns
  pub next : n.pool.next ≡ w.pool.next
  pub there : Grows w.conns n.conns

-- connections may have been made
pub record Grew {H : Type 0} (w n : World H) : Type 0 where
  pub next : NextIs w → NextIs n
  pub there : Grows w.conns n.conns

keeps_grew : {H : Type 0} (w n : World H) → Keeps w n → Grew w n
keeps_grew w n k = record { next = λ is. k.next ∙ is ∙ ap id_after (sym k.many); there = k.there }

keeps_same : {H : Type 0} (w n : World H) → n ≡ w → Keeps w n
keeps_same w n e = record { many = ap (λ (z : World _). length z.conns) e; next = ap (λ (z : World _). z.pool.next) e; there = grows_same w.conns n.conns (ap (λ (z : World _). z.conns) e) }

keeps_then : {H : Type 0} (w n o : World H) → Keeps w n → Keeps n o → Keeps w o
keeps_then w n o a b = record { many = b.many ∙ a.many; next = b.next ∙ a.next; there = grows_then w.conns n.conns o.conns a.there b.there }

keeps_set : {H : Type 0} (w n : World H) (c : ℕ) (k k' : Conn) → conn_at w.conns c ≡ Some k → k'.raw ≡ k.raw → n.conns ≡ conn_set w.conns c k' → n.pool ≡ w.pool → Keeps w n
keeps_set w n c k k' at raw e p = record {
  many = ap length e ∙ length-conn_set w.conns c k';
  next = ap (λ (z : PoolSeen). z.next) p;
  there = grows_set w.conns n.conns c k k' at raw e;
}

keeps_shuts : {H : Type 0} (w n : World H) → Shuts w.conns n.conns → n.pool.next ≡ w.pool.next → Keeps w n
keeps_shuts w n s p = record { many = shuts_length w.conns n.conns s; next = p; there = grows_shuts w.conns n.conns s }

keeps_dropped : {H : Type 0} (w n : World H) (c : ℕ) → n ≡ dropped w c → Keeps w n
keeps_dropped w n c e = rw e (keeps_shuts w (dropped w c) (shuts_cut_at w.conns c) refl)

-- a connection is made, with the next number
grew_opened : {H : Type 0} (w n : World H) (p : PoolSeen) (c : ℕ) (k : Conn) → w.pool.next ≡ Some c → p.next ≡ id_after c → n ≡ opened w p k → Grew w n
grew_opened w n p c k next after e = rw e (record {
  next = λ is. after ∙ ap id_after (after_is (length w.conns) c (sym is ∙ next) ∙ sym (length-push w.conns k));
  there = λ d j g. (j, conn_push-old w.conns d j k g, refl);
})

-- the number of a connection that is made
pub number_is : {H : Type 0} (w : World H) (c : ℕ) → NextIs w → w.pool.next ≡ Some c → c ≡ suc (length w.conns)
number_is w c is next = after_is (length w.conns) c (sym is ∙ next)

grew_opens : {H : Type 0} (l : WorldLimits) (w n : World H) (c : ℕ) (new : Bool) → Opens l w c new n → Grew w n
grew_opens l w n c false (p, checked, e) = rw e (keeps_grew w (with_pool w p) (record { many = refl; next = used_next w.pool c p checked; there = grows_same w.conns w.conns refl }))
grew_opens l w n c true (p, checked, e) = let o = opened_next w.pool c p checked in grew_opened w n p c (new_conn l c) o.0 o.1 e

keeps_returns : {H : Type 0} (w n : World H) (c : ℕ) (kept : Bool) → Returns w c kept n → Keeps w n
keeps_returns w n c kept s = by kept s.checked s.after
  where
    by : (b : Bool) → checked_in w.pool c (is_healthy s.k) ≡ (if b then ins.Kept else ins.Dropped, s.pool) → n ≡ (if b then with_pool w s.pool else dropped (with_pool w s.pool) c) → Keeps w n
    by true checked e = rw e (record { many = refl; next = sym (ap (λ (z : CheckIn × PoolSeen). z.1.next) checked) ∙ returned_next w.pool c (is_healthy s.k); there = grows_same w.conns w.conns refl })
    by false checked e = keeps_then w (with_pool w s.pool) n (record { many = refl; next = sym (ap (λ (z : CheckIn × PoolSeen). z.1.next) checked) ∙ returned_next w.pool c (is_healthy s.k); there = grows_same w.conns w.conns refl }) (keeps_dropped (with_pool w s.pool) n c e)

keeps_up : {H : Type 0} (w n : World H) (c many : ℕ) → MovesUp w c many n → Keeps w n
keeps_up w n c many s = rw s.after (keeps_set w _ c s.k _ s.at refl refl refl)

keeps_down : {H : Type 0} (w n : World H) (c many : ℕ) → MovesDown w c many n → Keeps w n
keeps_down w n c many s = rw s.after (keeps_set w _ c s.k _ s.at refl refl refl)

keeps_uncopied : {H : Type 0} (w n : World H) (c many : ℕ) → TakesUncopied w c many n → Keeps w n
keeps_uncopied w n c many s = rw s.after (keeps_set w _ c s.k _ s.at refl refl refl)

keeps_raw : {H : Type 0} (w n : World H) (c : ℕ) (bytes : List ℕ) → TakesRaw w c bytes n → Keeps w n
keeps_raw w n c bytes s = rw s.after (keeps_set w _ c s.k _ s.at refl refl refl)

keeps_answers : {H : Type 0} (does : Does H) (stops : Stops H) (w n : World H) (c i : ℕ) (r : Result ℕ AnswerRefusal) → Answers does stops w c i r n → Keeps w n
keeps_answers does stops w n c i r s = rw s.after (keeps_set w _ c s.k _ s.at refl refl refl)

keeps_calls : {H : Type 0} (w n : World H) (c : ℕ) (kind : CallKind) (payload : Content) (id : CallNo) → Calls w c kind payload id n → Keeps w n
keeps_calls w n c kind payload id s = rw s.after (keeps_set w _ c s.k _ s.at refl refl refl)

keeps_gives : {H : Type 0} (w n : World H) (c many : ℕ) → GivesRaw w c many n → Keeps w n
keeps_gives w n c many s = rw s.after (keeps_set w _ c s.k _ s.at refl refl refl)

keeps_cut_up : {H : Type 0} (w n : World H) (c : ℕ) → CutsUp w c n → Keeps w n
keeps_cut_up w n c s = rw s.after (keeps_set w _ c s.k (cut_up s.k) s.at refl refl refl)

keeps_cut_down : {H : Type 0} (w n : World H) (c : ℕ) → CutsDown w c n → Keeps w n
keeps_cut_down w n c s = rw s.after (keeps_set w _ c s.k (cut_down s.k) s.at refl refl refl)

keeps_part : {H : Type 0} (l : WorldLimits) (w n : World H) (e : Event) → PartDone l w e n → Keeps w n
keeps_part l w n (events.Call c kind payload) s = keeps_same w n s
keeps_part l w n (events.Up c many) s = keeps_up w n c many s.0
keeps_part l w n (events.Down c many) (inl s) = keeps_down w n c many s.0
keeps_part l w n (events.Down c many) (inr s) = keeps_then w s.0 n (keeps_down w s.0 c many s.1) (keeps_uncopied s.0 n c _ s.2)
keeps_part l w n (events.Answer c i) s = keeps_same w n s
keeps_part l w n (events.Raw c bytes) s = keeps_raw w n c bytes.now s.0
keeps_part l w n (events.RawTake c many) s = keeps_same w n s.0
keeps_part l w n events.Open s = absurd s
keeps_part l w n (events.Return c) s = absurd s
keeps_part l w n (events.CutUp c) s = absurd s
keeps_part l w n (events.CutDown c) s = absurd s
keeps_part l w n events.Clear s = absurd s
keeps_part l w n events.Restart s = absurd s
keeps_part l w n events.RawOpen s = absurd s

keeps_out : {H : Type 0} (l : WorldLimits) (w n : World H) (e : Event) → RunsOut l w e n → Keeps w n
keeps_out l w n e s = keeps_then w s.done n (keeps_part l w s.done e s.part) (keeps_dropped s.done n s.c s.after)

module _ {H : Type 0} (does : Does H) (stops : Stops H) (l : WorldLimits) where
  grew_done : (w n : World H) (e : Event) (r : Report) → Succeeds does stops l w e r n → Grew w n
  grew_done w n events.Open r s = grew_opens l w n s.0 s.1 s.3
  grew_done w n (events.Return c) r s = keeps_grew w n (keeps_returns w n c s.0 s.2)
  grew_done w n (events.Call c kind payload) r s = keeps_grew w n (keeps_calls w n c kind (content_of payload) s.0 s.2)
  grew_done w n (events.Up c many) r s = keeps_grew w n (keeps_up w n c many s.0)
  grew_done w n (events.Down c many) r s = keeps_grew w n (keeps_then w s.0 n (keeps_down w s.0 c many s.1) (rw s.5 (keeps_shuts s.0 _ stays refl)))
  grew_done w n (events.Answer c i) r (inl s) = keeps_grew w n (keeps_answers does stops w n c i (Ok s.0) s.2)
  grew_done w n (events.Answer c i) r (inr s) = keeps_grew w n (keeps_answers does stops w n c i _ s.2)
  grew_done w n (events.CutUp c) r s = keeps_grew w n (keeps_cut_up w n c s.1)
  grew_done w n (events.CutDown c) r s = keeps_grew w n (keeps_cut_down w n c s.1)
  grew_done w n events.Clear r s = keeps_grew w n (rw s.1 (keeps_shuts w (cleared_world w) (shuts_all_cut w.pool.idle w.conns) refl))
  grew_done w n events.Restart r s = keeps_grew w n (rw s.1 (keeps_shuts w (restarted_world w) (shuts_restarted w.conns) refl))
  grew_done w n events.RawOpen r s = grew_opened w n (drawn w.pool) s.0 (new_raw_conn l s.0) s.2 (ap next_after s.2) s.3
  grew_done w n (events.Raw c bytes) r s = keeps_grew w n (keeps_raw w n c bytes.now s.0)
  grew_done w n (events.RawTake c many) r s = keeps_grew w n (keeps_gives w n c many s.0)

  grew_refused : (w n : World H) (e : Event) (r : WorldRefusal) → IsRefused l w e r n → Keeps w n
  grew_refused w n e refusals.NoConnection s = keeps_same w n s.0
  grew_refused w n e refusals.Cut s = keeps_same w n s.0
  grew_refused w n e refusals.NotLent s = keeps_same w n s.0
  grew_refused w n e refusals.Full s = keeps_same w n s.0
  grew_refused w n e (refusals.Call r) s = keeps_same w n s.0
  grew_refused w n e (refusals.Answer r) s = keeps_same w n s.0
  grew_refused w n e refusals.Raw s = keeps_same w n s.0
  grew_refused w n e refusals.NotRaw s = keeps_same w n s.0
  grew_refused w n e refusals.OutOfMemory (before, inl s) = keeps_same w n s.0
  grew_refused w n e refusals.OutOfMemory (before, inr s) = keeps_out l w n e s

  pub grew_event : (w n : World H) (e : Event) (r : Result Report WorldRefusal) → Happens does stops l w e r n → Grew w n
  grew_event w n e (Ok report) s = grew_done w n e report s.1
  grew_event w n e (Err refusal) s = keeps_grew w n (grew_refused w n e refusal s)

  -- over any run
  pub grows_run : (es : List Event) (w n : World H) → Run does stops l w es n → Grows w.conns n.conns
  grows_run [] w n s = grows_same w.conns n.conns (ap (λ (z : World H). z.conns) s)
  grows_run (e ∷ es) w n s = grows_then w.conns s.0.conns n.conns (grew_event w s.0 e s.1.0 s.1.1).there (grows_run es s.0 n s.2)

  -- the next number stays the number after the last
  pub grew_run : (es : List Event) (w n : World H) → Run does stops l w es n → NextIs w → NextIs n
  grew_run [] w n s next = rw s next
  grew_run (e ∷ es) w n s next = grew_run es s.0 n s.2 ((grew_event w s.0 e s.1.0 s.1.1).next next)

  raw_step : (m n : Machine H) → machine.Step H does stops m n → (c : ℕ) → n.raw c ≡ m.raw c
  raw_step m n (machine.issue c' kind payload l e) c = ap (λ (z : Machine H). z.raw c) e
  raw_step m n (machine.arrive i x l at on f e) c = ap (λ (z : Machine H). z.raw c) e
  raw_step m n (machine.answer i x answers h at waits d e) c = ap (λ (z : Machine H). z.raw c) e
  raw_step m n (machine.log_lost i x answers h at waits loud d e) c = ap (λ (z : Machine H). z.raw c) e
  raw_step m n (machine.stop i x why h at waits s e) c = ap (λ (z : Machine H). z.raw c) e
  raw_step m n (machine.give_back i e' x due l at f e) c = ap (λ (z : Machine H). z.raw c) e
  raw_step m n (machine.client_lost c' e) c = ap (λ (z : Machine H). z.raw c) e
  raw_step m n (machine.server_lost c' e) c = ap (λ (z : Machine H). z.raw c) e
  raw_step m n (machine.appear c' ask raw l e) c = ap (λ (z : Machine H). z.raw c) e

  -- it stays the same which connections are raw
  pub raw_steps : (m n : Machine H) → machine.Steps H does stops m n → (c : ℕ) → n.raw c ≡ m.raw c
  raw_steps m n machine.stay c = refl
  raw_steps m n (machine.go {n = mid} ss s) c = raw_step mid n s c ∙ raw_steps m mid ss c
