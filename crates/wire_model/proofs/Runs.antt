-- The world shows a state of the machine, event after event.
use Rattle.std.proofs.Common.{◌≡◌, ℕ, ◌<◌, ◌^◌, false, List, [], ◌∷◌, ◌++◌, refl, sym, ◌∙◌, ap, append_assoc, Some, inl, inr, Result, Ok, Err}
use Rattle.std.proofs.lemmas.List.{append-nil}
use Rattle.std.proofs.lemmas.Option.{same_Some}
use Rattle.wire_peer.specs.{Does, Stops}
use Rattle.wire_model.specs.declared.events.Event.{Event}
use Rattle.wire_model.specs.declared.events.Event.TheVariants as events
use Rattle.wire_model.specs.declared.limits.WorldLimits.{WorldLimits}
use Rattle.wire_model.specs.declared.refusals.WorldRefusal.{WorldRefusal}
use Rattle.wire_model.specs.declared.refusals.WorldRefusal.TheVariants as refusals
use Rattle.wire_model.specs.declared.reports.Report.{Report}
use Rattle.wire_model.specs.Conns.{AreGood, Conn, World, conn_at}
use Rattle.wire_model.specs.Cuts.{dropped}
use Rattle.wire_model.specs.Hostile.{given, given_in, taken, taken_in}
use Rattle.wire_model.specs.Machines.{Machine, stay}
use Rattle.wire_model.specs.Moves.{MovesDown, TakesUncopied, joined}
use Rattle.wire_model.specs.Happening.{Happens, IsMaking, PartDone, Run, RunsOut}
use Rattle.wire_model.proofs.Agreeing.{Agrees, Follows, agrees_at}
use Rattle.wire_model.proofs.Begun.{RawsAre, followed_opens, followed_raw_open}
use Rattle.wire_model.proofs.EachEvent.{followed_answers, followed_calls, followed_clear, followed_closes, followed_cut_down, followed_cut_up, followed_down, followed_dropped, followed_gives, followed_restart, followed_returns, followed_settled, followed_takes_raw, followed_up, joint, only}
use Rattle.wire_model.proofs.Grows.{Grows, NextIs, grew_event, grows_run, raw_steps}
use Rattle.wire_model.proofs.Places.{conn_set-same}
use Rattle.wire_model.proofs.Reaches.{steps_then}
use Rattle.wire_model.proofs.Wanting.{followed_uncopied}

module _ (H : Type 0) (does : Does H) (stops : Stops H) (l : WorldLimits) (good : AreGood l) (short : l.limit < 2 ^ 31) where
  pub and_then : (t t' t'' g g' g'' : ℕ → List ℕ) (m : Machine H) (n o : World H) (first : Follows H does stops l.limit t g m n) → Follows H does stops l.limit t' g' first.next o → ((c : ℕ) → t'' c ≡ t' c) → ((c : ℕ) → g'' c ≡ g' c) → Follows H does stops l.limit t'' g'' m o
  and_then t t' t'' g g' g'' m n o first second e f = record {
    next = second.next;
    steps = steps_then H does stops m first.next second.next first.steps second.steps;
    agrees = agrees_at l.limit t' t'' g' g'' o second.next e f second.agrees;
  }

  as_said : (t t' g g' : ℕ → List ℕ) (m : Machine H) (n : World H) → Follows H does stops l.limit t g m n → ((c : ℕ) → t' c ≡ t c) → ((c : ℕ) → g' c ≡ g c) → Follows H does stops l.limit t' g' m n
  as_said t t' g g' m n first e f = record { next = first.next; steps = first.steps; agrees = agrees_at l.limit t t' g g' n first.next e f first.agrees }

  module _ (t g : ℕ → List ℕ) where
    -- nothing was taken or given
    no_more : (m : Machine H) (n : World H) → Follows H does stops l.limit t g m n → Follows H does stops l.limit (λ c. t c ++ []) (λ c. g c ++ []) m n
    no_more m n f = as_said t (λ c. t c ++ []) g (λ c. g c ++ []) m n f (λ c. append-nil (t c)) (λ c. append-nil (g c))

    nothing_done : (w n : World H) (m : Machine H) → Agrees l.limit t g w m → n ≡ w → Follows H does stops l.limit t g m n
    nothing_done w n m a e = rw e (record { next = m; steps = stay; agrees = a })

    followed_done : (w n : World H) (m : Machine H) (e : Event) (r : Report) → NextIs w → Agrees l.limit t g w m → RawsAre n.conns m → (s : Happens does stops l w e (Ok r) n)
        → Follows H does stops l.limit (λ c. t c ++ taken_in does stops l c w n e (Ok r) s) (λ c. g c ++ given_in does stops l c w n e (Ok r) s) m n
    followed_done w n m events.Open r next a raw s = no_more m n (followed_opens H does stops l good t g w n m s.1.0 s.1.1 next a raw s.1.3)
    followed_done w n m (events.Return c) r next a raw s = no_more m n (followed_returns H does stops l.limit short t g w n m c s.1.0 a s.1.2)
    followed_done w n m (events.Call c kind payload) r next a raw s = no_more m n (followed_calls H does stops l.limit short t g w n m c kind payload s.1.0 a s.1.2)
    followed_done w n m (events.Up c many) r next a raw s = no_more m n (followed_up H does stops l.limit short t g w n m c many a s.1.0)
    followed_done w n m (events.Down c many) r next a raw s = no_more m n (followed_settled H does stops l.limit short t g s.1.0 n m (followed_down H does stops l.limit short t g w s.1.0 m c many a s.1.1) s.1.5)
    followed_done w n m (events.Answer c i) r next a raw (before, inl s) = no_more m n (followed_answers H does stops l.limit short t g w n m c i s.0 a s.2)
    followed_done w n m (events.Answer c i) r next a raw (before, inr s) = no_more m n (followed_closes H does stops l.limit short t g w n m c i s.0 a s.2)
    followed_done w n m (events.CutUp c) r next a raw s = no_more m n (followed_cut_up H does stops l.limit short t g w n m c a s.1.1)
    followed_done w n m (events.CutDown c) r next a raw s = no_more m n (followed_cut_down H does stops l.limit short t g w n m c a s.1.1)
    followed_done w n m events.Clear r next a raw s = no_more m n (followed_clear H does stops l.limit short t g w n m a s.1.1)
    followed_done w n m events.Restart r next a raw s = no_more m n (followed_restart H does stops l.limit short t g w n m a s.1.1)
    followed_done w n m events.RawOpen r next a raw s = no_more m n (followed_raw_open H does stops l good t g w n m _ s.1.0 next s.1.2 a raw s.1.3)
    followed_done w n m (events.Raw c bytes) r next a raw s = as_said (joint t (only c (joined s.1.0.pieces))) (joint t (only c (joined s.1.0.pieces))) g (λ d. g d ++ []) m n (followed_takes_raw H does stops l.limit short t g w n m c bytes.now a s.1.0) (λ d. refl) (λ d. append-nil (g d))
    followed_done w n m (events.RawTake c many) r next a raw s = as_said t (λ d. t d ++ []) (joint g (only c s.1.0.bytes)) (joint g (only c s.1.0.bytes)) m n (followed_gives H does stops l.limit short t g w n m c many a s.1.0) (λ d. append-nil (t d)) (λ d. refl)

    -- ---- refusals

    abbrev NotMemory : WorldRefusal → Type 0
    NotMemory refusals.OutOfMemory = ⊥
    NotMemory r = Unit {0}

    none_taken : (c : ℕ) (w n : World H) (e : Event) (r : WorldRefusal) (s : Happens does stops l w e (Err r) n) → NotMemory r → taken_in does stops l c w n e (Err r) s ≡ []
    none_taken c w n events.Open r s p = refl
    none_taken c w n (events.Return d) r s p = refl
    none_taken c w n (events.Call d kind payload) r s p = refl
    none_taken c w n (events.Up d many) r s p = refl
    none_taken c w n (events.Down d many) r s p = refl
    none_taken c w n (events.Answer d i) r s p = refl
    none_taken c w n (events.CutUp d) r s p = refl
    none_taken c w n (events.CutDown d) r s p = refl
    none_taken c w n events.Clear r s p = refl
    none_taken c w n events.Restart r s p = refl
    none_taken c w n events.RawOpen r s p = refl
    none_taken c w n (events.Raw d bytes) refusals.NoConnection s p = refl
    none_taken c w n (events.Raw d bytes) refusals.Cut s p = refl
    none_taken c w n (events.Raw d bytes) refusals.NotLent s p = refl
    none_taken c w n (events.Raw d bytes) refusals.Full s p = refl
    none_taken c w n (events.Raw d bytes) (refusals.Call r) s p = refl
    none_taken c w n (events.Raw d bytes) (refusals.Answer r) s p = refl
    none_taken c w n (events.Raw d bytes) refusals.OutOfMemory s p = absurd p
    none_taken c w n (events.Raw d bytes) refusals.Raw s p = refl
    none_taken c w n (events.Raw d bytes) refusals.NotRaw s p = refl
    none_taken c w n (events.RawTake d many) r s p = refl

    none_given : (c : ℕ) (w n : World H) (e : Event) (r : WorldRefusal) (s : Happens does stops l w e (Err r) n) → given_in does stops l c w n e (Err r) s ≡ []
    none_given c w n events.Open r s = refl
    none_given c w n (events.Return d) r s = refl
    none_given c w n (events.Call d kind payload) r s = refl
    none_given c w n (events.Up d many) r s = refl
    none_given c w n (events.Down d many) r s = refl
    none_given c w n (events.Answer d i) r s = refl
    none_given c w n (events.CutUp d) r s = refl
    none_given c w n (events.CutDown d) r s = refl
    none_given c w n events.Clear r s = refl
    none_given c w n events.Restart r s = refl
    none_given c w n events.RawOpen r s = refl
    none_given c w n (events.Raw d bytes) r s = refl
    none_given c w n (events.RawTake d many) r s = refl

    -- a refusal leaves the world as it is
    left_alone : (w n : World H) (m : Machine H) (e : Event) (r : WorldRefusal) (s : Happens does stops l w e (Err r) n) → NotMemory r → Agrees l.limit t g w m → n ≡ w
        → Follows H does stops l.limit (λ c. t c ++ taken_in does stops l c w n e (Err r) s) (λ c. g c ++ given_in does stops l c w n e (Err r) s) m n
    left_alone w n m e r s p a is = as_said t (λ c. t c ++ taken_in does stops l c w n e (Err r) s) g (λ c. g c ++ given_in does stops l c w n e (Err r) s) m n (nothing_done w n m a is)
        (λ c. ap (λ b. t c ++ b) (none_taken c w n e r s p) ∙ append-nil (t c)) (λ c. ap (λ b. g c ++ b) (none_given c w n e r s) ∙ append-nil (g c))

    -- ---- out of memory

    -- an event that makes a connection changes nothing
    not_made : (w n : World H) (m : Machine H) (e : Event) (before : _) (s : (n ≡ w) × IsMaking w e) → Agrees l.limit t g w m
        → Follows H does stops l.limit (λ c. t c ++ taken_in does stops l c w n e (Err refusals.OutOfMemory) (before, inl s)) (λ c. g c ++ given_in does stops l c w n e (Err refusals.OutOfMemory) (before, inl s)) m n
    not_made w n m events.Open before s a = no_more m n (nothing_done w n m a s.0)
    not_made w n m events.RawOpen before s a = no_more m n (nothing_done w n m a s.0)
    not_made w n m (events.Return c) before s a = absurd s.1
    not_made w n m (events.Call c kind payload) before s a = absurd s.1
    not_made w n m (events.Up c many) before s a = absurd s.1
    not_made w n m (events.Down c many) before s a = absurd s.1
    not_made w n m (events.Answer c i) before s a = absurd s.1
    not_made w n m (events.CutUp c) before s a = absurd s.1
    not_made w n m (events.CutDown c) before s a = absurd s.1
    not_made w n m events.Clear before s a = absurd s.1
    not_made w n m events.Restart before s a = absurd s.1
    not_made w n m (events.Raw c bytes) before s a = absurd s.1
    not_made w n m (events.RawTake c many) before s a = absurd s.1

    -- the event does what it can, and then the connection is dropped
    drops : (t' : ℕ → List ℕ) (done n : World H) (m : Machine H) (c : ℕ) → Follows H does stops l.limit t' g m done → n ≡ dropped done c → Follows H does stops l.limit t' g m n
    drops t' done n m c f e = and_then t' t' t' g g g m done n f (followed_dropped H does stops l.limit short t' g done n f.next c f.agrees e) (λ d. refl) (λ d. refl)

    drops_uncopied : (w mid done n : World H) (m : Machine H) (c d many left : ℕ) → Agrees l.limit t g w m → MovesDown w c many mid → TakesUncopied mid c left done → Some c ≡ Some d → n ≡ dropped done d → Follows H does stops l.limit t g m n
    drops_uncopied w mid done n m c d many left a s u is e =
        let f = followed_down H does stops l.limit short t g w mid m c many a s in
        let here : conn_at mid.conns c ≡ Some _ = ap (λ (z : World H). conn_at z.conns c) s.after ∙ conn_set-same w.conns c s.k _ s.at in
        let raw : u.k.raw ≡ false = ap (λ (z : Conn). z.raw) (same_Some u.k _ (sym u.at ∙ here)) ∙ s.honest in
        and_then t t t g g g m mid n f (followed_uncopied H does stops l.limit t g mid done n f.next c left f.agrees u raw (e ∙ ap (λ z. dropped done z) (sym (same_Some c d is)))) (λ d. refl) (λ d. refl)

    ran_out : (w n : World H) (m : Machine H) (e : Event) (before : _) (s : RunsOut l w e n) → Agrees l.limit t g w m
        → Follows H does stops l.limit (λ c. t c ++ taken_in does stops l c w n e (Err refusals.OutOfMemory) (before, inr s)) (λ c. g c ++ given_in does stops l c w n e (Err refusals.OutOfMemory) (before, inr s)) m n
    ran_out w n m (events.Call c kind payload) before s a = no_more m n (drops t s.done n m s.c (nothing_done w s.done m a s.part) s.after)
    ran_out w n m (events.Up c many) before s a = no_more m n (drops t s.done n m s.c (followed_up H does stops l.limit short t g w s.done m c many a s.part.0) s.after)
    ran_out w n m (events.Down c many) before s a = no_more m n (by s.part)
      where
        by : PartDone l w (events.Down c many) s.done → Follows H does stops l.limit t g m n
        by (inl p) = drops t s.done n m s.c (followed_down H does stops l.limit short t g w s.done m c many a p.0) s.after
        by (inr p) = drops_uncopied w p.0 s.done n m c s.c many _ a p.1 p.2 s.is s.after
    ran_out w n m (events.Answer c i) before s a = no_more m n (drops t s.done n m s.c (nothing_done w s.done m a s.part) s.after)
    ran_out w n m (events.Raw c bytes) before s a = as_said (joint t (only c (joined s.part.0.pieces))) (joint t (only c (joined s.part.0.pieces))) g (λ d. g d ++ []) m n
        (drops (joint t (only c (joined s.part.0.pieces))) s.done n m s.c (followed_takes_raw H does stops l.limit short t g w s.done m c bytes.now a s.part.0) s.after) (λ d. refl) (λ d. append-nil (g d))
    ran_out w n m (events.RawTake c many) before s a = no_more m n (drops t s.done n m s.c (nothing_done w s.done m a s.part.0) s.after)
    ran_out w n m events.Open before s a = absurd s.part
    ran_out w n m (events.Return c) before s a = absurd s.part
    ran_out w n m (events.CutUp c) before s a = absurd s.part
    ran_out w n m (events.CutDown c) before s a = absurd s.part
    ran_out w n m events.Clear before s a = absurd s.part
    ran_out w n m events.Restart before s a = absurd s.part
    ran_out w n m events.RawOpen before s a = absurd s.part

    -- one event
    followed : (w n : World H) (m : Machine H) (e : Event) (r : Result Report WorldRefusal) → NextIs w → Agrees l.limit t g w m → RawsAre n.conns m → (s : Happens does stops l w e r n)
        → Follows H does stops l.limit (λ c. t c ++ taken_in does stops l c w n e r s) (λ c. g c ++ given_in does stops l c w n e r s) m n
    followed w n m e (Ok report) next a raw s = followed_done w n m e report next a raw s
    followed w n m e (Err refusals.NoConnection) next a raw s = left_alone w n m e refusals.NoConnection s tt a s.0
    followed w n m e (Err refusals.Cut) next a raw s = left_alone w n m e refusals.Cut s tt a s.0
    followed w n m e (Err refusals.NotLent) next a raw s = left_alone w n m e refusals.NotLent s tt a s.0
    followed w n m e (Err refusals.Full) next a raw s = left_alone w n m e refusals.Full s tt a s.0
    followed w n m e (Err (refusals.Call r)) next a raw s = left_alone w n m e (refusals.Call r) s tt a s.0
    followed w n m e (Err (refusals.Answer r)) next a raw s = left_alone w n m e (refusals.Answer r) s tt a s.0
    followed w n m e (Err refusals.Raw) next a raw s = left_alone w n m e refusals.Raw s tt a s.0
    followed w n m e (Err refusals.NotRaw) next a raw s = left_alone w n m e refusals.NotRaw s tt a s.0
    followed w n m e (Err refusals.OutOfMemory) next a raw (before, inl s) = not_made w n m e before s a
    followed w n m e (Err refusals.OutOfMemory) next a raw (before, inr s) = ran_out w n m e before s a

  pub raws_before : (ks js : List Conn) (m : Machine H) → Grows ks js → RawsAre js m → RawsAre ks m
  raws_before ks js m grows raw c k at = let p = grows c k at in sym p.2 ∙ raw c p.0 p.1

  -- every list of events
  pub followed_run : (t g : ℕ → List ℕ) (es : List Event) (w n : World H) (m : Machine H) → NextIs w → Agrees l.limit t g w m → RawsAre n.conns m → (s : Run does stops l w es n)
      → Follows H does stops l.limit (λ c. t c ++ taken does stops l c w n es s) (λ c. g c ++ given does stops l c w n es s) m n
  followed_run t g [] w n m next a raw s = no_more t g m n (nothing_done t g w n m a s)
  followed_run t g (e ∷ es) w n m next a raw s =
      let u : ℕ → List ℕ = (λ c. t c ++ taken_in does stops l c w s.0 e s.1.0 s.1.1) in
      let v : ℕ → List ℕ = (λ c. g c ++ given_in does stops l c w s.0 e s.1.0 s.1.1) in
      let one = followed t g w s.0 m e s.1.0 next a (raws_before s.0.conns n.conns m (grows_run does stops l es s.0 n s.2) raw) s.1.1 in
      and_then u (λ c. u c ++ taken does stops l c s.0 n es s.2) (λ c. t c ++ (taken_in does stops l c w s.0 e s.1.0 s.1.1 ++ taken does stops l c s.0 n es s.2))
      v (λ c. v c ++ given does stops l c s.0 n es s.2) (λ c. g c ++ (given_in does stops l c w s.0 e s.1.0 s.1.1 ++ given does stops l c s.0 n es s.2)) m s.0 n one
      (followed_run u v es s.0 n one.next ((grew_event does stops l w s.0 e s.1.0 s.1.1).next next) one.agrees (λ c k at. raw c k at ∙ sym (raw_steps does stops l m one.next one.steps c)) s.2)
      (λ c. sym (append_assoc (t c) (taken_in does stops l c w s.0 e s.1.0 s.1.1) (taken does stops l c s.0 n es s.2)))
      (λ c. sym (append_assoc (g c) (given_in does stops l c w s.0 e s.1.0 s.1.1) (given does stops l c s.0 n es s.2)))
