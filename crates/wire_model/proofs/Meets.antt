-- The owners of the ends have a run in common: deed after deed.
use Rattle.std.proofs.Common.{◌≡◌, ℕ, ◌≤◌, List, [], ◌∷◌, ◌++◌, length, refl, sym, ◌∙◌, ap, subst, Option, Some, None, inl, inr}
use Rattle.std.specs.Prelude.{if◌then◌else◌, slice_get}
use Rattle.std.proofs.lemmas.List.{append-nil}
use Rattle.std.proofs.lemmas.Option.{none-some}
use Rattle.wire_peer.specs.{Does, Stops}
use Rattle.wire_model.proofs.ConnCalls.{is_elsewhere, is_here}
use Rattle.wire_model.proofs.Lists.{same_or_not}
use Rattle.wire_model.specs.Channels.{Pair, Steps, System, no_pairs, pair_at}
use Rattle.wire_model.specs.Channels as channels
use Rattle.wire_model.specs.Owners.{Answers, Calls, Collects, EndsDown, EndsUp, SendsDown, SendsUp, TakesDown, TakesUp, ClientAct, ClientDoes, ClientEnd, ClientRun, ServerEnds}
use Rattle.wire_model.specs.Deeds.{Arrive, AtClient, AtServer, Deed, ServersRun, acts_at, at_one}
use Rattle.wire_model.proofs.Fits.{Fit, FitStep, end_far, end_here, end_one, free_way, one_far}
use Rattle.wire_model.proofs.Flights.{Balanced, client_sent_on, client_still, client_took_on, server_sent_on, server_still, server_took_on}
use Rattle.wire_model.proofs.Deeds.{client_calls, client_collects, client_ends, client_sends, client_takes, server_answers, server_ends, server_sends, server_takes}

module _ (H : Type 0) (does : Does H) (stops : Stops H) (limit : ℕ) where
  module _ (k : ℕ) (first : H) (finals : ℕ → ClientEnd) (last : ServerEnds H) where
    abbrev pub HasAll : System H → Type 0
    HasAll s = (c : ℕ) → 1 ≤ c → c ≤ k → (p : Pair) × (pair_at s.pairs c ≡ Some p)

    pub record Met : Type 0 where
      pub final : System H
      pub steps : Steps H does stops limit (no_pairs first) final
      pub up : ℕ → List ℕ
      pub down : ℕ → List ℕ
      pub fits : Fit final finals last up down
      pub all : HasAll final

    -- what is known of a system that is on the way
    pub record OnWay (s : System H) (ends : ℕ → ClientEnd) (ss : ServerEnds H) (up down : ℕ
        → List ℕ) : Type 0 where
      pub steps : Steps H does stops limit (no_pairs first) s
      pub fits : Fit s ends ss up down
      pub all : HasAll s

    further : (s : System H) (ends ends' : ℕ
        → ClientEnd) (ss ss' : ServerEnds H) (up down up' down' : ℕ → List ℕ)
        → OnWay s ends ss up down → (g : FitStep H does stops limit s ends' ss' up' down')
        → OnWay g.next ends' ss' up' down'
    further s ends ends' ss ss' up down up' down' w g = record {
      steps = channels.go w.steps g.step;
      fits = g.fits;
      all = λ c least most. let p = w.all c
          least most in g.pairs c p.0 p.1;
    }

    -- a deed at the client of no pair
    nowhere : (s : System H) (ends : ℕ → ClientEnd) (ss : ServerEnds H) (up down up' down' : ℕ
        → List ℕ) (c : ℕ) (mid : ClientEnd) → OnWay s ends ss up down → pair_at s.pairs c ≡ None
        → ((d : ℕ) → (d ≡ c → ⊥) → (up' d ≡ up d) × (down' d ≡ down d))
        → OnWay s (end_one ends c mid) ss up' down'
    nowhere s ends ss up down up' down' c mid w none far = record {
      steps = w.steps;
      all = w.all;
      fits = record {
        pairs = λ d p at.
            let n : d ≡ c
            → ⊥ = (λ e. none-some p (sym none ∙ ap (pair_at s.pairs) (sym e) ∙ at)) in
            let old = w.fits.pairs d p at in
            let a = far d n in
            let e = end_far ends c d mid n in
            record {
              client = ap (λ (z : ClientEnd). z.client) e ∙ old.client;
              server_is = old.server_is;
              up_is = old.up_is ∙ ap free_way (sym a.0);
              down_is = old.down_is ∙ ap free_way (sym a.1);
              own =
                  λ m i g. let v = old.own m i g in
                  (v.0, v.1, v.2, ap (λ (z : ClientEnd). slice_get z.records m) e ∙ v.3);
              many = ap (λ (z : ClientEnd). length z.records) e ∙ old.many;
              once = old.once;
            };
        served = w.fits.served;
        log = w.fits.log;
        handler = w.fits.handler;
      };
    }

    abbrev pub Runs : (ℕ → ClientEnd) → List Deed → Type 0
    Runs ends deeds = (c : ℕ) → ClientRun c (ends c) (acts_at c deeds) (finals c)

    -- a deed of the owner of a client, and the others
    on_client : {R : Type 0} (deeds : List Deed) (c : ℕ) (act : ClientAct) (s : System H) (ends : ℕ
        → ClientEnd) (ss : ServerEnds H) (up down up' down' : ℕ → List ℕ)
        → OnWay s ends ss up down → Runs ends (AtClient c act ∷ deeds)
        → ((d : ℕ) → (d ≡ c → ⊥) → (up' d ≡ up d) × (down' d ≡ down d))
        → ((p : Pair) → pair_at s.pairs c ≡ Some p → (mid : ClientEnd)
        → ClientDoes c act (ends c) mid
        → FitStep H does stops limit s (end_one ends c mid) ss up' down')
        → ((s' : System H) (ends' : ℕ → ClientEnd) → OnWay s' ends' ss up' down'
        → Runs ends' deeds → R) → R
    on_client {R} deeds c act s ends ss up down up' down' w runs far step more =
        by (pair_at s.pairs c) refl
      where
        mine : ClientRun c (ends c) (act ∷ acts_at c deeds) (finals c)
        mine =
            subst (λ b. ClientRun c (ends c) (if b then act ∷ acts_at c deeds else acts_at c deeds)
            (finals c)) (is_here c c refl) (runs c)

        others : Runs (end_one ends c mine.0) deeds
        others d = elim (same_or_not d c) [
          | inl e ↦ (rw (e, end_here ends c mine.0) mine.2)
          | inr n ↦ (rw (end_far ends c d mine.0 n)
              (subst (λ b. ClientRun d (ends d) (if b then act ∷ acts_at d deeds else acts_at d
              deeds) (finals d)) (is_elsewhere d c (λ e. n (sym e))) (runs d)))
        ]

        by : (o : Option Pair) → pair_at s.pairs c ≡ o → R
        by None at =
            more s (end_one ends c mine.0) (nowhere s ends ss up down up' down' c mine.0 w at far)
            others
        by (Some p) at =
            let g = step p at mine.0 mine.1 in more g.next (end_one ends c mine.0)
            (further s ends (end_one ends c mine.0) ss ss up down up' down' w g) others

    pub meet : (deeds : List Deed) (s : System H) (ends : ℕ → ClientEnd) (ss : ServerEnds H)
        (up down : ℕ → List ℕ) → OnWay s ends ss up down → Runs ends deeds
        → ServersRun does stops ss deeds last → Arrive up down deeds
        → (met : Met) × Balanced up down met.up met.down deeds
    meet [] s ends ss up down w runs served arrive = (
      record {
        final = s;
        steps = w.steps;
        up = up;
        down = down;
        fits =
            subst (λ z. Fit s finals z up down) (sym served)
            (subst (λ (z : ℕ → ClientEnd). Fit s z ss up down) (λ i c. sym (runs c) i) w.fits);
        all = w.all;
      },
      λ c. (append-nil (up c), append-nil (down c)),
    )
    meet (AtClient c (Calls kind payload number) ∷ deeds) s ends ss up down w runs served arrive =
        on_client deeds c (Calls kind payload number) s ends ss up down up down w runs
        (λ d n. (refl, refl))
        (λ p at mid a. client_calls H does stops limit s ends ss up down w.fits c p at kind payload
        number mid a)
        (λ s' ends' w' runs'.
        let r = meet deeds s' ends' ss up down w' runs' served arrive in (
          r.0,
          client_still deeds up down r.0.up r.0.down c (Calls kind payload number) refl refl
              r.1,
        ))
    meet (AtClient c (SendsUp bytes) ∷ deeds) s ends ss up down w runs served arrive =
        let up' : ℕ → List ℕ = at_one up c (up c ++ bytes) in
        on_client deeds c (SendsUp bytes) s ends ss up down up' down w runs
        (λ d n. (one_far up c d (up c ++ bytes) n, refl))
        (λ p at mid a. client_sends H does stops limit s ends ss up down w.fits c p at bytes mid a)
        (λ s' ends' w' runs'.
        let r = meet deeds s' ends' ss up' down w' runs' served arrive in
        (r.0, client_sent_on deeds up down r.0.up r.0.down c bytes r.1))
    meet (AtClient c (TakesDown bytes) ∷ deeds) s ends ss up down w runs served
        (rest, is, arrive) =
        let down' : ℕ → List ℕ = at_one down c rest in
        on_client deeds c (TakesDown bytes) s ends ss up down up down' w runs
        (λ d n. (refl, one_far down c d rest n))
        (λ p at mid a. client_takes H does stops limit s ends ss up down w.fits c p at bytes rest
        mid is a)
        (λ s' ends' w' runs'.
        let r = meet deeds s' ends' ss up down' w' runs' served arrive in
        (r.0, client_took_on deeds up down r.0.up r.0.down c bytes rest is r.1))
    meet (AtClient c (Collects reply m) ∷ deeds) s ends ss up down w runs served arrive =
        on_client deeds c (Collects reply m) s ends ss up down up down w runs
        (λ d n. (refl, refl))
        (λ p at mid a. client_collects H does stops limit s ends ss up down w.fits c p at reply m
        mid a)
        (λ s' ends' w' runs'.
        let r = meet deeds s' ends' ss up down w' runs' served arrive in
        (r.0, client_still deeds up down r.0.up r.0.down c (Collects reply m) refl refl r.1))
    meet (AtClient c EndsDown ∷ deeds) s ends ss up down w runs served arrive =
        on_client deeds c EndsDown s ends ss up down up down w runs
        (λ d n. (refl, refl))
        (λ p at mid a. client_ends H does stops limit s ends ss up down w.fits c p at mid a)
        (λ s' ends' w' runs'.
        let r = meet deeds s' ends' ss up down w' runs' served arrive in
        (r.0, client_still deeds up down r.0.up r.0.down c EndsDown refl refl r.1))
    meet (AtServer c (TakesUp bytes) ∷ deeds) s ends ss up down w runs (mid, a, served)
        (rest, is, arrive) =
        let p = w.fits.served c a.s a.at in
        let up' : ℕ → List ℕ = at_one up c rest in
        let g =
        server_takes H does stops limit s ends ss up down w.fits c p.0 p.1 bytes rest mid is a in
        let r =
        meet deeds g.next ends mid up' down (further s ends ends ss mid up down up' down w g) runs
        served arrive in
        (r.0, server_took_on deeds up down r.0.up r.0.down c bytes rest is r.1)
    meet (AtServer c (Answers i result) ∷ deeds) s ends ss up down w runs (mid, a, served) arrive =
        let p = w.fits.served c a.s a.at in
        let g =
        server_answers H does stops limit s ends ss up down w.fits c p.0 p.1 i result mid a in
        let r =
        meet deeds g.next ends mid up down (further s ends ends ss mid up down up down w g) runs
        served arrive in
        (r.0, server_still deeds up down r.0.up r.0.down c (Answers i result) refl refl r.1)
    meet (AtServer c (SendsDown bytes) ∷ deeds) s ends ss up down w runs (mid, a, served) arrive =
        let p = w.fits.served c a.s a.at in
        let down' : ℕ → List ℕ = at_one down c (down c ++ bytes) in
        let g = server_sends H does stops limit s ends ss up down w.fits c p.0 p.1 bytes mid a in
        let r =
        meet deeds g.next ends mid up down' (further s ends ends ss mid up down up down' w g) runs
        served arrive in
        (r.0, server_sent_on deeds up down r.0.up r.0.down c bytes r.1)
    meet (AtServer c EndsUp ∷ deeds) s ends ss up down w runs (mid, a, served) arrive =
        let p = w.fits.served c a.s a.at in
        let g = server_ends H does stops limit s ends ss up down w.fits c p.0 p.1 mid a in
        let r =
        meet deeds g.next ends mid up down (further s ends ends ss mid up down up down w g) runs
        served arrive in
        (r.0, server_still deeds up down r.0.up r.0.down c EndsUp refl refl r.1)
