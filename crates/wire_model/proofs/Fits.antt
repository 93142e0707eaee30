-- A system fits what the owners of its ends hold.
use Rattle.std.proofs.Common.{◌≡◌, ℕ, zero, suc, ◌<◌, List, [], ◌∷◌, length, refl, sym, ◌∙◌, ap, arith, Option, Some, None, ◌⊎◌, inl, inr}
use Rattle.std.specs.Prelude.{◌==◌, if◌then◌else◌, slice_get}
use Rattle.std.proofs.lemmas.Option.{none-some, same_Some}
use Rattle.wire_peer.specs.{Does, ServerView, Stops}
use Rattle.wire_model.specs.Conns.{Record}
use Rattle.wire_model.proofs.Lists.{get-set_other, get-set_same, same_or_not}
use Rattle.wire_model.proofs.ConnCalls.{is_elsewhere, is_here}
use Rattle.wire_model.specs.Channels.{Pair, Step, System, Way, pair_at, pair_set}
use Rattle.wire_model.specs.Owners.{ClientEnd, ServerEnds, server_at, server_set}
use Rattle.wire_model.specs.Deeds.{at_one}
use Rattle.wire_model.proofs.Pairs.{pair_set-other, pair_set-same}

abbrev pub free_way : List ℕ → Way
free_way bytes = record { bytes = bytes; left = None }

-- ---- one of many

abbrev pub end_one : (ℕ → ClientEnd) → ℕ → ClientEnd → ℕ → ClientEnd
end_one f c e d = if d == c then e else f d

pub end_here : (f : ℕ → ClientEnd) (c : ℕ) (e : ClientEnd) → end_one f c e c ≡ e
end_here f c e = ap (λ b. if b then e else f c) (is_here c c refl)

pub end_far : (f : ℕ → ClientEnd) (c d : ℕ) (e : ClientEnd) → (d ≡ c → ⊥) → end_one f c e d ≡ f d
end_far f c d e n = ap (λ b. if b then e else f d) (is_elsewhere c d n)

pub one_here : (f : ℕ → List ℕ) (c : ℕ) (e : List ℕ) → at_one f c e c ≡ e
one_here f c e = ap (λ b. if b then e else f c) (is_here c c refl)

pub one_far : (f : ℕ → List ℕ) (c d : ℕ) (e : List ℕ) → (d ≡ c → ⊥) → at_one f c e d ≡ f d
one_far f c d e n = ap (λ b. if b then e else f d) (is_elsewhere c d n)

pub server_set-same : (ss : List ServerView) (c : ℕ) (s s' : ServerView) → server_at ss c ≡ Some s
    → server_at (server_set ss c s') c ≡ Some s'
server_set-same ss zero s s' at = absurd (none-some s at)
server_set-same ss (suc i) s s' at = get-set_same ss i s s' at

pub server_set-other : (ss : List ServerView) (c d : ℕ) (s' : ServerView) → (d ≡ c → ⊥)
    → server_at (server_set ss c s') d ≡ server_at ss d
server_set-other ss zero d s' n = refl
server_set-other ss (suc i) zero s' n = refl
server_set-other ss (suc i) (suc j) s' n = get-set_other ss i j s' (λ e. n (ap suc e))

pub get_within : {A : Type 0} (xs : List A) (i : ℕ) → i < length xs → (x : A)
    × (slice_get xs i ≡ Some x)
get_within [] i lt = absurd (omega (arith, lt))
get_within (a ∷ xs) zero lt = (a, refl)
get_within (a ∷ xs) (suc i) lt = get_within xs i (omega (arith, lt))

-- ---- how a pair and its two owners fit

pub record PairFits (calls : List Record) (c : ℕ) (p : Pair) (e : ClientEnd)
    (server : Option ServerView) (up down : List ℕ) : Type 0 where
  pub client : e.client ≡ p.client
  pub server_is : server ≡ Some p.server
  pub up_is : p.up ≡ free_way up
  pub down_is : p.down ≡ free_way down
  pub own : (n i : ℕ) → slice_get p.calls n ≡ Some i → (x : Record) × (slice_get calls i ≡ Some x)
      × (x.connection ≡ c) × (slice_get e.records n ≡ Some x)
  pub many : length e.records ≡ length p.calls
  pub once : (n n' i : ℕ) → slice_get p.calls n ≡ Some i → slice_get p.calls n' ≡ Some i → n ≡ n'

pub record Fit {H : Type 0} (s : System H) (ends : ℕ → ClientEnd) (ss : ServerEnds H) (up down : ℕ
    → List ℕ) : Type 0 where
  pub pairs : (c : ℕ) (p : Pair) → pair_at s.pairs c ≡ Some p
      → PairFits s.calls c p (ends c) (server_at ss.servers c) (up c) (down c)
  pub served : (c : ℕ) (sv : ServerView) → server_at ss.servers c ≡ Some sv → (p : Pair)
      × (pair_at s.pairs c ≡ Some p)
  pub log : s.log ≡ ss.log
  pub handler : s.handler ≡ ss.handler

-- records of other connections stay
abbrev pub Stay : ℕ → List Record → List Record → Type 0
Stay c xs ys =
    (i : ℕ) (x : Record) → slice_get xs i ≡ Some x → (x.connection ≡ c → ⊥)
    → slice_get ys i ≡ Some x

module _ {H : Type 0} where
  pub fit_on : (s s' : System H) (ends ends' : ℕ
      → ClientEnd) (ss ss' : ServerEnds H) (up down up' down' : ℕ → List ℕ) (c : ℕ) (p q : Pair)
      → Fit s ends ss up down → pair_at s.pairs c ≡ Some p → s'.pairs ≡ pair_set s.pairs c q
      → PairFits s'.calls c q (ends' c) (server_at ss'.servers c) (up' c) (down' c)
      → ((d : ℕ) → (d ≡ c → ⊥) → (ends' d ≡ ends d)
      × (server_at ss'.servers d ≡ server_at ss.servers d) × (up' d ≡ up d)
      × (down' d ≡ down d))
      → Stay c s.calls s'.calls → s'.log ≡ ss'.log → s'.handler ≡ ss'.handler
      → Fit s' ends' ss' up' down'
  fit_on s s' ends ends' ss ss' up down up' down' c p q f at is here far stay log handler = record {
    pairs = λ d o at_o. by d o (sym (ap (λ ps. pair_at ps d) is) ∙ at_o) (same_or_not d c);
    served = λ d sv at_s. serves d sv at_s (same_or_not d c);
    log = log;
    handler = handler;
  }
    where
      by : (d : ℕ) (o : Pair) → pair_at (pair_set s.pairs c q) d ≡ Some o → (d ≡ c) ⊎ (d ≡ c → ⊥)
          → PairFits s'.calls d o (ends' d) (server_at ss'.servers d) (up' d) (down' d)
      by d o at_o (inl e) =
          let same : q ≡ o = same_Some q o (sym (pair_set-same s.pairs c p q at)
          ∙ ap (pair_at (pair_set s.pairs c q)) (sym e) ∙ at_o) in
          rw (e, ← same) here
      by d o at_o (inr n) =
          let old = f.pairs d o (sym (pair_set-other s.pairs c d q n) ∙ at_o) in
          let a = far d n in
          record {
            client = ap (λ (z : ClientEnd). z.client) a.0 ∙ old.client;
            server_is = a.1 ∙ old.server_is;
            up_is = old.up_is ∙ ap free_way (sym a.2);
            down_is = old.down_is ∙ ap free_way (sym a.3);
            own =
                λ m i g. let w = old.own m i g in (
                  w.0,
                  stay i w.0 w.1 (λ z. n (sym w.2 ∙ z)),
                  w.2,
                  ap (λ (z : ClientEnd). slice_get z.records m) a.0 ∙ w.3,
                );
            many = ap (λ (z : ClientEnd). length z.records) a.0 ∙ old.many;
            once = old.once;
          }

      serves : (d : ℕ) (sv : ServerView) → server_at ss'.servers d ≡ Some sv → (d ≡ c)
          ⊎ (d ≡ c → ⊥) → (o : Pair) × (pair_at s'.pairs d ≡ Some o)
      serves d sv at_s (inl e) = (
        q,
        ap (λ ps. pair_at ps d) is ∙ ap (pair_at (pair_set s.pairs c q)) e
            ∙ pair_set-same s.pairs c p q at,
      )
      serves d sv at_s (inr n) =
          let o = f.served d sv (sym ((far d n).1) ∙ at_s) in (
            o.0,
            ap (λ ps. pair_at ps d) is
                ∙ pair_set-other s.pairs c d q n ∙ o.1,
          )

module _ (H : Type 0) (does : Does H) (stops : Stops H) (limit : ℕ) where
  -- a step after which they fit
  pub record FitStep (s : System H) (ends : ℕ → ClientEnd) (ss : ServerEnds H) (up down : ℕ
      → List ℕ) : Type 0 where
    pub next : System H
    pub step : Step H does stops limit s next
    pub fits : Fit next ends ss up down
    pub pairs : (c : ℕ) (p : Pair) → pair_at s.pairs c ≡ Some p → (q : Pair)
        × (pair_at next.pairs c ≡ Some q)
    pub same : (c : ℕ) (q : Pair) → pair_at next.pairs c ≡ Some q → (p : Pair)
        × (pair_at s.pairs c ≡ Some p)

  -- the pair of one connection is changed
  pub goes : (s s' : System H) (ends ends' : ℕ
      → ClientEnd) (ss ss' : ServerEnds H) (up down up' down' : ℕ → List ℕ) (c : ℕ) (p q : Pair)
      → Fit s ends ss up down → pair_at s.pairs c ≡ Some p → s'.pairs ≡ pair_set s.pairs c q
      → PairFits s'.calls c q (ends' c) (server_at ss'.servers c) (up' c) (down' c)
      → ((d : ℕ) → (d ≡ c → ⊥) → (ends' d ≡ ends d)
      × (server_at ss'.servers d ≡ server_at ss.servers d) × (up' d ≡ up d)
      × (down' d ≡ down d))
      → Stay c s.calls s'.calls → s'.log ≡ ss'.log → s'.handler ≡ ss'.handler
      → Step H does stops limit s s' → FitStep s ends' ss' up' down'
  goes s s' ends ends' ss ss' up down up' down' c p q f at is here far stay log handler step =
      record {
        next = s';
        step = step;
        fits = fit_on s s' ends ends' ss ss' up down up' down' c p q f at is here far stay log handler;
        pairs = λ d o at_o. elim (same_or_not d c) [
          | inl e ↦ (
            q,
            ap (λ ps. pair_at ps d) is ∙ ap (pair_at (pair_set s.pairs c q)) e
                ∙ pair_set-same s.pairs c p q at,
          )
          | inr n ↦ (o, ap (λ ps. pair_at ps d) is ∙ pair_set-other s.pairs c d q n ∙ at_o)
        ];
        same = λ d o at_o. elim (same_or_not d c) [
          | inl e ↦ (p, ap (pair_at s.pairs) e ∙ at)
          | inr n ↦ (o, sym (ap (λ ps. pair_at ps d) is ∙ pair_set-other s.pairs c d q n) ∙ at_o)
        ];
      }
