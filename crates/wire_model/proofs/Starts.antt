-- The pairs before anything happens, and the run that the owners have in common.
use Rattle.std.proofs.Common.{◌≡◌, ℕ, zero, suc, ◌≤◌, List, [], ◌∷◌, ◌++◌, length, refl, sym, ◌∙◌, ap, subst, arith, Some, ◌⊎◌, inl, inr}
use Rattle.std.specs.Prelude.{slice_get}
use Rattle.std.proofs.lemmas.Option.{none-some, same_Some, slice_get_within}
use Rattle.wire_peer.specs.{Does, ServerView, Stops, new_server}
use Rattle.wire_model.specs.Conns.{Record}
use Rattle.wire_model.proofs.Lists.{get-push_cases, get-push_new, get-push_old, same_or_not}
use Rattle.wire_model.proofs.Places.{length-push, length-slice_set}
use Rattle.wire_model.specs.Channels.{Pair, Steps, System, new_pair, no_pairs, pair_at, paired}
use Rattle.wire_model.specs.Channels as channels
use Rattle.wire_model.specs.Owners.{AreMade, ClientEnd, ClientRun, Made, ServerEnds, first_end, first_servers, first_servers_of, server_at, server_set}
use Rattle.wire_model.specs.Deeds.{AreOf, Arrive, AtClient, AtServer, Common, Deed, ServersRun, acts_at}
use Rattle.wire_model.proofs.Pairs.{pair_push-old}
use Rattle.wire_model.proofs.Fits.{Fit, PairFits, get_within}
use Rattle.wire_model.proofs.Flights.{Balanced}
use Rattle.wire_model.proofs.Meets.{Met, meet}
use Rattle.wire_model.proofs.Sound.{all_sound}

module _ (H : Type 0) (does : Does H) (stops : Stops H) (limit : ℕ) where
  abbrev pairs_of : (ℕ → Made) → ℕ → List Pair
  pairs_of made zero = []
  pairs_of made (suc n) =
      pairs_of made n ++ new_pair (suc n) limit (made (suc n)).first_id
      (made (suc n)).client_window (made (suc n)).server_window ∷ []

  many_pairs : (made : ℕ → Made) (n : ℕ) → length (pairs_of made n) ≡ n
  many_pairs made zero = refl
  many_pairs made (suc n) = length-push (pairs_of made n) _ ∙ ap suc (many_pairs made n)

  pub many_servers : (made : ℕ → Made) (n : ℕ) → length (first_servers limit made n) ≡ n
  many_servers made zero = refl
  many_servers made (suc n) =
      length-push (first_servers limit made n) _ ∙ ap suc (many_servers made n)

  pub first_is : (made : ℕ → Made) (k c : ℕ) (s : ServerView)
      → server_at (first_servers limit made k) c ≡ Some s
      → s ≡ new_server c (made c).server_window limit
  first_is made zero zero s at = absurd (none-some s at)
  first_is made zero (suc i) s at = absurd (none-some s at)
  first_is made (suc k) zero s at = absurd (none-some s at)
  first_is made (suc k) (suc i) s at = elim (get-push_cases (first_servers limit made k) i s
      (new_server (suc k) (made (suc k)).server_window limit) at) [
        | inl old ↦ first_is made k (suc i) s old
        | inr new ↦
            sym new.1
            ∙ ap (λ z. new_server (suc z) (made (suc z)).server_window limit)
            (sym (new.0 ∙ many_servers made k))
      ]

  push_cases : (ps : List Pair) (c : ℕ) (p q : Pair) → pair_at (ps ++ q ∷ []) c ≡ Some p
      → (pair_at ps c ≡ Some p) ⊎ ((c ≡ suc (length ps)) × (q ≡ p))
  push_cases ps zero p q at = absurd (none-some p at)
  push_cases ps (suc i) p q at =
      elim (get-push_cases ps i p q at) [ inl h ↦ inl h | inr h ↦ inr (ap suc h.0, h.1) ]

  server_cases : (ss : List ServerView) (c : ℕ) (p q : ServerView)
      → server_at (ss ++ q ∷ []) c ≡ Some p → (server_at ss c ≡ Some p) ⊎ (c ≡ suc (length ss))
  server_cases ss zero p q at = absurd (none-some p at)
  server_cases ss (suc i) p q at =
      elim (get-push_cases ss i p q at) [ inl h ↦ inl h | inr h ↦ inr (ap suc h.0) ]

  server_old : (ss : List ServerView) (c : ℕ) (p q : ServerView) → server_at ss c ≡ Some p
      → server_at (ss ++ q ∷ []) c ≡ Some p
  server_old ss zero p q at = absurd (none-some p at)
  server_old ss (suc i) p q at = get-push_old ss i p q at

  module _ (first : H) (made : ℕ → Made) (good : AreMade made) where
    abbrev begun : ℕ → System H
    begun n = record { pairs = pairs_of made n; calls = []; log = []; handler = first }

    begun_steps : (n : ℕ) → Steps H does stops limit (no_pairs first) (begun n)
    begun_steps zero = channels.stay
    begun_steps (suc n) =
        channels.go (begun_steps n) (channels.pairs (made (suc n)).first_id
        (made (suc n)).client_window (made (suc n)).server_window (good (suc n)).0
        (good (suc n)).1
        (ap (λ c. paired (begun n) (new_pair (suc c) limit (made (suc n)).first_id
        (made (suc n)).client_window (made (suc n)).server_window)) (sym (many_pairs made n))))

    -- the pair with this number is at its index
    begun_at : (n c : ℕ) → 1 ≤ c → c ≤ n
        → pair_at (pairs_of made n) c ≡ Some (new_pair c limit (made c).first_id
        (made c).client_window (made c).server_window)
    begun_at zero c least most = absurd (omega (arith, least, most))
    begun_at (suc n) c least most = elim (same_or_not c (suc n)) [
      | inl e ↦ (rw e (ap (λ z. slice_get (pairs_of made (suc n)) z) (sym (many_pairs made n))
          ∙ get-push_new (pairs_of made n) _))
      | inr no_ ↦ pair_push-old (pairs_of made n) c _ _
          (begun_at n c least (omega (arith, most, no_)))
    ]

    server_begun : (n c : ℕ) → 1 ≤ c → c ≤ n
        → server_at (first_servers limit made n) c ≡ Some (new_server c (made c).server_window
        limit)
    server_begun zero c least most = absurd (omega (arith, least, most))
    server_begun (suc n) c least most = elim (same_or_not c (suc n)) [
      | inl e ↦ (rw e (ap (λ z. slice_get (first_servers limit made (suc n)) z)
          (sym (many_servers made n)) ∙ get-push_new (first_servers limit made n) _))
      | inr no_ ↦ server_old (first_servers limit made n) c _ _
          (server_begun n c least (omega (arith, most, no_)))
    ]

    within_pairs : (ps : List Pair) (c : ℕ) (p : Pair) → pair_at ps c ≡ Some p → (1 ≤ c)
        × (c ≤ length ps)
    within_pairs ps zero p at = absurd (none-some p at)
    within_pairs ps (suc i) p at =
        let lt = slice_get_within ps i p at in (omega arith, omega (arith, lt))

    within_servers : (ss : List ServerView) (c : ℕ) (p : ServerView) → server_at ss c ≡ Some p
        → (1 ≤ c) × (c ≤ length ss)
    within_servers ss zero p at = absurd (none-some p at)
    within_servers ss (suc i) p at =
        let lt = slice_get_within ss i p at in (omega arith, omega (arith, lt))

    begun_fits : (n : ℕ)
        → Fit (begun n) (first_end limit made) (first_servers_of limit made n first) (λ c. [])
        (λ c. [])
    begun_fits n = record {
      pairs = λ c p at.
          let w = within_pairs (pairs_of made n) c p at in
          let many = many_pairs made n in
          let most : c ≤ n = omega (arith, w.1, many) in
          let same : new_pair c limit (made c).first_id (made c).client_window
          (made c).server_window ≡ p = same_Some _ p (sym (begun_at n c w.0 most) ∙ at) in
          subst (λ z. PairFits [] c z (first_end limit made c)
          (server_at (first_servers limit made n) c) [] []) same (record {
            client = refl;
            server_is = server_begun n c w.0 most;
            up_is = refl;
            down_is = refl;
            own = λ m i g. absurd (none-some i g);
            many = refl;
            once = λ m m' i g g'. absurd (none-some i g);
          });
      served = λ c sv at.
          let w = within_servers (first_servers limit made n) c sv at in
          let many = many_servers made n in
          (_, begun_at n c w.0 (omega (arith, w.1, many)));
      log = refl;
      handler = refl;
    }

    -- what is common to the owners, and that what was sent is what was taken and then what is in
    -- flight
    pub met : (k : ℕ) (deeds : List Deed) (ends : ℕ → ClientEnd) (servers : ServerEnds H)
        → ((c : ℕ) → ClientRun c (first_end limit made c) (acts_at c deeds) (ends c))
        → ServersRun does stops (first_servers_of limit made k first) deeds servers
        → Arrive (λ _. []) (λ _. []) deeds
        → (r : Met H does stops limit k first ends servers)
        × Balanced (λ _. []) (λ _. []) r.up r.down deeds
    met k deeds ends servers runs served arrive =
        meet H does stops limit k first ends servers deeds (begun k) (first_end limit made)
        (first_servers_of limit made k first) (λ c. []) (λ c. []) (record {
          steps = begun_steps k;
          fits = begun_fits k;
          all = λ c least most. (_, begun_at k c least most);
        }) runs served arrive

    -- the number of servers stays the same
    as_many : (deeds : List Deed) (old new : ServerEnds H) → ServersRun does stops old deeds new
        → length new.servers ≡ length old.servers
    as_many [] old new same = ap (λ (z : ServerEnds H). length z.servers) same
    as_many (AtClient c act ∷ deeds) old new run = as_many deeds old new run
    as_many (AtServer c act ∷ deeds) old new (mid, a, run) =
        as_many deeds mid new run ∙ ap length a.after ∙ set_length old.servers c a.s'
      where
        set_length : (ss : List ServerView) (d : ℕ) (t : ServerView)
            → length (server_set ss d t) ≡ length ss
        set_length ss zero t = refl
        set_length ss (suc d) t = length-slice_set ss d t

    pub are_of : (k : ℕ) (deeds : List Deed) (ends : ℕ → ClientEnd) (servers : ServerEnds H)
        → ServersRun does stops (first_servers_of limit made k first) deeds servers
        → (r : Met H does stops limit k first ends servers) → AreOf k ends servers r.final
    are_of k deeds ends servers served r = record {
      pair = r.all;
      client = λ c p at. let f = r.fits.pairs c p at in (f.client, f.server_is);
      records = λ c p at n x g.
          let f = r.fits.pairs c p at in
          let lt = slice_get_within (ends c).records n x g in
          let same = f.many in
          let i = get_within p.calls n (omega (arith, lt, same)) in
          let w = f.own n i.0 i.1 in
          let is : w.0 ≡ x = same_Some w.0 x (sym w.3 ∙ g) in (
            i.0,
            i.1,
            w.1 ∙ ap (λ z. Some z) is,
            ap (λ (z : Record). z.connection) (sym is)
                ∙ w.2,
          );
      once = λ c p at. (r.fits.pairs c p at).once;
      no_other = λ i x g.
          let v = (all_sound H does stops limit first r.final r.steps).covered i x g in
          let f = r.fits.pairs x.connection v.0 v.1 in
          let w = f.own v.2 i v.3 in
          let within = within_servers servers.servers x.connection v.0.server f.server_is in
          let many = as_many deeds (first_servers_of limit made k first) servers served
          ∙ many_servers made k in (
            v.0,
            v.2,
            within.0,
            omega (arith, within.1, many),
            v.1,
            v.3,
            w.3 ∙ ap (λ z. Some z) (same_Some w.0 x (sym w.1 ∙ g)),
          );
      log = r.fits.log;
    }

    pub common : (k : ℕ) (deeds : List Deed) (ends : ℕ → ClientEnd) (servers : ServerEnds H)
        → ((c : ℕ) → ClientRun c (first_end limit made c) (acts_at c deeds) (ends c))
        → ServersRun does stops (first_servers_of limit made k first) deeds servers
        → Arrive (λ _. []) (λ _. []) deeds → Common does stops limit k first ends servers
    common k deeds ends servers runs served arrive =
        let r = met k deeds ends servers runs served arrive in
        record { s = r.0.final; trace = r.0.steps; of = are_of k deeds ends servers served r.0 }
