-- What the owners of the ends know of their calls.
use Rattle.std.proofs.Common.{◌≡◌, ℕ, ◌<◌, ◌^◌, Bool, true, false, List, [], ◌∷◌, ◌++◌, drop, refl, sym, ◌∙◌, ap, subst, Option, Some, None, inl, inr}
use Rattle.std.specs.Prelude.{slice_get}
use Rattle.std.proofs.lemmas.Option.{same_Some}
use Rattle.wire_peer.specs.{ClientSeen, Does, ServerView, Stops}
use Rattle.wire_peer.specs.declared.client_state.ClientState.TheVariants as clients
use Rattle.wire_peer.specs.declared.server_state.ServerState.{ServerState}
use Rattle.wire_peer.specs.declared.server_state.ServerState.TheVariants as servers
use Rattle.wire_model.specs.Shown.{IsStopped, raws}
use Rattle.wire_model.specs.Machines.{Machine, Steps, empty}
use Rattle.wire_model.specs.Conns.{Record}
use Rattle.wire_model.specs.Channels.{Pair, System, Way, pair_at}
use Rattle.wire_model.specs.Owners.{AreMade, ClientEnd, ClientRun, Made, ServerEnds, first_end, first_servers_of, server_at}
use Rattle.wire_model.specs.Deeds.{AreOf, Arrive, Deed, ServersRun, acts_at}
use Rattle.wire_model.specs.Knowing.{AreQuiet, IsCallOf, Owned, OwnersKnow}
use Rattle.wire_model.specs.Seen.{Channelled, IsQuietPair, world_of}
use Rattle.wire_model.proofs.Flights.{Balanced}
use Rattle.wire_model.proofs.PairHeadline.{channelled, raws_are}
use Rattle.wire_model.proofs.Meets.{Met}
use Rattle.wire_model.proofs.Sound.{all_sound}
use Rattle.wire_model.proofs.Starts.{are_of, met}

-- ---- calls under other numbers

pub owned_by : {H I J : Type 0} (m : Machine H) (A : I → Record → Type 0) (B : J → Record → Type 0)
    (f : J → I) → ((j : J) (x : Record) → B j x → A (f j) x)
    → ((j l : J) (x y : Record) → B j x → B l y → f j ≡ f l → j ≡ l)
    → ((i : I) (x : Record) → A i x → (j : J) × B j x × (f j ≡ i)) → Owned m A → Owned m B
owned_by m A B f to once back o = record {
  number = λ j. o.number (f j);
  place = λ j. o.place (f j);
  is = λ j x b. o.is (f j) x (to j x b);
  once = λ j l x y b d e. once j l x y b d (o.once (f j) (f l) x y (to j x b) (to l y d) e);
  entry = λ j x e b. o.entry (f j) x e (to j x b);
  whole = λ j x b. o.whole (f j) x (to j x b);
  one_call = λ j l x y e b d n n'.
      once j l x y b d (o.one_call (f j) (f l) x y e (to j x b) (to l y d) n n');
  named = λ e en at.
      let w = o.named e en at in
      let v = back w.0 w.1 w.2 in (
        v.0,
        w.1,
        v.1,
        elim w.3 [
          | inl q ↦ inl (ap o.place v.2 ∙ q)
          | inr q ↦ inr (ap o.place v.2 ∙ q)
        ],
      );
  silent = λ j x b. o.silent (f j) x (to j x b);
  beginning = λ j x b. o.beginning (f j) x (to j x b);
  mute = λ j x b. o.mute (f j) x (to j x b);
}

abbrev index_by : Option ℕ → ℕ
index_by None = 0
index_by (Some i) = i

abbrev call_at : Option Pair → ℕ → ℕ
call_at None n = 0
call_at (Some p) n = index_by (slice_get p.calls n)

-- the index of a call of a client among all records
abbrev index : {H : Type 0} → System H → ℕ × ℕ → ℕ
index s i = call_at (pair_at s.pairs i.0) i.1

owned_of : {H : Type 0} (k : ℕ) (ends : ℕ → ClientEnd) (ss : ServerEnds H) (s : System H)
    (m : Machine H) → AreOf k ends ss s
    → Owned m (λ (i : ℕ) (x : Record). slice_get s.calls i ≡ Some x)
    → Owned m (IsCallOf k ends)
owned_of {H} k ends ss s m of o =
    owned_by m (λ (i : ℕ) (x : Record). slice_get s.calls i ≡ Some x) (IsCallOf k ends) (index s)
    (λ j x b. let v = there j x b in v.2) once
    (λ i x at.
    let v = of.no_other i x at in
    ((x.connection, v.1), (v.2, v.3, v.6), ap (λ z. call_at z v.1) v.4 ∙ ap index_by v.5)) o
  where
    -- the index of the record of a call
    there : (j : ℕ × ℕ) (x : Record) → IsCallOf k ends j x → (p : Pair)
        × (pair_at s.pairs j.0 ≡ Some p) × (slice_get s.calls (index s j) ≡ Some x)
        × (slice_get p.calls j.1 ≡ Some (index s j)) × (x.connection ≡ j.0)
    there j x b =
        let p = of.pair j.0 b.0 b.1 in
        let r = of.records j.0 p.0 p.1 j.1 x b.2 in
        let i : index s j ≡ r.0 = ap (λ z. call_at z j.1) p.1 ∙ ap index_by r.1 in
        (p.0, p.1, ap (slice_get s.calls) i ∙ r.2, r.1 ∙ ap (λ z. Some z) (sym i), r.3)

    once : (j l : ℕ × ℕ) (x y : Record) → IsCallOf k ends j x → IsCallOf k ends l y
        → index s j ≡ index s l → j ≡ l
    once j l x y b d e =
        let v = there j x b in
        let w = there l y d in
        let same : x ≡ y = same_Some x y (sym v.2 ∙ ap (slice_get s.calls) e ∙ w.2) in
        let c : j.0 ≡ l.0 = sym v.4 ∙ ap (λ (z : Record). z.connection) same ∙ w.4 in
        let q : w.0 ≡ v.0 = same_Some w.0 v.0 (sym w.1 ∙ ap (pair_at s.pairs) (sym c) ∙ v.1) in
        let n : j.1 ≡ l.1 = of.once j.0 v.0 v.1 j.1 l.1 (index s l) (v.3 ∙ ap (λ z. Some z) e)
        (ap (λ (z : Pair). slice_get z.calls l.1) (sym q) ∙ w.3) in
        ap (λ z. (z, j.1)) c ∙ ap (λ z. (l.0, z)) n

-- ---- quiet ends

none_behind : (xs ys : List ℕ) → xs ≡ xs ++ ys → ys ≡ []
none_behind [] ys e = sym e
none_behind (x ∷ xs) ys e = none_behind xs ys (ap (drop 1) e)

pub not_told : (b : Bool) → (b ≡ true → ⊥) → b ≡ false
not_told true n = absurd (n refl)
not_told false n = refl

pub open_not_stopped : (s : ServerState) → s ≡ servers.Open → IsStopped s → ⊥
open_not_stopped s live (inl e) = let no_ = sym live ∙ e in cc
open_not_stopped s live (inr (inl e)) = let no_ = sym live ∙ e in cc
open_not_stopped s live (inr (inr e)) = let no_ = sym live ∙ e in cc

module _ (H : Type 0) (does : Does H) (stops : Stops H) (limit : ℕ) (short : limit < 2 ^ 31)
    (first : H) (made : ℕ → Made) (good : AreMade made) where
  quiet_pair : (k : ℕ) (deeds : List Deed) (ends : ℕ → ClientEnd) (ss : ServerEnds H)
      (r : Met H does stops limit k first ends ss) → Balanced (λ _. []) (λ _. []) r.up r.down deeds
      → (c : ℕ) (s : ServerView) → server_at ss.servers c ≡ Some s → AreQuiet c deeds (ends c) s
      → IsQuietPair r.final.pairs c
  quiet_pair k deeds ends ss r b c s at q =
      let v = r.fits.served c s at in
      let f = r.fits.pairs c v.0 v.1 in
      let told = (all_sound H does stops limit first r.final r.steps).told c v.0 v.1 in
      let server : s ≡ v.0.server = same_Some s v.0.server (sym at ∙ f.server_is) in
      let server_open : v.0.server.state ≡ servers.Open = ap (λ (z : ServerView). z.state)
      (sym server) ∙ q.server_open in
      let client_open : v.0.client.state ≡ clients.Open = ap (λ (z : ClientSeen). z.state)
      (sym f.client) ∙ q.client_open in
      record {
        p = v.0;
        at = v.1;
        server_untold = not_told v.0.server_told (λ e. told.0 e server_open);
        client_untold = not_told v.0.client_told (λ e. told.1 e client_open);
        not_stopped = open_not_stopped v.0.server.state server_open;
        none_up = ap (λ (w : Way). w.bytes) f.up_is ∙ none_behind _ (r.up c) ((b c).0
            ∙ ap (λ z. z ++ r.up c) q.none_in_flight.up);
        none_down = ap (λ (w : Way). w.bytes) f.down_is ∙ none_behind _ (r.down c) ((b c).1
            ∙ ap (λ z. z ++ r.down c) q.none_in_flight.down);
        client_empty =
            ap (λ (z : ClientSeen). z.requests.output) (sym f.client) ∙ q.client_empty;
        server_empty = ap (λ (z : ServerView). z.output) (sym server) ∙ q.server_empty;
        none_waits = ap (λ (z : ServerView). z.waiting) (sym server) ∙ q.none_waits;
        none_ready = ap (λ (z : ClientSeen). z.reply) (sym f.client) ∙ q.none_ready;
      }

  pub know : (k : ℕ) (deeds : List Deed) (ends : ℕ → ClientEnd) (ss : ServerEnds H)
      → ((c : ℕ) → ClientRun c (first_end limit made c) (acts_at c deeds) (ends c))
      → ServersRun does stops (first_servers_of limit made k first) deeds ss
      → Arrive (λ _. []) (λ _. []) deeds → OwnersKnow does stops k first deeds ends ss
  know k deeds ends ss runs served arrive = record {
    m = seen.headline.m;
    reached =
        subst (λ (raw : ℕ → Bool). Steps H does stops (empty first raw) seen.headline.m) unraw
        seen.headline.reached;
    log = sym seen.headline.shows.log ∙ of.log;
    owned = owned_of k ends ss r.0.final seen.headline.m of seen.owned;
    quiet = λ c s at q n x g loud.
        let qp = quiet_pair k deeds ends ss r.0 r.1 c s at q in
        let i = of.records c qp.p qp.at n x g in
        seen.quiet c qp i.0 x i.2 i.3 loud;
  }
    where
      r : (r : Met H does stops limit k first ends ss)
          × Balanced (λ _. []) (λ _. []) r.up r.down deeds
      r = met H does stops limit first made good k deeds ends ss runs served arrive

      of : AreOf k ends ss r.0.final
      of = are_of H does stops limit first made good k deeds ends ss served r.0

      seen : Channelled does stops first r.0.final
      seen = channelled H does stops limit short first r.0.final r.0.steps

      unraw : raws (world_of r.0.final seen.calls) ≡ (λ c. false)
      unraw = λ i c. raws_are H does stops limit short first r.0.final seen.calls c i
