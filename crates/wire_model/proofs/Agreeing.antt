-- The world and a state of the machine agree.
use Rattle.std.proofs.Common.{◌≡◌, ℕ, ◌<◌, Bool, true, false, List, [], length, map, refl, sym, ◌∙◌, ap, arith, Option, Some, None, ◌⊎◌, inl, inr}
use Rattle.std.specs.Prelude.{if◌then◌else◌}
use Rattle.std.proofs.lemmas.Option.{same_Some}
use Rattle.wire_peer.specs.{Does, Stops, end_cause}
use Rattle.wire_peer.specs.declared.client_state.ClientState.{ClientState}
use Rattle.wire_peer.specs.declared.client_state.ClientState.TheVariants as clients
use Rattle.wire_pool.specs.{PoolSeen}
use Rattle.wire_model.specs.Conns.{Conn, World, conn_at, conn_set, has_closed_client, is_closed, settled, settled_record}
use Rattle.wire_model.specs.Cuts.{cut_down, cut_up, ended_server}
use Rattle.wire_model.specs.Machines.{Call, CallIs, Machine, Steps, stay, go, client_lost, server_lost, client_gone, server_gone}
use Rattle.wire_model.specs.Shown.{shown_calls}
use Rattle.wire_model.proofs.Lists.{same_or_not}
use Rattle.wire_model.proofs.Ranks.{shows_never}
use Rattle.wire_model.proofs.Routes.{Route, Fits, lives, made_alike}
use Rattle.wire_model.proofs.Promises.{Ok, ok_steps}
use Rattle.wire_model.proofs.Kept.{SameAt, fits_same}
use Rattle.wire_model.proofs.Frames.{same_client_gone, same_server_gone}
use Rattle.wire_model.proofs.Gone.{client_gone_fits, server_gone_fits, server_shut}
use Rattle.wire_model.proofs.RawEntries.{end_not_stopped}
use Rattle.wire_model.proofs.Raws.{RawFits, raw_ended, raw_kept, raw_lost, raw_same}
use Rattle.wire_model.proofs.Places.{conn_set-other, conn_set-same, conn_within, length-conn_set}
use Rattle.wire_model.proofs.Settling.{IsShut, settled_are, settled_shut}
use Rattle.wire_model.proofs.Shuts.{Shuts, stays, up, down, down_is_shut, down_stays, up_stays}

abbrev pub not_raw : Bool → Bool
not_raw b = if b then false else true

-- connection c is as the machine has it; if it is raw, its server took and gave these bytes
pub record Here {H : Type 0} (limit c : ℕ) (k : Conn) (m : Machine H) (taken given : List ℕ) : Type 0 where
  pub route : Route
  pub fits : Fits limit c k m route
  pub raw : k.raw ≡ true → RawFits limit c k m route.waiting taken given

-- each connection is as the machine has it, and the machine has nothing of connections that aren't
-- made yet
pub record Ways {H : Type 0} (limit : ℕ) (taken given : ℕ → List ℕ) (ks : List Conn) (m : Machine H) : Type 0 where
  pub conns : (c : ℕ) (k : Conn) → conn_at ks c ≡ Some k → Here limit c k m (taken c) (given c)
  pub lives : (c : ℕ) → length ks < c → (m.client_lives c ≡ not_raw (m.raw c)) × (m.server_lives c ≡ true)
  pub none : (c : ℕ) → length ks < c → (i : ℕ) (x : Call) → CallIs m.calls i x → x.connection ≡ c → ⊥
  pub untaken : (c : ℕ) → length ks < c → (taken c ≡ []) × (given c ≡ [])
  pub ok : Ok m

pub record Agrees {H : Type 0} (limit : ℕ) (taken given : ℕ → List ℕ) (w : World H) (m : Machine H) : Type 0 where
  pub ways : Ways limit taken given w.conns m
  pub calls : shown_calls m.calls ≡ w.calls
  pub log : m.log ≡ w.log
  pub handler : m.handler ≡ w.handler

-- ---- the same bytes, said in another way

here_at : {H : Type 0} (limit c : ℕ) (k : Conn) (m : Machine H) (t t' g g' : List ℕ) → t' ≡ t → g' ≡ g → Here limit c k m t g → Here limit c k m t' g'
here_at limit c k m t t' g g' e f h = rw (e, f) h

ways_at : {H : Type 0} (limit : ℕ) (t t' g g' : ℕ → List ℕ) (ks : List Conn) (m : Machine H) → ((c : ℕ) → t' c ≡ t c) → ((c : ℕ) → g' c ≡ g c) → Ways limit t g ks m → Ways limit t' g' ks m
ways_at limit t t' g g' ks m e f w = record {
  conns = λ c k at. here_at limit c k m (t c) (t' c) (g c) (g' c) (e c) (f c) (w.conns c k at);
  lives = w.lives;
  none = w.none;
  untaken = λ c le. (e c ∙ (w.untaken c le).0, f c ∙ (w.untaken c le).1);
  ok = w.ok;
}

pub agrees_at : {H : Type 0} (limit : ℕ) (t t' g g' : ℕ → List ℕ) (w : World H) (m : Machine H) → ((c : ℕ) → t' c ≡ t c) → ((c : ℕ) → g' c ≡ g c) → Agrees limit t g w m → Agrees limit t' g' w m
agrees_at limit t t' g g' w m e f a = record { ways = ways_at limit t t' g g' w.conns m e f a.ways; calls = a.calls; log = a.log; handler = a.handler }

-- ---- settled records

open_lives : (s : ClientState) → lives s ≡ true → is_closed s ≡ false
open_lives clients.Open e = refl
open_lives (clients.Closed cause) e = let no : false ≡ true = e in cc

-- nothing is left to settle
pub ways_settled : {H : Type 0} (limit : ℕ) (t g : ℕ → List ℕ) (ks : List Conn) (m : Machine H) → Ways limit t g ks m → map (settled_record ks) (shown_calls m.calls) ≡ shown_calls m.calls
ways_settled limit t g ks m w = settled_are ks m.calls (λ i x at p shut. by x.connection ((w.ok.each i x at).pending p) (conn_at ks x.connection) refl shut)
  where
    by : (c : ℕ) → m.client_lives c ≡ true → (o : Option Conn) → conn_at ks c ≡ o → IsShut ks c → ⊥
    by c alive None at shut = let no : true ≡ false = sym shut ∙ ap has_closed_client at in cc
    by c alive (Some k) at shut =
        let h = w.conns c k at in
        let still : is_closed k.client.state ≡ false = open_lives k.client.state (h.fits.client_is ∙ alive) in
        let no : true ≡ false = sym shut ∙ ap has_closed_client at ∙ still in cc

pub agrees_settled : {H : Type 0} (limit : ℕ) (t g : ℕ → List ℕ) (w : World H) (m : Machine H) → Agrees limit t g w m → Agrees limit t g (settled w) m
agrees_settled limit t g w m a = record {
  ways = a.ways;
  calls = sym (ways_settled limit t g w.conns m a.ways) ∙ ap (map (settled_record w.conns)) a.calls;
  log = a.log;
  handler = a.handler;
}

-- ---- one connection goes on, the others stay

module _ (H : Type 0) (does : Does H) (stops : Stops H) where
  pub ways_after : (limit : ℕ) (t t' g g' : ℕ → List ℕ) (ks : List Conn) (m n : Machine H) (c : ℕ) (k k' : Conn) → Ways limit t g ks m → conn_at ks c ≡ Some k
      → ((d : ℕ) → (d ≡ c → ⊥) → t' d ≡ t d) → ((d : ℕ) → (d ≡ c → ⊥) → g' d ≡ g d)
      → Steps H does stops m n → Here limit c k' n (t' c) (g' c) → ((d : ℕ) → (d ≡ c → ⊥) → SameAt d m n) → Ways limit t' g' (conn_set ks c k') n
  ways_after limit t t' g g' ks m n c k k' w at far_t far_g steps here others = record {
    conns = λ d j s. at_conn d j s (same_or_not d c);
    lives = λ d le. let o = outside d le in let same = others d o.1 in let was = w.lives d o.0 in (same.client ∙ was.0 ∙ ap not_raw (sym same.raw), same.server ∙ was.1);
    none = λ d le i x s is. let o = outside d le in w.none d o.0 i x ((others d o.1).back i x s is) is;
    untaken = λ d le. let o = outside d le in let was = w.untaken d o.0 in (far_t d o.1 ∙ was.0, far_g d o.1 ∙ was.1);
    ok = ok_steps H does stops m n w.ok steps;
  }
    where
      outside : (d : ℕ) → length (conn_set ks c k') < d → (length ks < d) × (d ≡ c → ⊥)
      outside d le =
          let same = length-conn_set ks c k' in
          let within = (conn_within ks c k at).1 in
          (omega arith, λ e. absurd (omega arith))

      at_conn : (d : ℕ) (j : Conn) → conn_at (conn_set ks c k') d ≡ Some j → (d ≡ c) ⊎ (d ≡ c → ⊥) → Here limit d j n (t' d) (g' d)
      at_conn d j s (inl e) =
          let same : k' ≡ j = same_Some k' j (sym (conn_set-same ks c k k' at) ∙ ap (conn_at (conn_set ks c k')) (sym e) ∙ s) in
          rw (e, ← same) here
      at_conn d j s (inr o) =
          let was = w.conns d j (sym (conn_set-other ks c d k' o) ∙ s) in
          let same = others d o in
          here_at limit d j n (t d) (t' d) (g d) (g' d) (far_t d o) (far_g d o) (record {
            route = was.route;
            fits = fits_same limit d j m n was.route same was.fits;
            raw = λ is. raw_same limit d j m n was.route.waiting (t d) (g d) same (was.raw is);
          })

  -- ---- ends that are told the end

  pub up_here : (limit c : ℕ) (k : Conn) (m : Machine H) (t g : List ℕ) → Here limit c k m t g → Here limit c (cut_up k) (server_gone m c) t g
  up_here limit c k m t g h = record {
    route = h.route;
    fits = server_gone_fits limit c k m h.route (ended_server k.server) true refl (server_shut k.server.state _) (made_alike limit c k _ refl refl refl refl refl refl refl h.fits.made) (λ b e. absurd (let no : true ≡ false = e in cc)) h.fits;
    raw = λ is. raw_ended limit c k (cut_up k) m h.route.waiting h.route.waiting t g (end_cause k.server.held) refl refl refl refl (end_not_stopped k.server.held) (h.raw is);
  }

  pub down_here : (limit c : ℕ) (k : Conn) (m : Machine H) (t g : List ℕ) → Here limit c k m t g → Here limit c (cut_down k) (client_gone m c) t g
  down_here limit c k m t g h = record {
    route = h.route;
    fits = client_gone_fits limit c k m h.route h.fits;
    raw = λ is. raw_kept limit c k (cut_down k) (client_gone m c) h.route.waiting t g refl refl refl refl (raw_lost limit c c k m h.route.waiting t g (h.raw is));
  }

  -- the machine has lost these ends, and the records settle as they did before
  pub record Lost (limit : ℕ) (t g : ℕ → List ℕ) (js : List Conn) (m : Machine H) : Type 0 where
    pub next : Machine H
    pub steps : Steps H does stops m next
    pub ways : Ways limit t g js next
    pub log : next.log ≡ m.log
    pub handler : next.handler ≡ m.handler
    pub settles : (is : List Conn) → ((d : ℕ) → IsShut js d → IsShut is d) → map (settled_record is) (shown_calls next.calls) ≡ map (settled_record is) (shown_calls m.calls)

  lost_up : (limit : ℕ) (t g : ℕ → List ℕ) (js is : List Conn) (m : Machine H) (c : ℕ) (k : Conn) → Lost limit t g js m → conn_at js c ≡ Some k → is ≡ conn_set js c (cut_up k) → Lost limit t g is m
  lost_up limit t g js is m c k l at e = rw e (record {
    next = server_gone l.next c;
    steps = go {o = server_gone l.next c} l.steps (server_lost c refl);
    ways = ways_after limit t t g g js l.next (server_gone l.next c) c k (cut_up k) l.ways at (λ d o. refl) (λ d o. refl) (go {o = server_gone l.next c} stay (server_lost c refl))
        (up_here limit c k l.next (t c) (g c) (l.ways.conns c k at)) (λ d o. same_server_gone d c l.next o);
    log = l.log;
    handler = l.handler;
    settles = λ hs more. ap (map (settled_record hs)) (shows_never c l.next.calls) ∙ l.settles hs (λ d shut. more d (up_stays js c k at d shut));
  })

  lost_down : (limit : ℕ) (t g : ℕ → List ℕ) (js is : List Conn) (m : Machine H) (c : ℕ) (k : Conn) → Lost limit t g js m → conn_at js c ≡ Some k → is ≡ conn_set js c (cut_down k) → Lost limit t g is m
  lost_down limit t g js is m c k l at e = rw e (record {
    next = client_gone l.next c;
    steps = go {o = client_gone l.next c} l.steps (client_lost c refl);
    ways = ways_after limit t t g g js l.next (client_gone l.next c) c k (cut_down k) l.ways at (λ d o. refl) (λ d o. refl) (go {o = client_gone l.next c} stay (client_lost c refl))
        (down_here limit c k l.next (t c) (g c) (l.ways.conns c k at)) (λ d o. same_client_gone d c l.next o);
    log = l.log;
    handler = l.handler;
    settles = λ hs more. settled_shut hs c l.next.calls (more c (down_is_shut js c k at)) ∙ l.settles hs (λ d shut. more d (down_stays js c k at d shut));
  })

  pub lost_all : (limit : ℕ) (t g : ℕ → List ℕ) (ks js : List Conn) (m : Machine H) → Ways limit t g ks m → Shuts ks js → Lost limit t g js m
  lost_all limit t g ks js m w stays = record { next = m; steps = stay; ways = w; log = refl; handler = refl; settles = λ is more. refl }
  lost_all limit t g ks js m w (up {js = is} c k s at e) = lost_up limit t g is js m c k (lost_all limit t g ks is m w s) at e
  lost_all limit t g ks js m w (down {js = is} c k s at e) = lost_down limit t g is js m c k (lost_all limit t g ks is m w s) at e

  -- ---- the machine follows

  pub record Follows (limit : ℕ) (t g : ℕ → List ℕ) (m : Machine H) (n : World H) : Type 0 where
    pub next : Machine H
    pub steps : Steps H does stops m next
    pub agrees : Agrees limit t g n next

  -- ends are told the end, and the calls of closed clients are lost
  pub followed_shuts : (limit : ℕ) (t g : ℕ → List ℕ) (w n : World H) (m : Machine H) (js : List Conn) (p : PoolSeen) → Agrees limit t g w m → Shuts w.conns js → n ≡ settled (record w { pool = p; conns = js }) → Follows limit t g m n
  followed_shuts limit t g w n m js p a s e =
      let l = lost_all limit t g w.conns js m a.ways s in
      rw e (record {
        next = l.next;
        steps = l.steps;
        agrees = record {
          ways = l.ways;
          calls = sym (ways_settled limit t g js l.next l.ways) ∙ l.settles js (λ d shut. shut) ∙ ap (map (settled_record js)) a.calls;
          log = l.log ∙ a.log;
          handler = l.handler ∙ a.handler;
        };
      })
