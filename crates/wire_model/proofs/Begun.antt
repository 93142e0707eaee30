-- A new connection has nothing on its ways.
use Rattle.std.proofs.Common.{◌≡◌, ℕ, ℤ, zero, suc, ◌<◌, Bool, true, false, List, [], ◌∷◌, ◌++◌, length, refl, sym, ◌∙◌, ap, subst, arith, Some, inl, inr}
use Rattle.std.specs.Prelude.{pos, ◌≤ℤ◌, FitsSigned}
use Rattle.std.specs.Int.{w32}
use Rattle.std.proofs.lemmas.Option.{none-some, same_Some}
use Rattle.wire_peer.specs.{Does, Stops, new_client, new_server}
use Rattle.wire_pool.specs.{PoolSeen}
use Rattle.wire_model.specs.declared.limits.WorldLimits.{WorldLimits}
use Rattle.wire_model.specs.Conns.{AreGood, Conn, World, conn_at, new_conn, new_raw_conn, opening}
use Rattle.wire_model.specs.Machines.{Call, CallIs, Machine, stay, empty}
use Rattle.wire_model.specs.Happening.{Opens, opened, with_pool}
use Rattle.wire_model.proofs.Agreeing.{Agrees, Follows, Here, Ways, not_raw}
use Rattle.wire_model.proofs.Chains.{first_reply_id, request_id_of}
use Rattle.wire_model.proofs.Exacts.{exact_none}
use Rattle.wire_model.proofs.Grows.{NextIs, number_is, opened_next}
use Rattle.wire_model.proofs.Places.{conn_push-cases, conn_push-new, length-push}
use Rattle.wire_model.proofs.Promises.{ok_empty}
use Rattle.wire_model.proofs.Raws.{raw_new}
use Rattle.wire_model.proofs.Routes.{DueAt, Fits, OnWayAt, Route, WaitingAt}
use Rattle.wire_model.proofs.Wires.{open_nil}

-- what is raw in the world is raw in the machine
abbrev pub RawsAre : {H : Type 0} → List Conn → Machine H → Type 0
RawsAre ks m = (c : ℕ) (k : Conn) → conn_at ks c ≡ Some k → k.raw ≡ m.raw c

abbrev no_route : Route
no_route = record { onway = []; waiting = []; due = [] }

-- one past the last
abbrev next_of : List Conn → ℕ
next_of ks = suc (length ks)

-- a connection before its first call, with a window for each end
abbrev pub unused_conn : (c limit : ℕ) (first_id : ℤ) (client_window server_window : ℕ) → Conn
unused_conn c limit first_id client_window server_window = record {
  raw = false;
  client = new_client first_id client_window limit;
  server = new_server c server_window limit;
  calls = [];
  up_cut = false;
  down_cut = false;
}

module _ {H : Type 0} (limit : ℕ) (t g : ℕ → List ℕ) (ks : List Conn) (m : Machine H) (w : Ways limit t g ks m) where
  past : length ks < next_of ks
  past = omega arith

  none : (i : ℕ) (x : Call) → CallIs m.calls i x → x.connection ≡ next_of ks → ⊥
  none = w.none (next_of ks) past

  pub new_here : (first_id : ℤ) (client_window server_window : ℕ) → pos 1 ≤ℤ first_id → FitsSigned w32 first_id
      → false ≡ m.raw (next_of ks)
      → Here limit (next_of ks) (unused_conn (next_of ks) limit first_id client_window server_window) m [] []
  new_here first_id client_window server_window least fits raw = record {
    route = no_route;
    fits = new_fits;
    raw = λ is. absurd (let no : false ≡ true = is in cc);
  }
    where
      new_fits : Fits limit (next_of ks) (unused_conn (next_of ks) limit first_id client_window server_window) m no_route
      new_fits = record {
        made = record {
          limit_up = refl;
          limit_down = refl;
          connection = refl;
          reply_id = first_reply_id;
          request_id = request_id_of first_id least fits;
          numbered = λ n e. sym (same_Some 0 n e);
        };
        raw_is = raw;
        client_is = ap not_raw raw ∙ sym (w.lives (next_of ks) past).0;
        server_is = sym (w.lives (next_of ks) past).1;
        wait = λ _. record {
          same = tt;
          are = exact_none (WaitingAt (next_of ks)) m.calls (λ i x at q. none i x at q.0);
          tags = tt;
        };
        up = λ _ _. record {
          bytes = refl;
          still_open = open_nil limit;
          fit = tt;
          are = exact_none (OnWayAt (next_of ks)) m.calls (λ i x at q. none i x at q.0);
          tags = tt;
          rising = tt;
        };
        down = λ _. record {
          bytes = refl;
          still_open = open_nil limit;
          no_reply = refl;
          fit = tt;
          are = exact_none (DueAt (next_of ks)) m.calls (λ i x at q. none i x at q.0);
          tags = tt;
          rising = tt;
          ids = tt;
          streams = tt;
        };
        onway_ids = λ _ _. tt;
        waiting_ids = λ _ _. tt;
        up_uncut = λ _ _. inl refl;
        down_uncut = λ _ _. refl;
      }

  -- the others stay
  pub ways_opened : (k : Conn) → Here limit (next_of ks) k m [] [] → Ways limit t g (ks ++ k ∷ []) m
  ways_opened k h = record {
    conns = λ c j at. elim (conn_push-cases ks c j k at) [
      | inl old ↦ w.conns c j old
      | inr new ↦ (rw (new.0, ← new.1, (w.untaken (next_of ks) past).0, (w.untaken (next_of ks) past).1) h)
    ];
    lives = λ c le. w.lives c (omega (arith, length-push ks k));
    none = λ c le. w.none c (omega (arith, length-push ks k));
    untaken = λ c le. w.untaken c (omega (arith, length-push ks k));
    ok = w.ok;
  }

module _ {H : Type 0} (l : WorldLimits) (t g : ℕ → List ℕ) (ks : List Conn) (m : Machine H) (w : Ways l.limit t g ks m) where
  new_raw_fits : (new_raw_conn l (next_of ks)).raw ≡ m.raw (next_of ks) → Fits l.limit (next_of ks) (new_raw_conn l (next_of ks)) m no_route
  new_raw_fits raw = record {
    made = record {
      limit_up = refl;
      limit_down = refl;
      connection = refl;
      reply_id = first_reply_id;
      request_id = record { number = 1; is = refl; least = omega arith; most = omega arith };
      numbered = λ n e. sym (same_Some 0 n e);
    };
    raw_is = raw;
    client_is = ap not_raw raw ∙ sym (w.lives (next_of ks) (past l.limit t g ks m w)).0;
    server_is = sym (w.lives (next_of ks) (past l.limit t g ks m w)).1;
    wait = λ _. record { same = tt; are = exact_none (WaitingAt (next_of ks)) m.calls (λ i x at q. none l.limit t g ks m w i x at q.0); tags = tt };
    up = λ _ ours. absurd (let no : true ≡ false = ours in cc);
    down = λ alive. absurd (let no : false ≡ true = ap not_raw raw ∙ sym (w.lives (next_of ks) (past l.limit t g ks m w)).0 ∙ alive in cc);
    onway_ids = λ _ _. tt;
    waiting_ids = λ _ _. tt;
    up_uncut = λ ours _. absurd (let no : true ≡ false = ours in cc);
    down_uncut = λ ours _. absurd (let no : true ≡ false = ours in cc);
  }

  ways_new : AreGood l → (new_conn l (next_of ks)).raw ≡ m.raw (next_of ks) → Ways l.limit t g (ks ++ new_conn l (next_of ks) ∷ []) m
  ways_new good raw = ways_opened l.limit t g ks m w (new_conn l (next_of ks)) (new_here l.limit t g ks m w l.first_id l.window l.window good.first_id good.first_fits raw)

  ways_new_raw : (new_raw_conn l (next_of ks)).raw ≡ m.raw (next_of ks) → Ways l.limit t g (ks ++ new_raw_conn l (next_of ks) ∷ []) m
  ways_new_raw raw = ways_opened l.limit t g ks m w (new_raw_conn l (next_of ks))
      (record { route = no_route; fits = new_raw_fits raw; raw = λ is. raw_new l (next_of ks) m w.ok (none l.limit t g ks m w) })

agrees_with : {H : Type 0} (limit : ℕ) (t g : ℕ → List ℕ) (w : World H) (m : Machine H) (p : PoolSeen) (ks : List Conn) → Agrees limit t g w m → Ways limit t g ks m → Agrees limit t g (record w { pool = p; conns = ks }) m
agrees_with limit t g w m p ks a ways = record { ways = ways; calls = a.calls; log = a.log; handler = a.handler }

module _ (H : Type 0) (does : Does H) (stops : Stops H) (l : WorldLimits) (good : AreGood l) (t g : ℕ → List ℕ) where
  -- the pool alone changes
  pub followed_pool : (w n : World H) (m : Machine H) (p : PoolSeen) → Agrees l.limit t g w m → n ≡ with_pool w p → Follows H does stops l.limit t g m n
  followed_pool w n m p a e = rw e (record { next = m; steps = stay; agrees = agrees_with l.limit t g w m p w.conns a a.ways })

  made_at : (w : World H) (m : Machine H) (c : ℕ) (k : Conn) → RawsAre (w.conns ++ k ∷ []) m → k.raw ≡ m.raw (next_of w.conns)
  made_at w m c k raw = raw (next_of w.conns) k (conn_push-new w.conns k)

  followed_new : (w n : World H) (m : Machine H) (p : PoolSeen) (c : ℕ) → NextIs w → w.pool.next ≡ Some c → Agrees l.limit t g w m → RawsAre n.conns m → n ≡ opened w p (new_conn l c) → Follows H does stops l.limit t g m n
  followed_new w n m p c next at a raw e =
      let is : n ≡ opened w p (new_conn l (next_of w.conns)) = e ∙ ap (λ d. opened w p (new_conn l d)) (number_is w c next at) in
      let raw' : RawsAre (w.conns ++ new_conn l (next_of w.conns) ∷ []) m = subst (λ (z : World H). RawsAre z.conns m) is raw in
      rw is (record { next = m; steps = stay; agrees = agrees_with l.limit t g w m p (w.conns ++ new_conn l (next_of w.conns) ∷ []) a (ways_new l t g w.conns m a.ways good (made_at w m c (new_conn l (next_of w.conns)) raw')) })

  pub followed_raw_open : (w n : World H) (m : Machine H) (p : PoolSeen) (c : ℕ) → NextIs w → w.pool.next ≡ Some c → Agrees l.limit t g w m → RawsAre n.conns m → n ≡ opened w p (new_raw_conn l c) → Follows H does stops l.limit t g m n
  followed_raw_open w n m p c next at a raw e =
      let is : n ≡ opened w p (new_raw_conn l (next_of w.conns)) = e ∙ ap (λ d. opened w p (new_raw_conn l d)) (number_is w c next at) in
      let raw' : RawsAre (w.conns ++ new_raw_conn l (next_of w.conns) ∷ []) m = subst (λ (z : World H). RawsAre z.conns m) is raw in
      rw is (record { next = m; steps = stay; agrees = agrees_with l.limit t g w m p (w.conns ++ new_raw_conn l (next_of w.conns) ∷ []) a (ways_new_raw l t g w.conns m a.ways (made_at w m c (new_raw_conn l (next_of w.conns)) raw')) })

  pub followed_opens : (w n : World H) (m : Machine H) (c : ℕ) (made : Bool) → NextIs w → Agrees l.limit t g w m → RawsAre n.conns m → Opens l w c made n → Follows H does stops l.limit t g m n
  followed_opens w n m c false next a raw (p, checked, e) = followed_pool w n m p a e
  followed_opens w n m c true next a raw (p, checked, e) = followed_new w n m p c next (opened_next w.pool c p checked).0 a raw e

-- nothing has happened
pub agrees_opening : {H : Type 0} (l : WorldLimits) (h : H) (raw : ℕ → Bool) → Agrees l.limit (λ c. []) (λ c. []) (opening l h) (empty h raw)
agrees_opening l h raw = record {
  ways = record {
    conns = λ c k at. absurd (nothing_at c k at);
    lives = λ c le. (refl, refl);
    none = λ c le i x at is. none-some x at;
    untaken = λ c le. (refl, refl);
    ok = ok_empty h raw;
  };
  calls = refl;
  log = refl;
  handler = refl;
}
  where
    nothing_at : (c : ℕ) (k : Conn) → conn_at [] c ≡ Some k → ⊥
    nothing_at zero k at = none-some k at
    nothing_at (suc c) k at = none-some k at
