-- What an event does, the machine can do.
use Rattle.std.proofs.Common.{◌≡◌, ℕ, ◌<◌, ◌^◌, Bool, true, false, List, [], ◌∷◌, ◌++◌, length, drop, refl, sym, ◌∙◌, ap, subst, arith, Some, Ok, Err}
use Rattle.std.specs.Prelude.{◌==◌, if◌then◌else◌}
use Rattle.std.proofs.lemmas.Bool.Decides.{nat_tests}
use Rattle.std.proofs.lemmas.List.{append-nil, take-append-drop}
use Rattle.wire_msg.specs.declared.payloads.Payload.{Payload}
use Rattle.wire_peer.specs.{Does, Stops, called, content_of}
use Rattle.wire_peer.specs.declared.calls.CallKind.{CallKind}
use Rattle.wire_peer.specs.declared.calls.CallNo.{CallNo}
use Rattle.wire_peer.specs.declared.server_state.ServerCause.{ServerCause}
use Rattle.wire_peer.specs.declared.server_state.AnswerRefusal.TheVariants as answers
use Rattle.wire_model.specs.Conns.{Conn, World, conn_at, conn_set, new_record, settled, with_conn}
use Rattle.wire_model.specs.Cuts.{cleared_world, cut_down, cut_up, dropped, restarted_world}
use Rattle.wire_model.specs.Machines.{Machine, Pending, Sent, stay, go, asked_as, is_ours, issue, new_call, server_gone, server_lost, with_new}
use Rattle.wire_model.specs.Moves.{Calls, ClientTakesAll, GivesRaw, MovesDown, MovesUp, TakesRaw, joined, with_server_output}
use Rattle.wire_model.specs.Shown.{shown_calls}
use Rattle.wire_model.specs.Happening.{Answers, CutsDown, CutsUp, Returns, with_pool}
use Rattle.wire_model.proofs.Agreeing.{Agrees, Follows, Here, agrees_settled, followed_shuts, up_here, ways_after}
use Rattle.wire_model.proofs.Answered.{answered_reaches, closed_reaches}
use Rattle.wire_model.proofs.Contents.{payload_content}
use Rattle.wire_model.proofs.Frames.{same_new, same_server_gone, same_there}
use Rattle.wire_model.proofs.Issue.{issue_fits, route_issued}
use Rattle.wire_model.proofs.MovesDown.{take_all_down}
use Rattle.wire_model.proofs.MovesRaw.{take_all_raw, with_server}
use Rattle.wire_model.proofs.MovesUp.{take_all_up}
use Rattle.wire_model.proofs.Ranks.{shows-push_ours, shows_never}
use Rattle.wire_model.proofs.Raws.{raw_taken}
use Rattle.wire_model.proofs.Reaches.{Reaches}
use Rattle.wire_model.proofs.Routes.{Fits, lives, made_alike}
use Rattle.wire_model.proofs.Shuts.{down, shuts_all_cut, shuts_cut_at, shuts_restarted, stays}

is_ours_new : (b : Bool) → is_ours (if b then Sent else Pending) ≡ true
is_ours_new true = refl
is_ours_new false = refl

-- bytes of one connection, and none of the others
abbrev pub only : ℕ → List ℕ → ℕ → List ℕ
only c bytes d = if c == d then bytes else []

only_here : (c : ℕ) (bytes : List ℕ) → only c bytes c ≡ bytes
only_here c bytes = let same : (c == c) ≡ true = grind (arith, nat_tests) in ap (λ b. if b then bytes else []) same

only_far : (c d : ℕ) (bytes : List ℕ) → (d ≡ c → ⊥) → only c bytes d ≡ []
only_far c d bytes n = let other : (c == d) ≡ false = grind (arith, nat_tests) in ap (λ b. if b then bytes else []) other

-- these bytes after those
abbrev pub joint : (ℕ → List ℕ) → (ℕ → List ℕ) → ℕ → List ℕ
joint t u d = t d ++ u d

module _ (H : Type 0) (does : Does H) (stops : Stops H) (limit : ℕ) (short : limit < 2 ^ 31) where
  -- one connection goes on
  pub follow : (t t' g g' : ℕ → List ℕ) (w n : World H) (m : Machine H) (c : ℕ) (k k' : Conn) → Agrees limit t g w m → conn_at w.conns c ≡ Some k
      → ((d : ℕ) → (d ≡ c → ⊥) → t' d ≡ t d) → ((d : ℕ) → (d ≡ c → ⊥) → g' d ≡ g d)
      → Reaches H does stops limit c k' m n.calls n.log n.handler (t' c) (g' c) → n.conns ≡ conn_set w.conns c k' → Follows H does stops limit t' g' m n
  follow t t' g g' w n m c k k' a at far_t far_g r e = record {
    next = r.next;
    steps = r.steps;
    agrees = record {
      ways = rw e (ways_after H does stops limit t t' g g' w.conns m r.next c k k' a.ways at far_t far_g r.steps r.here r.others);
      calls = r.calls_are;
      log = r.log_is;
      handler = r.handler_is;
    };
  }

  -- the machine goes on from what it shows, which is what the world shows
  reached : (w : World H) (m : Machine H) (c : ℕ) (k' : Conn) (t g t' g' : ℕ → List ℕ) → Agrees limit t g w m → Reaches H does stops limit c k' m (shown_calls m.calls) m.log m.handler (t' c) (g' c) → Reaches H does stops limit c k' m w.calls w.log w.handler (t' c) (g' c)
  reached w m c k' t g t' g' a r = record { next = r.next; steps = r.steps; here = r.here; others = r.others; calls_are = r.calls_are ∙ a.calls; log_is = r.log_is ∙ a.log; handler_is = r.handler_is ∙ a.handler }

  module _ (t g : ℕ → List ℕ) where
    -- ---- calls

    pub followed_calls : (w n : World H) (m : Machine H) (c : ℕ) (kind : CallKind) (payload : Payload) (id : CallNo) → Agrees limit t g w m → Calls w c kind (content_of payload) id n → Follows H does stops limit t g m n
    followed_calls w n m c kind payload id a s =
        let h = a.ways.conns c s.k s.at in
        let alive : m.client_lives c ≡ true = sym h.fits.client_is ∙ ap lives s.accepted.0 in
        let new : Machine H = with_new m (new_call c (asked_as kind (content_of payload))) in
        let same : length (shown_calls m.calls) ≡ length w.calls = ap length a.calls in
        rw s.after (follow t t g g w _ m c s.k _ a s.at (λ d o. refl) (λ d o. refl) (record {
          next = new;
          steps = go {o = new} stay (issue c kind (content_of payload) alive refl);
          here = subst (λ z. Here limit c (record (s.k) { client = called s.k.client kind (content_of payload) id; calls = s.k.calls ++ z ∷ [] }) new (t c) (g c)) same (record {
            route = route_issued m h.route kind (content_of payload) id;
            fits = issue_fits limit c s.k m h.route kind (content_of payload) id s.accepted (payload_content payload) h.fits;
            raw = λ is. absurd (let no : true ≡ false = sym alive ∙ a.ways.ok.raws c (sym h.fits.raw_is ∙ is) in cc);
          });
          others = λ d o. same_new d m (new_call c (asked_as kind (content_of payload))) (λ e. o (sym e));
          calls_are = shows-push_ours m.calls (new_call c (asked_as kind (content_of payload))) (is_ours_new (asked_as kind (content_of payload)).more_to_come) ∙ ap (λ cs. cs ++ new_record c (asked_as kind (content_of payload)) ∷ []) a.calls;
          log_is = a.log;
          handler_is = a.handler;
        }) refl)

    -- ---- bytes

    pub followed_up : (w n : World H) (m : Machine H) (c many : ℕ) → Agrees limit t g w m → MovesUp w c many n → Follows H does stops limit t g m n
    followed_up w n m c many a s =
        let h = a.ways.conns c s.k s.at in
        rw s.after (follow t t g g w _ m c s.k _ a s.at (λ d o. refl) (λ d o. refl)
        (reached w m c _ t g t g a (take_all_up H does stops limit short c s.pieces s.k m (t c) (g c) s.rest s.server h s.honest s.output s.takes)) refl)

    pub followed_down : (w n : World H) (m : Machine H) (c many : ℕ) → Agrees limit t g w m → MovesDown w c many n → Follows H does stops limit t g m n
    followed_down w n m c many a s =
        let h = a.ways.conns c s.k s.at in
        let r = take_all_down H does stops limit short c s.pieces s.k m (t c) (g c) s.rest s.client s.calls a.ways.ok h s.honest s.output (subst (λ z. ClientTakesAll s.k.calls s.k.client z s.pieces s.client s.calls) (sym a.calls) s.takes) in
        rw s.after (follow t t g g w _ m c s.k _ a s.at (λ d o. refl) (λ d o. refl)
        (record { next = r.next; steps = r.steps; here = r.here; others = r.others; calls_are = r.calls_are; log_is = r.log_is ∙ a.log; handler_is = r.handler_is ∙ a.handler }) refl)

    -- nothing is left to settle
    pub followed_settled : (w n : World H) (m : Machine H) → Follows H does stops limit t g m w → n ≡ settled w → Follows H does stops limit t g m n
    followed_settled w n m f e = rw e (record { next = f.next; steps = f.steps; agrees = agrees_settled limit t g w f.next f.agrees })

    pub followed_takes_raw : (w n : World H) (m : Machine H) (c : ℕ) (bytes : List ℕ) → Agrees limit t g w m → (s : TakesRaw w c bytes n) → Follows H does stops limit (joint t (only c (joined s.pieces))) g m n
    followed_takes_raw w n m c bytes a s =
        let h = a.ways.conns c s.k s.at in
        let r = take_all_raw H does stops limit c s.pieces s.k m (t c) (g c) s.server a.ways.ok h s.raw s.takes in
        subst (λ (z : World H). Follows H does stops limit (joint t (only c (joined s.pieces))) g m z) (sym s.after)
        (follow t (joint t (only c (joined s.pieces))) g g w (with_conn w c (with_server s.k s.server)) m c s.k (with_server s.k s.server) a s.at
        (λ d o. ap (λ b. t d ++ b) (only_far c d (joined s.pieces) o) ∙ append-nil (t d)) (λ d o. refl)
        (reached w m c (with_server s.k s.server) t g (joint t (only c (joined s.pieces))) g a
        (subst (λ b. Reaches H does stops limit c (with_server s.k s.server) m (shown_calls m.calls) m.log m.handler (t c ++ b) (g c)) (sym (only_here c (joined s.pieces))) r)) refl)

    pub followed_gives : (w n : World H) (m : Machine H) (c many : ℕ) → Agrees limit t g w m → (s : GivesRaw w c many n) → Follows H does stops limit t (joint g (only c s.bytes)) m n
    followed_gives w n m c many a s =
        subst (λ (z : World H). Follows H does stops limit t (joint g (only c s.bytes)) m z) (sym s.after)
        (follow t t g (joint g (only c s.bytes)) w (with_conn w c k') m c s.k k' a s.at (λ d o. refl)
        (λ d o. ap (λ b. g d ++ b) (only_far c d s.bytes o) ∙ append-nil (g d)) (record {
          next = m;
          steps = stay;
          here = subst (λ b. Here limit c k' m (t c) (g c ++ b)) (sym (only_here c s.bytes)) (record {
            route = h.route;
            fits = record {
              made = made_alike limit c s.k _ refl refl refl refl refl refl refl f.made;
              raw_is = f.raw_is;
              client_is = f.client_is;
              server_is = f.server_is;
              wait = f.wait;
              up = f.up;
              down = λ l. absurd (let no : true ≡ false = sym l ∙ dead in cc);
              onway_ids = f.onway_ids;
              waiting_ids = f.waiting_ids;
              up_uncut = f.up_uncut;
              down_uncut = f.down_uncut;
            };
            raw = λ is. raw_taken limit c s.k k' m h.route.waiting (t c) (g c) s.bytes refl (sym (ap (λ b. b ++ drop many s.k.server.output) s.are ∙ take-append-drop many s.k.server.output)) refl refl (h.raw is);
          });
          others = λ d o. same_there d m;
          calls_are = a.calls;
          log_is = a.log;
          handler_is = a.handler;
        }) refl)
      where
        h : Here limit c s.k m (t c) (g c)
        h = a.ways.conns c s.k s.at

        f : Fits limit c s.k m h.route
        f = h.fits

        dead : m.client_lives c ≡ false
        dead = a.ways.ok.raws c (sym f.raw_is ∙ s.raw)

        k' : Conn
        k' = record (s.k) { server = with_server_output s.k.server (drop many s.k.server.output) }

    -- ---- answers

    pub followed_answers : (w n : World H) (m : Machine H) (c i e : ℕ) → Agrees limit t g w m → Answers does stops w c i (Ok e) n → Follows H does stops limit t g m n
    followed_answers w n m c i e a s =
        let r = answered_reaches H does stops limit c i e s.k m w.handler w.log s.server s.handler s.log (t c) (g c) a.ways.ok (a.ways.conns c s.k s.at) a.handler a.log s.step s.contents in
        rw s.after (follow t t g g w _ m c s.k _ a s.at (λ d o. refl) (λ d o. refl)
        (record { next = r.next; steps = r.steps; here = r.here; others = r.others; calls_are = r.calls_are ∙ a.calls; log_is = r.log_is; handler_is = r.handler_is }) refl)

    pub followed_closes : (w n : World H) (m : Machine H) (c i : ℕ) (cause : ServerCause) → Agrees limit t g w m → Answers does stops w c i (Err (answers.NowClosed cause)) n → Follows H does stops limit t g m n
    followed_closes w n m c i cause a s =
        let r = closed_reaches H does stops limit c i cause s.k m w.handler w.log s.server s.handler s.log (t c) (g c) a.ways.ok (a.ways.conns c s.k s.at) a.handler a.log s.step in
        rw s.after (follow t t g g w _ m c s.k _ a s.at (λ d o. refl) (λ d o. refl)
        (record { next = r.next; steps = r.steps; here = r.here; others = r.others; calls_are = r.calls_are ∙ a.calls; log_is = r.log_is; handler_is = r.handler_is }) refl)

    -- ---- cuts

    pub followed_cut_up : (w n : World H) (m : Machine H) (c : ℕ) → Agrees limit t g w m → CutsUp w c n → Follows H does stops limit t g m n
    followed_cut_up w n m c a s = rw s.after (follow t t g g w _ m c s.k (cut_up s.k) a s.at (λ d o. refl) (λ d o. refl) (record {
      next = server_gone m c;
      steps = go {o = server_gone m c} stay (server_lost c refl);
      here = up_here H does stops limit c s.k m (t c) (g c) (a.ways.conns c s.k s.at);
      others = λ d o. same_server_gone d c m o;
      calls_are = shows_never c m.calls ∙ a.calls;
      log_is = a.log;
      handler_is = a.handler;
    }) refl)

    pub followed_cut_down : (w n : World H) (m : Machine H) (c : ℕ) → Agrees limit t g w m → CutsDown w c n → Follows H does stops limit t g m n
    followed_cut_down w n m c a s = followed_shuts H does stops limit t g w n m (conn_set w.conns c (cut_down s.k)) w.pool a (down c s.k stays s.at refl) s.after

    pub followed_dropped : (w n : World H) (m : Machine H) (c : ℕ) → Agrees limit t g w m → n ≡ dropped w c → Follows H does stops limit t g m n
    followed_dropped w n m c a e = followed_shuts H does stops limit t g w n m _ w.pool a (shuts_cut_at w.conns c) e

    pub followed_returns : (w n : World H) (m : Machine H) (c : ℕ) (kept : Bool) → Agrees limit t g w m → Returns w c kept n → Follows H does stops limit t g m n
    followed_returns w n m c kept a s = by kept s.after
      where
        by : (b : Bool) → n ≡ (if b then with_pool w s.pool else dropped (with_pool w s.pool) c) → Follows H does stops limit t g m n
        by true e = rw e (record { next = m; steps = stay; agrees = record { ways = a.ways; calls = a.calls; log = a.log; handler = a.handler } })
        by false e = followed_shuts H does stops limit t g w n m _ s.pool a (shuts_cut_at w.conns c) e

    pub followed_clear : (w n : World H) (m : Machine H) → Agrees limit t g w m → n ≡ cleared_world w → Follows H does stops limit t g m n
    followed_clear w n m a e = followed_shuts H does stops limit t g w n m _ _ a (shuts_all_cut w.pool.idle w.conns) e

    pub followed_restart : (w n : World H) (m : Machine H) → Agrees limit t g w m → n ≡ restarted_world w → Follows H does stops limit t g m n
    followed_restart w n m a e = followed_shuts H does stops limit t g w n m _ _ a (shuts_restarted w.conns) e
