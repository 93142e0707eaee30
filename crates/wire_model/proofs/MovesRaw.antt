-- Each piece that the server of a raw connection takes is a step that the machine can do, or none.
use Rattle.std.proofs.Common.{◌≡◌, ℕ, ◌≤◌, true, false, List, [], ◌∷◌, ◌++◌, length, refl, sym, ◌∙◌, ap, subst, append_assoc}
use Rattle.std.proofs.lemmas.List.{append-nil}
use Rattle.wire_msg.specs.{IsBad, IsOpen}
use Rattle.wire_stream.specs.{StandsAt}
use Rattle.wire_stream.specs.declared.reader_state.ReaderState.{ReaderState}
use Rattle.wire_stream.specs.declared.reader_state.ReaderState.TheVariants.{Need, Ready, Bad}
use Rattle.wire_peer.specs.{Does, ServerView, Stops, asked_by}
use Rattle.wire_peer.specs.Servers.{holding}
use Rattle.wire_model.specs.Conns.{Conn}
use Rattle.wire_model.specs.Machines.{Machine, stay, go, appear, server_gone, server_lost, stranger, with_new}
use Rattle.wire_model.specs.Moves.{ServerTakes, ServerTakesAll, joined}
use Rattle.wire_model.specs.Shown.{shown_calls}
use Rattle.wire_model.proofs.Agreeing.{Here}
use Rattle.wire_model.proofs.Arrive.{appear_fits, raw_need_fits, stranger_tag}
use Rattle.wire_model.proofs.Frames.{same_new, same_server_gone}
use Rattle.wire_model.proofs.Gone.{server_gone_fits}
use Rattle.wire_model.proofs.MovesUp.{all_taken}
use Rattle.wire_model.proofs.Promises.{Ok, ok_steps}
use Rattle.wire_model.proofs.Ranks.{shows-push_other, shows_never}
use Rattle.wire_model.proofs.Raws.{raw_bad, raw_need, raw_whole}
use Rattle.wire_model.proofs.Reaches.{Reaches, reaches_then, still}
use Rattle.wire_model.proofs.Routes.{Fits, server_lives, made_alike}

-- the connection with this server
abbrev pub with_server : Conn → ServerView → Conn
with_server k server = record k { server = server }

module _ (H : Type 0) (does : Does H) (stops : Stops H) where
  take_raw : (limit c : ℕ) (k : Conn) (m : Machine H) (t g p : List ℕ) (server : ServerView) → Ok m → Here limit c k m t g → k.raw ≡ true → ServerTakes k.server p server
      → Reaches H does stops limit c (with_server k server) m (shown_calls m.calls) m.log m.handler (t ++ p) g
  take_raw limit c k m t g p server ok h raw takes =
      let bytes = all_taken k.server p server takes.takes in
      by takes.takes.found (subst (λ b. StandsAt k.server.limit b takes.takes.found) bytes takes.takes.fed.state) (takes.takes.is ∙ ap (λ b. holding k.server b takes.takes.found) bytes)
    where
      f : Fits limit c k m h.route
      f = h.fits

      alive : m.server_lives c ≡ true
      alive = sym f.server_is ∙ ap server_lives takes.is_open

      is_raw : m.raw c ≡ true
      is_raw = sym f.raw_is ∙ raw

      by : (found : ReaderState) → StandsAt k.server.limit (k.server.held ++ p) found → server ≡ holding k.server (k.server.held ++ p) found → Reaches H does stops limit c (with_server k server) m (shown_calls m.calls) m.log m.handler (t ++ p) g
      by Need o e =
          let still_open : IsOpen limit (k.server.held ++ p) = subst (λ z. IsOpen z (k.server.held ++ p)) f.made.limit_up o in
          rw e (still H does stops limit c (with_server k (holding k.server (k.server.held ++ p) Need)) m (t ++ p) g (record {
            route = h.route;
            fits = raw_need_fits limit c k m h.route f raw (k.server.held ++ p);
            raw = λ q. raw_need limit c k (with_server k (holding k.server (k.server.held ++ p) Need)) m h.route.waiting t g p refl still_open refl refl refl (h.raw raw);
          }))
      by Ready (le, (msg, spells)) e =
          let within : length (k.server.held ++ p) ≤ limit = subst (λ z. length (k.server.held ++ p) ≤ z) f.made.limit_up le in
          rw e (record {
            next = with_new m (stranger c (asked_by msg));
            steps = go {o = with_new m (stranger c (asked_by msg))} stay (appear c (asked_by msg) is_raw alive refl);
            here = record {
              route = record { onway = h.route.onway; waiting = h.route.waiting ++ stranger_tag limit c k m h.route f raw (k.server.held ++ p) msg ∷ []; due = h.route.due };
              fits = appear_fits limit c k m h.route f raw (k.server.held ++ p) msg spells (ok.raws c is_raw);
              raw = λ q. raw_whole limit c k (with_server k (holding k.server (k.server.held ++ p) Ready)) m h.route.waiting t g p msg (stranger_tag limit c k m h.route f raw (k.server.held ++ p) msg) spells within refl refl refl refl refl refl (h.raw raw);
            };
            others = λ d n. same_new d m (stranger c (asked_by msg)) (λ e. n (sym e));
            calls_are = shows-push_other m.calls (stranger c (asked_by msg)) refl;
            log_is = refl;
            handler_is = refl;
          })
      by (Bad fault) bad e =
          let is_bad : IsBad limit (k.server.held ++ p) fault = subst (λ z. IsBad z (k.server.held ++ p) fault) f.made.limit_up bad in
          let closed : ServerView = holding k.server (k.server.held ++ p) (Bad fault) in
          rw e (record {
            next = server_gone m c;
            steps = go {o = server_gone m c} stay (server_lost c refl);
            here = record {
              route = h.route;
              fits = server_gone_fits limit c k m h.route closed k.up_cut refl refl (made_alike limit c k _ refl refl refl refl refl refl refl f.made) (λ a b. absurd (let no : true ≡ false = sym raw ∙ a in cc)) f;
              raw = λ q. raw_bad limit c k (with_server k closed) m h.route.waiting h.route.waiting t g p fault takes.is_open refl is_bad refl refl refl (h.raw raw);
            };
            others = λ d n. same_server_gone d c m n;
            calls_are = shows_never c m.calls;
            log_is = refl;
            handler_is = refl;
          })

  -- the server takes pieces, one after another
  pub take_all_raw : (limit c : ℕ) (pieces : List (List ℕ)) (k : Conn) (m : Machine H) (t g : List ℕ) (server : ServerView) → Ok m → Here limit c k m t g → k.raw ≡ true → ServerTakesAll k.server pieces server
      → Reaches H does stops limit c (with_server k server) m (shown_calls m.calls) m.log m.handler (t ++ joined pieces) g
  take_all_raw limit c [] k m t g server ok h raw takes = rw (takes, append-nil t) (still H does stops limit c k m t g h)
  take_all_raw limit c (p ∷ ps) k m t g server ok h raw (mid, takes, more) =
      let one = take_raw limit c k m t g p mid ok h raw takes in
      let others = take_all_raw limit c ps (with_server k mid) one.next (t ++ p) g server (ok_steps H does stops m one.next ok one.steps) one.here raw more in
      reaches_then H does stops limit c (with_server k mid) (with_server k server) m (shown_calls m.calls) (shown_calls m.calls) (t ++ p) (t ++ (p ++ joined ps)) g g one
      (subst (λ z. Reaches H does stops limit c (with_server k server) one.next z one.next.log one.next.handler (t ++ (p ++ joined ps)) g) one.calls_are
      (subst (λ z. Reaches H does stops limit c (with_server k server) one.next (shown_calls one.next.calls) one.next.log one.next.handler z g) (append_assoc t p (joined ps)) others))
