-- Each piece that a server takes from its client is a step that the machine can do, or none.
use Rattle.std.proofs.Common.{◌≡◌, ℕ, ◌<◌, ◌≤◌, ◌^◌, true, false, List, [], ◌∷◌, ◌++◌, length, refl, sym, ◌∙◌, ap, subst, arith, append_assoc, inl, inr}
use Rattle.std.proofs.lemmas.List.{take_all}
use Rattle.std.specs.List.{flat_map}
use Rattle.wire_msg.specs.{IsBad, IsOpen, Message, SpellsMsg}
use Rattle.wire_stream.specs.{StandsAt}
use Rattle.wire_stream.specs.declared.reader_state.ReaderState.{ReaderState}
use Rattle.wire_stream.specs.declared.reader_state.ReaderState.TheVariants.{Need, Ready, Bad}
use Rattle.wire_peer.specs.{Does, ServerView, Stops, TakesBytes}
use Rattle.wire_peer.specs.Servers.{holding}
use Rattle.wire_model.specs.Conns.{Conn}
use Rattle.wire_model.specs.Machines.{Call, CallIs, OnWay, Waiting, Machine, stay, go, arrive, placed, with_call}
use Rattle.wire_model.specs.Moves.{ServerTakes, ServerTakesAll, joined}
use Rattle.wire_model.specs.Shown.{shown_calls}
use Rattle.wire_model.proofs.Agreeing.{Here}
use Rattle.wire_model.proofs.Arrive
use Rattle.wire_model.proofs.Arrive.{conn_up}
use Rattle.wire_model.proofs.Frames.{same_with_call}
use Rattle.wire_model.proofs.Ranks.{shows-set_same}
use Rattle.wire_model.proofs.Reaches.{Reaches, reaches_then, still}
use Rattle.wire_model.proofs.Routes.{Fits, OnWayAt, Tag, UpFits, sent, server_lives, tag_message}

-- the whole piece was added to the held bytes
pub all_taken : (s : ServerView) (p : List ℕ) (server : ServerView) (t : TakesBytes s p (length p) server) → t.bytes ≡ s.held ++ p
all_taken s p server t = t.fed.held ∙ ap (λ b. s.held ++ b) (take_all (length p) p (omega arith))

module _ (H : Type 0) (does : Does H) (stops : Stops H) where
  -- the server takes a piece
  take_up : (limit : ℕ) → limit < 2 ^ 31 → (c : ℕ) (k : Conn) (m : Machine H) (t g p rest : List ℕ) (server : ServerView) → Here limit c k m t g → k.raw ≡ false → k.client.requests.output ≡ p ++ rest → ServerTakes k.server p server
      → Reaches H does stops limit c (conn_up k server rest) m (shown_calls m.calls) m.log m.handler t g
  take_up limit short c k m t g p rest server h raw output takes =
      let bytes = all_taken k.server p server takes.takes in
      by takes.takes.found (subst (λ b. StandsAt k.server.limit b takes.takes.found) bytes takes.takes.fed.state) (takes.takes.is ∙ ap (λ b. holding k.server b takes.takes.found) bytes)
    where
      f : Fits limit c k m h.route
      f = h.fits

      alive : m.server_lives c ≡ true
      alive = sym f.server_is ∙ ap server_lives takes.is_open

      arrives : (msg : Message) (tag : Tag) (ts : List Tag) → SpellsMsg msg (k.server.held ++ p) → h.route.onway ≡ tag ∷ ts → msg ≡ tag_message tag → rest ≡ flat_map sent ts → UpFits limit c k.server.held k.client.requests.output m (tag ∷ ts) → ((x : Call) × CallIs m.calls tag.call x × OnWayAt c x)
          → Reaches H does stops limit c (conn_up k (holding k.server (k.server.held ++ p) Ready) rest) m (shown_calls m.calls) m.log m.handler t g
      arrives msg tag ts spells way same is_rest u (x, at, on) =
          let least : (j : ℕ) (y : Call) → CallIs m.calls j y → y.connection ≡ x.connection → y.place ≡ OnWay → tag.call ≤ j =
          (λ j y at_y here o. elim (u.are.all j y at_y (here ∙ on.0, o)) [ inl e ↦ (omega arith) | inr has ↦ (let lt : tag.call < j = u.rising.0 j has in omega arith) ]) in
          record {
            next = with_call m tag.call (placed x Waiting);
            steps = go {o = with_call m tag.call (placed x Waiting)} stay (arrive tag.call x (ap m.server_lives on.0 ∙ alive) at on.1 least refl);
            here = record {
              route = record { onway = ts; waiting = h.route.waiting ++ tag ∷ []; due = h.route.due };
              fits = Arrive.arrive_fits limit short c k m h.route f alive raw p rest output msg tag ts spells way u x at on same is_rest;
              raw = λ q. absurd (let no : true ≡ false = sym q ∙ raw in cc);
            };
            others = λ d n. same_with_call d m tag.call x (placed x Waiting) at (λ e. n (sym e ∙ on.0)) refl refl refl;
            calls_are = shows-set_same m.calls tag.call x (placed x Waiting) at refl;
            log_is = refl;
            handler_is = refl;
          }

      by : (found : ReaderState) → StandsAt k.server.limit (k.server.held ++ p) found → server ≡ holding k.server (k.server.held ++ p) found → Reaches H does stops limit c (conn_up k server rest) m (shown_calls m.calls) m.log m.handler t g
      by Need o e = rw e (still H does stops limit c (conn_up k (holding k.server (k.server.held ++ p) Need) rest) m t g (record {
        route = h.route;
        fits = Arrive.need_fits limit short c k m h.route f alive raw p rest output (subst (λ z. IsOpen z (k.server.held ++ p)) f.made.limit_up o);
        raw = λ q. absurd (let no : true ≡ false = sym q ∙ raw in cc);
      }))
      by Ready (le, (msg, spells)) e =
          let u = f.up alive raw in
          let first = Arrive.first_of_way limit short c k m h.route f alive raw p rest output msg h.route.onway u spells in
          let u' : UpFits limit c k.server.held k.client.requests.output m (first.0 ∷ first.1) = (rw first.2 at u) in
          rw e (arrives msg first.0 first.1 spells first.2 first.3 first.4 u' (u'.are.each first.0.call (inl refl)))
      by (Bad fault) bad e = absurd (Arrive.never_bad limit short c k m h.route f alive raw p rest output h.route.onway fault (f.up alive raw) (subst (λ z. IsBad z (k.server.held ++ p) fault) f.made.limit_up bad))

  -- the server takes pieces, one after another
  pub take_all_up : (limit : ℕ) → limit < 2 ^ 31 → (c : ℕ) (pieces : List (List ℕ)) (k : Conn) (m : Machine H) (t g rest : List ℕ) (server : ServerView) → Here limit c k m t g → k.raw ≡ false → k.client.requests.output ≡ joined pieces ++ rest → ServerTakesAll k.server pieces server
      → Reaches H does stops limit c (conn_up k server rest) m (shown_calls m.calls) m.log m.handler t g
  take_all_up limit short c [] k m t g rest server h raw output takes = rw (takes, ← output) (still H does stops limit c k m t g h)
  take_all_up limit short c (p ∷ ps) k m t g rest server h raw output (mid, takes, more) =
      let one = take_up limit short c k m t g p (joined ps ++ rest) mid h raw (output ∙ append_assoc p (joined ps) rest) takes in
      let others = take_all_up limit short c ps (conn_up k mid (joined ps ++ rest)) one.next t g rest server one.here raw refl more in
      reaches_then H does stops limit c (conn_up k mid (joined ps ++ rest)) (conn_up k server rest) m (shown_calls m.calls) (shown_calls m.calls) t t g g one
      (subst (λ z. Reaches H does stops limit c (conn_up k server rest) one.next z one.next.log one.next.handler t g) one.calls_are others)
