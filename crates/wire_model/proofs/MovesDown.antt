-- Each piece that a client takes is a step that the machine can do, or none.
use Rattle.std.proofs.Common.{◌≡◌, ℕ, ℤ, pos, ◌<◌, ◌≤◌, ◌^◌, Bool, true, false, List, [], ◌∷◌, ◌++◌, length, map, take, refl, sym, ◌∙◌, ap, subst, arith, append_assoc, Option, Some, None, ◌⊎◌, inl, inr}
use Rattle.std.specs.Prelude.{not, slice_get, slice_set}
use Rattle.std.proofs.lemmas.List.{take_all}
use Rattle.std.proofs.lemmas.Option.{same_Some}
use Rattle.std.specs.List.{flat_map}
use Rattle.wire_msg.specs.{Content, IsBad, IsOpen, Message, SpellsMsg}
use Rattle.wire_peer.specs.{ClientSeen, Does, Settles, Stops, after_message, are_left, chain, holding, id_after_one, released, written}
use Rattle.wire_peer.specs.ClientSteps.{is_bad, is_message, is_open}
use Rattle.wire_peer.specs.declared.call_table.ReadyReply.{ReadyReply}
use Rattle.wire_model.specs.Conns.{Conn, Record, given_record}
use Rattle.wire_model.specs.Machines.{Call, CallIs, Answered, IsDue, Machine, stay, go, give_back, with_part, with_call}
use Rattle.wire_model.specs.Moves.{ClientTakes, ClientTakesAll, CopiesReply, joined, put_at, put_part}
use Rattle.wire_model.specs.Shown.{shown, shown_calls}
use Rattle.wire_model.proofs.Agreeing.{Here}
use Rattle.wire_model.proofs.Frames.{same_with_call}
use Rattle.wire_model.proofs.Lists.{Has, Each}
use Rattle.wire_model.proofs.Promises.{Ok, ok_steps, ours_here, still_pending, undone}
use Rattle.wire_model.proofs.Ranks.{ours, rank, shows-get, shows-set}
use Rattle.wire_model.proofs.Reaches.{Reaches, reaches_then, still}
use Rattle.wire_model.proofs.Return
use Rattle.wire_model.proofs.Return.{Begins, conn_down, due_of, ready, released_none}
use Rattle.wire_model.proofs.Routes.{Due, DueAt, DueIs, DownFits, Fits, Route, Tag, due_calls, lives, spelled}
use Rattle.wire_model.proofs.Wires.{same_request}

least_entry : {H : Type 0} (m : Machine H) (ds : List Due) (least : ℕ) → ((i : ℕ) → Has i (map (λ a. a.entry) ds) → least ≤ i) → Each (DueIs m) ds → (j e' : ℕ) (y : Call) → CallIs m.calls j y → y.place ≡ Answered e' → Has j (due_calls ds) → least ≤ e'
least_entry m [] least below tags j e' y g at h = absurd h
least_entry m (a ∷ ds) least below tags j e' y g at (inl q) =
    let is = tags.0 in
    let same : is.tag.x ≡ y = same_Some is.tag.x y (sym is.tag.at ∙ ap (slice_get m.calls) (sym q) ∙ g) in
    let places : Answered a.entry ≡ Answered e' = sym is.place ∙ ap (λ (z : Call). z.place) same ∙ at in
    let entries : a.entry ≡ e' = cc in
    let le : least ≤ a.entry = below a.entry (inl refl) in omega arith
least_entry m (a ∷ ds) least below tags j e' y g at (inr h) = least_entry m ds least (λ i has. below i (inr has)) tags.1 j e' y g at h

at_least : (e i : ℕ) → (i ≡ e) ⊎ (e < i) → e ≤ i
at_least e i (inl q) = omega arith
at_least e i (inr q) = omega arith

-- the part goes into the record
copied_are : (calls : List Call) (indexes : List ℕ) (held : List ℕ) (r : ReadyReply) (copied : List Record) (msg : Message) (number index i : ℕ) (x y : Call) (a : Content) (last : Bool)
    → CopiesReply indexes held (Some r) (shown_calls calls) copied → SpellsMsg msg held → msg.content ≡ a → r ≡ record { call = number; last = last } → slice_get indexes number ≡ Some index
    → rank calls i ≡ index → CallIs calls i x → ours x ≡ true → ours y ≡ true → shown y ≡ given_record (shown x) a last → shown_calls (slice_set calls i y) ≡ copied
copied_are calls indexes held r copied msg number index i x y a last (msg', spells', is_copied) spells content is_reply at_index same at mine yours is =
    let part : msg'.content ≡ a = ap (λ (z : Message). z.content) (same_request msg' msg held spells' spells) ∙ content in
    let place : slice_get (shown_calls calls) index ≡ Some (shown x) = ap (slice_get (shown_calls calls)) (sym same) ∙ shows-get calls i x at mine in
    shows-set calls i x y at mine yours ∙ ap (λ n. slice_set (shown_calls calls) n (shown y)) same ∙ ap (slice_set (shown_calls calls) index) is
    ∙ sym (is_copied ∙ ap (λ (z : ReadyReply). put_at (slice_get indexes z.call) msg'.content z.last (shown_calls calls)) is_reply
    ∙ ap (λ o. put_at o msg'.content last (shown_calls calls)) at_index
    ∙ ap (λ o. put_part o index msg'.content last (shown_calls calls)) place
    ∙ ap (λ b. slice_set (shown_calls calls) index (given_record (shown x) b last)) part)

module _ (H : Type 0) (does : Does H) (stops : Stops H) where
  -- the first reply that is due is ready
  module _ (limit : ℕ) (short : limit < 2 ^ 31) (c : ℕ) (k : Conn) (m : Machine H) (r : Route) (t g : List ℕ) (p rest : List ℕ) (mid : ClientSeen) (copied : List Record) (ok : Ok m) (f : Fits limit c k m r) (alive : m.client_lives c ≡ true) (raw : k.raw ≡ false) (output : k.server.output ≡ p ++ rest)
      (msg : Message) (spells : SpellsMsg msg mid.held) (copies : CopiesReply k.calls mid.held mid.reply (shown_calls m.calls) copied)
      (tag : Tag) (last : Option ℤ) (next : ℕ) (a : Content) (entry : ℕ) (ds : List Due) (x : Call) (at : CallIs m.calls tag.call x) (is : DueAt c x) where
    all_ours : (i : ℕ) (y : Call) → CallIs m.calls i y → y.connection ≡ c → ours y ≡ true
    all_ours i y at here = ours_here m y ok (ok.each i y at) (ap m.client_lives here ∙ alive)

    abbrev Down : List Due → Type 0
    Down due = DownFits limit c k.client.held k.server.output k.client.reply k.client.requests.outstanding k.calls m due

    -- the call that it is for has fewer parts than answers
    abbrev is_due : (bs : List Content) → DueIs m (due_of tag last next a bs entry) → IsDue m.log x entry
    is_due bs head = let same : head.tag.x ≡ x = same_Some head.tag.x x (sym head.tag.at ∙ at) in record {
      place = ap (λ (z : Call). z.place) (sym same) ∙ head.place;
      entry = head.entry;
      in_log = head.in_log;
      owes = (a, bs, head.answers ∙ ap (λ (z : Call). Some (z.parts ++ a ∷ bs)) same);
    }

    least : (bs : List Content) → Down (due_of tag last next a bs entry ∷ ds) → (j e' : ℕ) (y : Call) → CallIs m.calls j y → y.connection ≡ x.connection → IsDue m.log y e' → entry ≤ e'
    least bs old j e' y at_y same d =
        let here : m.client_lives y.connection ≡ true = ap m.client_lives (same ∙ is.0) ∙ alive in
        least_entry m (due_of tag last next a bs entry ∷ ds) entry (λ i h. at_least entry i (elim h [ inl q ↦ inl q | inr h' ↦ inr (old.rising.0 i h') ])) old.tags j e' y at_y d.place
        (old.are.all j y at_y (same ∙ is.0, still_pending m y ok (ok.each j y at_y) ((ok.each j y at_y).answered e' d.place) here (undone m y e' d here ok.raws (ok.each j y at_y)), (e', d.place)))

    copied_to : (y : Call) (bs : List Content) (b : Bool) → Down (due_of tag last next a bs entry ∷ ds) → are_left bs ≡ b → msg.content ≡ a → mid ≡ ready k.client (k.client.held ++ p) tag last next b → ours y ≡ true → shown y ≡ given_record (shown x) a (not b) → shown_calls (slice_set m.calls tag.call y) ≡ copied
    copied_to y bs b old left content e yours is_shown = copied_are m.calls k.calls mid.held (record { call = tag.number; last = not b }) copied msg tag.number tag.index tag.call x y a (not b)
        (subst (λ (o : Option ReadyReply). CopiesReply k.calls mid.held o (shown_calls m.calls) copied) (ap (λ (z : ClientSeen). z.reply) e) copies)
        spells content refl old.ids.0.at old.tags.0.tag.index at (all_ours tag.call x at is.0) yours is_shown

    part_back : (b : Content) (bs : List Content) → Down (due_of tag last next a (b ∷ bs) entry ∷ ds) → rest ≡ written (chain (id_after_one next) (pos next) (b ∷ bs)) ++ flat_map spelled ds
        → msg.content ≡ a → mid ≡ ready k.client (k.client.held ++ p) tag last next true → Reaches H does stops limit c (conn_down k (released mid) rest) m copied m.log m.handler t g
    part_back b bs old is_rest content e = record {
      next = with_call m tag.call (with_part x a true);
      steps = go {o = with_call m tag.call (with_part x a true)} stay (give_back tag.call entry x (is_due (b ∷ bs) old.tags.0) (ap m.client_lives is.0 ∙ alive) at (least (b ∷ bs) old) refl);
      here = rw e (record {
        route = record { onway = r.onway; waiting = r.waiting; due = due_of tag (Some (pos next)) (id_after_one next) b bs entry ∷ ds };
        fits = Return.part_fits limit short c k m r f alive raw p rest output all_ours tag last next a entry ds x at is b bs old is_rest;
        raw = λ q. absurd (let no : true ≡ false = sym q ∙ raw in cc);
      });
      others = λ d n. same_with_call d m tag.call x (with_part x a true) at (λ z. n (sym z ∙ is.0)) refl refl refl;
      calls_are = copied_to (with_part x a true) (b ∷ bs) true old refl content e (all_ours tag.call x at is.0) refl;
      log_is = refl;
      handler_is = refl;
    }

    whole_back : Down (due_of tag last next a [] entry ∷ ds) → rest ≡ flat_map spelled ds
        → msg.content ≡ a → mid ≡ ready k.client (k.client.held ++ p) tag last next false → Reaches H does stops limit c (conn_down k (released mid) rest) m copied m.log m.handler t g
    whole_back old is_rest content e = record {
      next = with_call m tag.call (with_part x a false);
      steps = go {o = with_call m tag.call (with_part x a false)} stay (give_back tag.call entry x (is_due [] old.tags.0) (ap m.client_lives is.0 ∙ alive) at (least [] old) refl);
      here = rw e (record {
        route = record { onway = r.onway; waiting = r.waiting; due = ds };
        fits = Return.whole_fits limit short c k m r f alive raw p rest output all_ours tag last next a entry ds x at is old is_rest;
        raw = λ q. absurd (let no : true ≡ false = sym q ∙ raw in cc);
      });
      others = λ d n. same_with_call d m tag.call x (with_part x a false) at (λ z. n (sym z ∙ is.0)) refl refl (sym (all_ours tag.call x at is.0));
      calls_are = copied_to (with_part x a false) [] false old refl content e refl refl;
      log_is = refl;
      handler_is = refl;
    }

    pub back : (bs : List Content) → Down (due_of tag last next a bs entry ∷ ds) → rest ≡ written (chain (id_after_one next) (pos next) bs) ++ flat_map spelled ds
        → msg.content ≡ a → mid ≡ ready k.client (k.client.held ++ p) tag last next (are_left bs) → Reaches H does stops limit c (conn_down k (released mid) rest) m copied m.log m.handler t g
    back [] old is_rest content e = whole_back old is_rest content e
    back (b ∷ bs) old is_rest content e = part_back b bs old is_rest content e

  -- the client takes a piece, and a reply that is ready goes into its record
  take_down : (limit : ℕ) → limit < 2 ^ 31 → (c : ℕ) (k : Conn) (m : Machine H) (t g : List ℕ) (p rest : List ℕ) (mid : ClientSeen) (copied : List Record) → Ok m → Here limit c k m t g → k.raw ≡ false → k.server.output ≡ p ++ rest
      → ClientTakes k.client p mid → CopiesReply k.calls mid.held mid.reply (shown_calls m.calls) copied → Reaches H does stops limit c (conn_down k (released mid) rest) m copied m.log m.handler t g
  take_down limit short c k m t g p rest mid copied ok h raw output takes copies = by takes.takes.settles
    where
      f : Fits limit c k m h.route
      f = h.fits

      alive : m.client_lives c ≡ true
      alive = sym f.client_is ∙ ap lives takes.may.1

      all : k.client.held ++ take (length p) p ≡ k.client.held ++ p
      all = ap (λ b. k.client.held ++ b) (take_all (length p) p (omega arith))

      with_x : (msg : Message) → SpellsMsg msg mid.held → (b : Begins h.route.due msg rest) → DownFits limit c k.client.held k.server.output k.client.reply k.client.requests.outstanding k.calls m (due_of b.tag b.last b.next b.a b.bs b.entry ∷ b.ds)
          → mid ≡ ready k.client (k.client.held ++ p) b.tag b.last b.next (are_left b.bs)
          → ((x : Call) × CallIs m.calls b.tag.call x × DueAt c x) → Reaches H does stops limit c (conn_down k (released mid) rest) m copied m.log m.handler t g
      with_x msg spells b old e (x, at, is) = back limit short c k m h.route t g p rest mid copied ok f alive raw output msg spells copies b.tag b.last b.next b.a b.entry b.ds x at is b.bs old b.left (ap (λ (z : Message). z.content) b.message) e

      by : Settles (holding k.client (k.client.held ++ take (length p) p)) mid → Reaches H does stops limit c (conn_down k (released mid) rest) m copied m.log m.handler t g
      by (is_open o e) =
          let is_mid : mid ≡ holding k.client (k.client.held ++ p) = e ∙ ap (holding k.client) all in
          let none : mid.reply ≡ None = ap (λ (z : ClientSeen). z.reply) is_mid ∙ takes.may.0 in
          let same : copied ≡ shown_calls m.calls = subst (λ (o : Option ReadyReply). CopiesReply k.calls mid.held o (shown_calls m.calls) copied) none copies in
          let client : released mid ≡ holding k.client (k.client.held ++ p) = released_none mid none ∙ is_mid in
          let held_open : IsOpen limit (k.client.held ++ p) = subst (λ z. IsOpen z (k.client.held ++ p)) f.made.limit_down (subst (IsOpen k.client.requests.limit) all o) in
          rw (client, same) (still H does stops limit c (conn_down k (holding k.client (k.client.held ++ p)) rest) m t g (record {
            route = h.route;
            fits = Return.need_fits limit short c k m h.route f alive raw p rest output held_open;
            raw = λ q. absurd (let no : true ≡ false = sym q ∙ raw in cc);
          }))
      by (is_message msg s le e) =
          let spells : SpellsMsg msg (k.client.held ++ p) = subst (SpellsMsg msg) all s in
          let b = Return.first_due limit short c k m h.route f alive raw p rest output msg h.route.due (f.down alive) spells in
          let old : DownFits limit c k.client.held k.server.output k.client.reply k.client.requests.outstanding k.calls m (due_of b.tag b.last b.next b.a b.bs b.entry ∷ b.ds) =
          subst (λ due. DownFits limit c k.client.held k.server.output k.client.reply k.client.requests.outstanding k.calls m due) b.is (f.down alive) in
          let is_mid : mid ≡ ready k.client (k.client.held ++ p) b.tag b.last b.next (are_left b.bs) =
          e ∙ ap (λ z. after_message (holding k.client z) msg) all ∙ Return.ready_is limit short c k m h.route f alive raw p rest output msg b.tag b.last b.next b.a b.bs b.entry b.ds b.message old in
          with_x msg (subst (SpellsMsg msg) (ap (λ (z : ClientSeen). z.held) (sym is_mid)) spells) b old is_mid (old.are.each b.tag.call (inl refl))
      by (is_bad fault bad e) = absurd (Return.never_bad limit short c k m h.route f alive raw p rest output h.route.due fault (f.down alive)
          (subst (λ z. IsBad z (k.client.held ++ p) fault) f.made.limit_down (subst (λ b. IsBad k.client.requests.limit b fault) all bad)))

  -- the client takes pieces, one after another
  pub take_all_down : (limit : ℕ) → limit < 2 ^ 31 → (c : ℕ) (pieces : List (List ℕ)) (k : Conn) (m : Machine H) (t g : List ℕ) (rest : List ℕ) (client : ClientSeen) (calls : List Record) → Ok m → Here limit c k m t g → k.raw ≡ false → k.server.output ≡ joined pieces ++ rest
      → ClientTakesAll k.calls k.client (shown_calls m.calls) pieces client calls → Reaches H does stops limit c (conn_down k client rest) m calls m.log m.handler t g
  take_all_down limit short c [] k m t g rest client calls ok h raw output takes = rw (takes.0, takes.1, ← output) (still H does stops limit c k m t g h)
  take_all_down limit short c (p ∷ ps) k m t g rest client calls ok h raw output (mid, takes, (copied, copies, more)) =
      let one = take_down limit short c k m t g p (joined ps ++ rest) mid copied ok h raw (output ∙ append_assoc p (joined ps) rest) takes copies in
      reaches_then H does stops limit c (conn_down k (released mid) (joined ps ++ rest)) (conn_down k client rest) m copied calls t t g g one
      (take_all_down limit short c ps (conn_down k (released mid) (joined ps ++ rest)) one.next t g rest client calls (ok_steps H does stops m one.next ok one.steps) one.here raw refl
      (subst (λ z. ClientTakesAll k.calls (released mid) z ps client calls) (sym one.calls_are) more))
