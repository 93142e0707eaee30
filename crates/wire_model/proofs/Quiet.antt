-- What follows for a world that agrees with the machine: for quiet connections, uncut ones, and raw
-- ones.
use Rattle.std.proofs.Common.{◌≡◌, ℕ, ◌^◌, ◌<◌, true, false, List, [], ◌∷◌, ◌++◌, refl, sym, ◌∙◌, ap, subst, append_assoc, Some, inl, inr}
use Rattle.std.specs.Prelude.{slice_get}
use Rattle.std.specs.List.{flat_map}
use Rattle.std.proofs.lemmas.List.{append-nil}
use Rattle.wire_msg.specs.{Content, IsOpen, Message, canonical}
use Rattle.wire_peer.specs.{are_left, chain, id_after_one, written}
use Rattle.wire_peer.specs.Chains.{reply}
use Rattle.wire_peer.specs.declared.server_state.ServerState.TheVariants as servers
use Rattle.wire_model.specs.Conns.{Conn, Record, World, conn_at}
use Rattle.wire_model.specs.Hostile.{GivesOwn}
use Rattle.wire_model.specs.Machines.{Call, CallIs, Place, OnWay, Waiting, Answered, Mute, Never, State, Pending, Done, Sent, Lost, Foreign, Machine, is_ours}
use Rattle.wire_model.specs.Shown.{IsOpenOrStopped, IsQuiet, QuietIsDone, UncutIsOpen}
use Rattle.wire_model.proofs.Lists.{Each, Has}
use Rattle.wire_model.proofs.Ranks.{ours, shows-get_back}
use Rattle.wire_model.proofs.Wires.{Fit, open_first}
use Rattle.wire_model.proofs.Chains.{AllFit}
use Rattle.wire_model.proofs.Routes.{Tag, Due, AreRequests, DueIs, due_calls, due_messages, lives, sent, server_lives, spelled, tag_calls, tag_message, to_of}
use Rattle.wire_model.proofs.Promises.{CallOk, holds_as, still_pending}
use Rattle.wire_model.proofs.ConnCalls.{call_of}
use Rattle.wire_model.proofs.RawFits.{raw_apart}
use Rattle.wire_model.proofs.Agreeing.{Agrees, Here}

-- ---- a way whose output is empty has nothing on it

none_onway : (limit i : ℕ) (onway : List Tag) (held output : List ℕ) → limit < 2 ^ 31 → Each (λ t. Fit limit (tag_message t)) onway → held ++ output ≡ flat_map sent onway → output ≡ [] → IsOpen limit held → Has i (tag_calls onway) → ⊥
none_onway limit i [] held output short fit e o open' h = h
none_onway limit i (t ∷ ts) held output short fit e o open' h =
    open_first limit (tag_message t) held (flat_map sent ts) short fit.0 open' (sym (append-nil held) ∙ ap (λ b. held ++ b) (sym o) ∙ e)

none_due : {H : Type 0} (m : Machine H) (limit i : ℕ) (due : List Due) (held output : List ℕ) → limit < 2 ^ 31 → Each (DueIs m) due → Each (λ d. AllFit limit (due_messages d)) due → held ++ output ≡ flat_map spelled due → output ≡ [] → IsOpen limit held → Has i (due_calls due) → ⊥
none_due m limit i [] held output short tags fit e o open' h = h
none_due m limit i (t ∷ ts) held output short tags fit e o open' h = by t.left refl
  where
    by : (left : List Content) → t.left ≡ left → ⊥
    by [] s = let fair = tags.0.fair in rw s at fair
    by (a ∷ bs) s =
        let first : Message = reply t.next (to_of t.last t.tag.id) (are_left bs) a in
        let more : List ℕ = written (chain (id_after_one t.next) (first.id) bs) in
        let fits : AllFit limit (chain t.next (to_of t.last t.tag.id) (a ∷ bs)) = (let all = fit.0 in rw s at all) in
        open_first limit first held (more ++ flat_map spelled ts) short fits.0 open'
        (sym (append-nil held) ∙ ap (λ b. held ++ b) (sym o) ∙ e
        ∙ ap (λ l. written (chain t.next (to_of t.last t.tag.id) l) ++ flat_map spelled ts) s ∙ append_assoc (canonical first) more (flat_map spelled ts))

none_waiting : (i : ℕ) (waiting : List Tag) (requests : List (List ℕ)) → AreRequests requests waiting → requests ≡ [] → Has i (tag_calls waiting) → ⊥
none_waiting i [] requests same o h = h
none_waiting i (t ∷ ts) requests same o h = rw o at same

-- ---- quiet connections

quiet_done : {H : Type 0} (limit : ℕ) (t g : ℕ → List ℕ) (w : World H) (m : Machine H) → limit < 2 ^ 31 → Agrees limit t g w m → (c : ℕ) → IsQuiet w c → (i : ℕ) (x : Call) → CallIs m.calls i x → ours x ≡ true → x.connection ≡ c → x.asked.more_to_come ≡ false → x.state ≡ Done
quiet_done limit t g w m short a c q i x at mine conn loud = by x.place refl
  where
    here : Here limit c q.k m (t c) (g c)
    here = a.ways.conns c q.k q.at

    ok : CallOk m x
    ok = a.ways.ok.each i x at

    raw : q.k.raw ≡ false
    raw = here.fits.raw_is ∙ ap m.raw (sym conn) ∙ ok.owned mine

    client : m.client_lives c ≡ true
    client = sym here.fits.client_is ∙ ap lives (here.fits.down_uncut raw q.down_uncut)

    server_open : IsOpenOrStopped q.k.server.state → q.k.server.state ≡ servers.Open
    server_open (inl e) = e
    server_open (inr e) = absurd (q.not_stopped e)

    server : m.server_lives c ≡ true
    server = sym here.fits.server_is ∙ ap server_lives (server_open (here.fits.up_uncut raw q.up_uncut))

    there : m.server_lives x.connection ≡ true
    there = ap m.server_lives conn ∙ server

    by : (p : Place) → x.place ≡ p → x.state ≡ Done
    by OnWay is = let u = here.fits.up server raw in absurd (none_onway limit i here.route.onway q.k.server.held q.k.client.requests.output short u.fit u.bytes q.up_empty u.still_open (u.are.all i x at (conn, is)))
    by Waiting is = let u = here.fits.wait server in absurd (none_waiting i here.route.waiting q.k.server.waiting u.same q.none_waits (u.are.all i x at (conn, is)))
    by (Answered e) is = elim (holds_as m x (Answered e) ok is).2 [
      | inl d ↦ d.0
      | inr part ↦ let d = here.fits.down client in absurd (none_due m limit i here.route.due q.k.client.held q.k.server.output short d.tags d.fit d.bytes q.down_empty d.still_open
          (d.are.all i x at (conn, still_pending m x a.ways.ok ok loud (ap m.client_lives conn ∙ client) part.0, (e, is))))
    ]
    by (Mute e) is = absurd (let no : true ≡ false = sym there ∙ ok.mute loud (inr (e, is)) in cc)
    by Never is = absurd (let no : true ≡ false = sym there ∙ ok.mute loud (inl is) in cc)

pub quiet_of : {H : Type 0} (limit : ℕ) (t g : ℕ → List ℕ) (w : World H) (m : Machine H) → limit < 2 ^ 31 → Agrees limit t g w m → QuietIsDone w
quiet_of limit t g w m short a c q i x at conn loud =
    let p = shows-get_back m.calls i x (ap (λ cs. slice_get cs i) a.calls ∙ at) in
    ap (λ (z : Record). z.state) (sym p.3) ∙ quiet_done limit t g w m short a c q p.0 p.1 p.2 p.4 (ap (λ (z : Record). z.connection) p.3 ∙ conn) (ap (λ (z : Record). z.asked.more_to_come) p.3 ∙ loud)

-- ---- uncut connections, and raw ones

pub uncut_of : {H : Type 0} (limit : ℕ) (t g : ℕ → List ℕ) (w : World H) (m : Machine H) → Agrees limit t g w m → UncutIsOpen w
uncut_of limit t g w m a c k at raw up down = let f = (a.ways.conns c k at).fits in (f.down_uncut raw down, f.up_uncut raw up)

foreign_if : (s : State) → (is_ours s ≡ true → ⊥) → s ≡ Foreign
foreign_if Pending n = absurd (n refl)
foreign_if Done n = absurd (n refl)
foreign_if Sent n = absurd (n refl)
foreign_if Lost n = absurd (n refl)
foreign_if Foreign n = refl

pub apart_of : {H : Type 0} (limit : ℕ) (t g : ℕ → List ℕ) (w : World H) (m : Machine H) → Agrees limit t g w m → (c : ℕ) (k : Conn) → conn_at w.conns c ≡ Some k → k.raw ≡ true → GivesOwn limit c (t c) (g c ++ k.server.output) k.server.state m.calls w.log
apart_of limit t g w m a c k at raw =
    let here = a.ways.conns c k at in
    subst (λ log. GivesOwn limit c (t c) (g c ++ k.server.output) k.server.state m.calls log) a.log (raw_apart limit c k m here.route.waiting (t c) (g c) (here.raw raw)
    (λ i x g. let p = call_of c m.calls i x g in
    foreign_if x.state (λ mine. let no : true ≡ false = sym raw ∙ here.fits.raw_is ∙ ap m.raw (sym p.2) ∙ (a.ways.ok.each p.0 x p.1).owned mine in cc)))
