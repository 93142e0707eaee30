-- One client and one server are the owners of one pair.
use Rattle.std.proofs.Common.{◌≡◌, ◌<◌, ◌^◌, ℕ, Bool, List, [], ◌∷◌, Some, refl, sym, subst, ap, ◌∙◌, inl, inr, arith}
use Rattle.std.specs.Prelude.{if◌then◌else◌, slice_get}
use Rattle.wire_peer.specs.{Does, LogEntry, ServerView, Stops, new_server}
use Rattle.wire_model.specs.{AreMade, Arrive, ClientAct, ClientEnd, ClientRun, Deed, Done, IsCallOf, Made, Record, ServerAct, ServerEnd, ServerEnds, ServerRun, ServersRun, acts_at, among, at_server, first_end, first_servers_of}
use Rattle.wire_model.specs.Machines.{Answered, Place}
use Rattle.wire_model.proofs.Lemmas.{is_elsewhere, is_here, know, run_among, same_or_not}
use Rattle.wire_model.specs.Deeds.{AtClient, AtServer}
use Rattle.wire_model.specs.Knowing.{IsEntry}
use Rattle.wire_end.specs.OnePair.{AreAnswered, AreInOrder, PairKnows, only_client}

-- ---- the acts of each

at_client : (acts : List ClientAct) (served : List ServerAct) (deeds : List Deed) → AreInOrder acts served deeds
    → acts_at 1 deeds ≡ acts
at_client acts served [] o = sym o.0
at_client acts served (AtClient c act ∷ deeds) (is, (more, parts, rest)) =
    ap (λ (b : Bool). if b then act ∷ acts_at 1 deeds else acts_at 1 deeds) (is_here 1 c is)
    ∙ ap (λ (x : List ClientAct). act ∷ x) (at_client more served deeds rest)
    ∙ sym parts
at_client acts served (AtServer c act ∷ deeds) (is, (more, parts, rest)) = at_client acts more deeds rest

elsewhere : (d : ℕ) (acts : List ClientAct) (served : List ServerAct) (deeds : List Deed) → (1 ≡ d → ⊥)
    → AreInOrder acts served deeds → acts_at d deeds ≡ []
elsewhere d acts served [] not o = refl
elsewhere d acts served (AtClient c act ∷ deeds) not (is, (more, parts, rest)) =
    ap (λ (b : Bool). if b then act ∷ acts_at d deeds else acts_at d deeds) (is_elsewhere d c (λ e. not (sym is ∙ e)))
    ∙ elsewhere d more served deeds not rest
elsewhere d acts served (AtServer c act ∷ deeds) not (is, (more, parts, rest)) = elsewhere d acts more deeds not rest

module _ (limit : ℕ) (made : Made) (acts : List ClientAct) (served : List ServerAct) (deeds : List Deed) (order : AreInOrder acts served deeds) where
  -- the only client that did anything is that of connection 1
  clients_run : (own : ClientEnd) → ClientRun 1 (first_end limit (λ _. made) 1) acts own → (c : ℕ)
      → ClientRun c (first_end limit (λ _. made) c) (acts_at c deeds) (only_client limit made own c)
  clients_run own run c = elim (same_or_not 1 c) [
    | inl is ↦
        subst (λ (d : ℕ). ClientRun d (first_end limit (λ _. made) d) (acts_at d deeds) (only_client limit made own d)) is
        (subst (λ (x : List ClientAct). ClientRun 1 (first_end limit (λ _. made) 1) x own) (sym (at_client acts served deeds order)) run)
    | inr not ↦
        subst (λ (x : List ClientAct). ClientRun c (first_end limit (λ _. made) c) x (only_client limit made own c)) (sym (elsewhere c acts served deeds not order))
        (ap (λ (b : Bool). let e : ClientEnd = if b then own else first_end limit (λ _. made) c in e) (is_elsewhere c 1 not))
  ]

module _ {H : Type 0} (does : Does H) (stops : Stops H) where
  -- what was done at the server, among what was done at the client
  in_order : (acts : List ClientAct) (served : List ServerAct) (deeds : List Deed) (old new : ServerEnds H) → AreInOrder acts served deeds
      → ServersRun does stops old (at_server 1 served) new → ServersRun does stops old deeds new
  in_order acts served [] old new o run = subst (λ (x : List ServerAct). ServersRun does stops old (at_server 1 x) new) o.1 run
  in_order acts served (AtClient c act ∷ deeds) old new (is, (more, parts, rest)) run = in_order more served deeds old new rest run
  in_order acts served (AtServer c act ∷ deeds) old new (is, (more, parts, rest)) run =
      let r = subst (λ (x : List ServerAct). ServersRun does stops old (at_server 1 x) new) parts run in
      (r.0, rw is r.1, in_order acts more deeds r.0 new rest r.2)

  pub pair_knows : (limit : ℕ) → limit < 2 ^ 31 → (made : Made) → AreMade (λ _. made) → (acts : List ClientAct) (served : List ServerAct) (deeds : List Deed)
      (client : ClientEnd) (first : H) (server : ServerEnd H) → ClientRun 1 (first_end limit (λ _. made) 1) acts client
      → ServerRun does stops (record { server = new_server 1 made.server_window limit; log = []; handler = first }) served server
      → AreInOrder acts served deeds → Arrive (λ _. []) (λ _. []) deeds → PairKnows does stops limit made first deeds client server
  pair_knows limit short made good acts served deeds client first server ran serves order arrive =
      let s0 : ServerView = new_server 1 made.server_window limit in
      let run : ServersRun does stops (first_servers_of limit (λ _. made) 1 first) (at_server 1 served) (among (server.server ∷ []) server) =
      run_among does stops served 1 (s0 ∷ []) (record { server = s0; log = []; handler = first }) server refl serves in
      know _ does stops limit short first (λ _. made) good 1 deeds (only_client limit made client) (among (server.server ∷ []) server)
      (clients_run limit made acts served deeds order client ran) (in_order acts served deeds _ _ order run) arrive

-- ---- the entries of calls that are done

-- the entry that a place names
abbrev entry_of_place : Place → ℕ
entry_of_place (Answered e) = e
entry_of_place p = 0

module _ {H : Type 0} (does : Does H) (stops : Stops H) (limit : ℕ) (made : Made) (first : H) (deeds : List Deed) (client : ClientEnd) (server : ServerEnd H)
    (knows : PairKnows does stops limit made first deeds client server) where
  abbrev place : ℕ → Place
  place n = knows.owned.place (1, n)

  call : (n : ℕ) (x : Record) → slice_get client.records n ≡ Some x → IsCallOf 1 (only_client limit made client) (1, n) x
  call n x at = (omega arith, omega arith, at)

  answered : (n : ℕ) (x : Record) → slice_get client.records n ≡ Some x → x.state ≡ Done
      → (place n ≡ Answered (entry_of_place (place n))) × ((is : IsEntry server.log (entry_of_place (place n)) x) × (is.entry.answers ≡ Some x.parts))
  answered n x at done =
      let w = knows.owned.whole (1, n) x (call n x at) done in
      let named : entry_of_place (place n) ≡ w.0 = ap entry_of_place w.2 in
      let own : (is : IsEntry server.log w.0 x) × (is.entry.answers ≡ Some x.parts) =
      subst (λ (log : List LogEntry). (is : IsEntry log w.0 x) × (is.entry.answers ≡ Some x.parts)) knows.log (w.1, w.3) in (
        w.2 ∙ ap Answered (sym named),
        subst (λ (e : ℕ). (is : IsEntry server.log e x) × (is.entry.answers ≡ Some x.parts)) (sym named) own,
      )

  pub are_answered : AreAnswered client.records server.log
  are_answered = record {
    entry = λ n. entry_of_place (place n);
    answered = λ n x at done. (answered n x at done).1;
    own = λ n k x y at done at' done' same.
        let is : place n ≡ Answered (entry_of_place (place n)) = (answered n x at done).0 in
        let is' : place k ≡ Answered (entry_of_place (place n)) = (answered k y at' done').0 ∙ ap Answered (sym same) in
        ap (λ (i : ℕ × ℕ). i.1)
        (knows.owned.one_call (1, n) (1, k) x y (entry_of_place (place n)) (call n x at) (call k y at') (inl is) (inl is'));
  }
