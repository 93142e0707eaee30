-- What the owners of ends whose limits differ know.
use Rattle.std.proofs.Common.{◌≡◌, ℕ, zero, suc, ◌≤◌, List, [], ◌∷◌, ◌++◌, length, refl, sym, ◌∙◌, ap, subst, arith, Some, ◌⊎◌, inl, inr}
use Rattle.std.specs.Prelude.{slice_get}
use Rattle.std.proofs.lemmas.Option.{none-some}
use Rattle.wire_peer.specs.{Asked, ClientSeen, Does, IsLimit, LogEntry, ServerView, Stops, new_server}
use Rattle.wire_peer.specs.declared.client_state.ClientState.TheVariants as clients
use Rattle.wire_model.specs.Machines.{Done, Foreign, Lost, Machine, Pending, Place, Sent, State, lost_state}
use Rattle.wire_model.specs.Conns.{Record}
use Rattle.wire_model.proofs.Lists.{get-push_cases, get-push_new, get-push_old}
use Rattle.wire_model.proofs.Places.{length-push}
use Rattle.wire_model.specs.Owners.{AreMade, ClientEnd, ClientRun, Made, ServerEnds, first_end, first_servers, first_servers_of, server_at}
use Rattle.wire_model.specs.Deeds.{Arrive, Deed, ServersRun, acts_at}
use Rattle.wire_model.specs.Knowing.{AreQuiet, HoldsBeginning, IsCallOf, IsEntry, Owned, OwnersKnow}
use Rattle.wire_model.specs.Limits.{servers_with, servers_with_limits}
use Rattle.wire_model.proofs.Knows.{know}
use Rattle.wire_model.proofs.EndLimits.{Found, find}
use Rattle.wire_model.proofs.Starts.{many_servers}
use Rattle.wire_model.proofs.WiderActs.{EndLike}
use Rattle.wire_model.proofs.WiderClient.{Like, like_back, like_there, open_too}
use Rattle.wire_model.proofs.WiderServer.{as_open, widened}
use Rattle.wire_model.proofs.WiderServes.{ServerLike, ServersLike}
use Rattle.wire_msg.specs.declared.header.TheConstants.{MAX_MESSAGE_LEN}

-- ---- records that are alike

record Facts (x y : Record) : Type 0 where
  connection : y.connection ≡ x.connection
  asked : y.asked ≡ x.asked
  parts : y.parts ≡ x.parts
  done : x.state ≡ Done → y.state ≡ Done
  done_back : y.state ≡ Done → x.state ≡ Done
  sent_back : y.state ≡ Sent → x.state ≡ Sent
  undone : (x.state ≡ Pending) ⊎ (x.state ≡ Lost) → (y.state ≡ Pending) ⊎ (y.state ≡ Lost)

lost_done : (s : State) → lost_state s ≡ Done → s ≡ Done
lost_done Pending e = absurd (let no_ : Lost ≡ Done = e in cc)
lost_done Done e = refl
lost_done Sent e = absurd (let no_ : Sent ≡ Done = e in cc)
lost_done Lost e = absurd (let no_ : Lost ≡ Done = e in cc)
lost_done Foreign e = absurd (let no_ : Foreign ≡ Done = e in cc)

lost_sent : (s : State) → lost_state s ≡ Sent → s ≡ Sent
lost_sent Pending e = absurd (let no_ : Lost ≡ Sent = e in cc)
lost_sent Done e = absurd (let no_ : Done ≡ Sent = e in cc)
lost_sent Sent e = refl
lost_sent Lost e = absurd (let no_ : Lost ≡ Sent = e in cc)
lost_sent Foreign e = absurd (let no_ : Foreign ≡ Sent = e in cc)

facts : (x y : Record) → Like x y → Facts x y
facts x y (inl e) = record {
  connection = ap (λ (z : Record). z.connection) e;
  asked = ap (λ (z : Record). z.asked) e;
  parts = ap (λ (z : Record). z.parts) e;
  done = λ d. ap (λ (z : Record). z.state) e ∙ d;
  done_back = λ d. ap (λ (z : Record). z.state) (sym e) ∙ d;
  sent_back = λ d. ap (λ (z : Record). z.state) (sym e) ∙ d;
  undone = λ u. elim u [
    | inl p ↦ inl (ap (λ (z : Record). z.state) e ∙ p)
    | inr q ↦ inr (ap (λ (z : Record). z.state) e ∙ q)
  ];
}
facts x y (inr e) = record {
  connection = ap (λ (z : Record). z.connection) e;
  asked = ap (λ (z : Record). z.asked) e;
  parts = ap (λ (z : Record). z.parts) e;
  done = λ d. ap (λ (z : Record). z.state) e ∙ ap lost_state d;
  done_back = λ d. lost_done x.state (ap (λ (z : Record). z.state) (sym e) ∙ d);
  sent_back = λ d. lost_sent x.state (ap (λ (z : Record). z.state) (sym e) ∙ d);
  undone = λ u. inr (elim u [
    | inl p ↦ ap (λ (z : Record). z.state) e ∙ ap lost_state p
    | inr q ↦ ap (λ (z : Record). z.state) e ∙ ap lost_state q
  ]);
}

abbrev entry_of : (log : List LogEntry) (e : ℕ) (x y : Record) → Facts x y → IsEntry log e y
    → IsEntry log e x
entry_of log e x y f is = record {
  entry = is.entry;
  at = is.at;
  connection = is.connection ∙ f.connection;
  payload = is.payload ∙ ap (λ (a : Asked). a.payload) f.asked;
}

beginning_of : (log : List LogEntry) (p : Place) (x y : Record) → Facts x y
    → HoldsBeginning log p y → HoldsBeginning log p x
beginning_of log p x y f (inl (e, is, names, (part, rest, owes))) = inl (
  e,
  entry_of log e x y f is,
  names,
  (part, rest, owes ∙ ap (λ z. Some (z ++ part ∷ rest)) f.parts),
)
beginning_of log p x y f (inr (none, all)) = inr (
  sym f.parts ∙ none,
  λ e names. let w = all e names in (entry_of log e x y f w.0, w.1),
)

owned_like : {H : Type 0} (m : Machine H) (wide k : ℕ) (ends ends0 : ℕ → ClientEnd)
    → ((c : ℕ) → EndLike wide (ends c) (ends0 c)) → Owned m (IsCallOf k ends0)
    → Owned m (IsCallOf k ends)
owned_like m wide k ends ends0 like o = record {
  number = o.number;
  place = o.place;
  is = λ i x b.
      let y = there i x b in
      let w = o.is i y.0 y.1 in
      (w.0, w.1, w.2 ∙ y.2.connection, w.3 ∙ y.2.asked, w.4);
  once = λ i j x z b d e. o.once i j _ _ (there i x b).1 (there j z d).1 e;
  entry = λ i x e b n.
      let y = there i x b in entry_of m.log e x y.0 y.2 (o.entry i y.0 e y.1 n);
  whole = λ i x b done.
      let y = there i x b in
      let w = o.whole i y.0 y.1 (y.2.done done) in
      (w.0, entry_of m.log w.0 x y.0 y.2 w.1, w.2, w.3 ∙ ap (λ z. Some z) y.2.parts);
  one_call = λ i j x z e b d n n'. o.one_call i j _ _ e (there i x b).1 (there j z d).1 n n';
  named = λ e en at.
      let w = o.named e en at in
      let x = like_back (ends w.0.0).records (ends0 w.0.0).records w.0.1 w.1 (like w.0.0).records
      w.2.2 in
      (w.0, x.0, (w.2.0, w.2.1, x.1), w.3);
  silent = λ i x b quiet.
      let y = there i x b in
      let w = o.silent i y.0 y.1 (ap (λ (a : Asked). a.more_to_come) y.2.asked ∙ quiet) in
      (y.2.sent_back w.0, sym y.2.parts ∙ w.1);
  beginning = λ i x b u.
      let y = there i x b in
      beginning_of m.log (o.place i) x y.0 y.2 (o.beginning i y.0 y.1 (y.2.undone u));
  mute = λ i x b p.
      let y = there i x b in
      let w = o.mute i y.0 y.1 p in
      (sym y.2.parts ∙ w.0, λ d. w.1 (y.2.done d));
}
  where
    there : (i : ℕ × ℕ) (x : Record) → IsCallOf k ends i x
        → (y : Record) × IsCallOf k ends0 i y × Facts x y
    there i x b =
        let y = like_there (ends i.0).records (ends0 i.0).records i.1 x (like i.0).records b.2 in
        (y.0, (b.0, b.1, y.1), facts x y.0 y.2)

-- ---- servers before their first requests

module _ (H : Type 0) (does : Does H) (stops : Stops H) (wide : ℕ) (made : ℕ → Made)
    (limits : ℕ → ℕ) where
  many_with : (k : ℕ) → length (servers_with limits made k) ≡ k
  many_with zero = refl
  many_with (suc k) = length-push (servers_with limits made k) _ ∙ ap suc (many_with k)

  record Firsts (k c : ℕ) (s : ServerView) : Type 0 where
    is : s ≡ new_server c (made c).server_window (limits c)
    at : server_at (first_servers wide made k) c
        ≡ Some (new_server c (made c).server_window wide)

  firsts : (k c : ℕ) (s : ServerView) → server_at (servers_with limits made k) c ≡ Some s
      → Firsts k c s
  firsts zero zero s at = absurd (none-some s at)
  firsts zero (suc i) s at = absurd (none-some s at)
  firsts (suc k) zero s at = absurd (none-some s at)
  firsts (suc k) (suc i) s at = by (get-push_cases (servers_with limits made k) i s
      (new_server (suc k) (made (suc k)).server_window (limits (suc k))) at)
      (λ old. firsts k (suc i) s old)
    where
      by : (slice_get (servers_with limits made k) i ≡ Some s)
          ⊎ ((i ≡ length (servers_with limits made k))
          × (new_server (suc k) (made (suc k)).server_window (limits (suc k)) ≡ s))
          → (slice_get (servers_with limits made k) i ≡ Some s → Firsts k (suc i) s)
          → Firsts (suc k) (suc i) s
      by (inl old) before = let f = before old in record {
        is = f.is;
        at = get-push_old (first_servers wide made k) i _ _ f.at;
      }
      by (inr new) before =
          let here : i ≡ k = new.0 ∙ many_with k in
          subst (λ z. Firsts (suc k) (suc z) s) (sym here) (record {
            is = sym new.1;
            at = subst (λ z. slice_get (first_servers wide made (suc k)) z
                ≡ Some (new_server (suc k) (made (suc k)).server_window wide))
                (many_servers H does stops wide made k)
                (get-push_new (first_servers wide made k) _);
          })

  begins : (k : ℕ) (first : H) → ((c : ℕ) → IsLimit (limits c)) → MAX_MESSAGE_LEN ≤ wide
      → ServersLike wide (servers_with_limits limits made k first)
      (first_servers_of wide made k first)
  begins k first are most = record {
    log = refl;
    handler = refl;
    each = λ c s at.
        let f = firsts k c s at in
        let low = (are c).0 in
        let high = (are c).1 in
        subst (ServerLike wide (first_servers_of wide made k first) c) (sym f.is) (record {
          state = _;
          at = f.at;
          alike = tt;
          within = record { least = low; most = omega (arith, high, most) };
        });
  }

-- ---- what is known

abbrev greatest : ℕ
greatest = MAX_MESSAGE_LEN

module _ (H : Type 0) (does : Does H) (stops : Stops H) (first : H) (made : ℕ → Made)
    (good : AreMade made) (client_limit server_limit : ℕ → ℕ)
    (clients_are : (c : ℕ) → IsLimit (client_limit c))
    (servers_are : (c : ℕ) → IsLimit (server_limit c)) where
  pub differ : (k : ℕ) (deeds : List Deed) (ends : ℕ → ClientEnd) (servers : ServerEnds H)
      → ((c : ℕ) → ClientRun c (first_end (client_limit c) made c) (acts_at c deeds) (ends c))
      → ServersRun does stops (servers_with_limits server_limit made k first) deeds servers
      → Arrive (λ _. []) (λ _. []) deeds → OwnersKnow does stops k first deeds ends servers
  differ k deeds ends servers runs served arrive = record {
    m = known.m;
    reached = known.reached;
    log = known.log ∙ r.servers_like.log;
    owned = owned_like known.m greatest k ends r.finals0 r.like known.owned;
    quiet = λ c s at q n x g loud.
        let sl = r.servers_like.each c s at in
        let y = like_there (ends c).records (r.finals0 c).records n x (r.like c).records g in
        let f = facts x y.0 y.2 in
        f.done_back (known.quiet c (widened greatest s sl.state) sl.at (quiet c s sl q) n y.0 y.1
        (ap (λ (a : Asked). a.more_to_come) f.asked ∙ loud));
  }
    where
      r : Found H does stops greatest ends servers deeds (first_end greatest made)
          (first_servers_of greatest made k first)
      r = find H does stops greatest ends servers deeds (λ c. first_end (client_limit c) made c)
          (first_end greatest made) (servers_with_limits server_limit made k first)
          (first_servers_of greatest made k first)
          (λ c. record {
            state = clients.Open;
            client = refl;
            alike = tt;
            within = record { least = (clients_are c).0; most = (clients_are c).1 };
            records = tt;
          })
          (begins H does stops greatest made server_limit k first servers_are (omega arith)) runs
          served

      known : OwnersKnow does stops k first r.deeds' r.finals0 r.last0
      known = know H does stops greatest (omega arith) first made good k r.deeds' r.finals0 r.last0
          r.runs r.served (r.arrive (λ _. []) (λ _. []) arrive)

      quiet : (c : ℕ) (s : ServerView) (sl : ServerLike greatest r.last0 c s)
          → AreQuiet c deeds (ends c) s
          → AreQuiet c r.deeds' (r.finals0 c) (widened greatest s sl.state)
      quiet c s sl q =
          let l = r.like c in
          record {
            client_open = ap (λ (z : ClientSeen). z.state) l.client
                ∙ open_too (ends c).client.state l.state l.alike q.client_open;
            server_open = as_open s.state sl.state sl.alike q.server_open;
            none_in_flight = record {
              up = r.taken_up c ∙ q.none_in_flight.up ∙ sym (r.sent c);
              down = r.taken c ∙ q.none_in_flight.down ∙ sym (r.sent_down c);
            };
            client_empty = ap (λ (z : ClientSeen). z.requests.output) l.client ∙ q.client_empty;
            server_empty = q.server_empty;
            none_waits = q.none_waits;
            none_ready = ap (λ (z : ClientSeen). z.reply) l.client ∙ q.none_ready;
          }
