-- Ends whose limits differ do what ends with one greater limit do.
use Rattle.std.proofs.Common.{◌≡◌, ℕ, Bool, true, false, List, [], ◌∷◌, ◌++◌, map, refl, sym, ◌∙◌, ap, subst, append_assoc, inl, inr}
use Rattle.std.specs.Prelude.{◌==◌, if◌then◌else◌}
use Rattle.std.proofs.lemmas.List.{append-nil}
use Rattle.wire_peer.specs.{Does, Stops}
use Rattle.wire_model.proofs.ConnCalls.{is_elsewhere, is_here}
use Rattle.wire_model.proofs.Lists.{same_or_not}
use Rattle.wire_model.specs.Owners.{ClientAct, ClientEnd, ClientRun, ServerAct, ServerEnds, bytes_sent, bytes_sent_down, bytes_taken, bytes_taken_up, sent_by, sent_down_by, taken_by, taken_up_by}
use Rattle.wire_model.specs.Deeds.{AtClient, AtServer, Deed, ServersRun, acts_at, server_acts_at}
use Rattle.wire_model.proofs.Fits.{end_far, end_here, end_one}
use Rattle.wire_model.proofs.GoingOn.{client_on, sent_on, servers_on, taken_on}
use Rattle.wire_model.proofs.WiderActs.{Arrives, ClientGoes, EndLike, client_goes}
use Rattle.wire_model.proofs.WiderServes.{ServerGoes, ServersLike, server_goes}

-- ---- more acts at one connection

acts_front : (c d : ℕ) (more : List ClientAct) (deeds : List Deed)
    → acts_at d (map (AtClient c) more ++ deeds)
    ≡ (if c == d then more ++ acts_at d deeds else acts_at d deeds)
acts_front c d [] deeds = by (c == d)
  where
    by : (b : Bool) → acts_at d deeds ≡ (if b then acts_at d deeds else acts_at d deeds)
    by true = refl
    by false = refl
acts_front c d (act ∷ more) deeds = by (c == d) (acts_front c d more deeds)
  where
    by : (b : Bool)
        → acts_at d (map (AtClient c) more ++ deeds)
        ≡ (if b then more ++ acts_at d deeds else acts_at d deeds)
        → (if b then act ∷ acts_at d (map (AtClient c) more ++ deeds)
        else acts_at d (map (AtClient c) more ++ deeds))
        ≡ (if b then (act ∷ more) ++ acts_at d deeds else acts_at d deeds)
    by true e = ap (λ z. act ∷ z) e
    by false e = e

server_front : (c d : ℕ) (more : List ServerAct) (deeds : List Deed)
    → server_acts_at d (map (AtServer c) more ++ deeds)
    ≡ (if c == d then more ++ server_acts_at d deeds else server_acts_at d deeds)
server_front c d [] deeds = by (c == d)
  where
    by : (b : Bool) → server_acts_at d deeds
        ≡ (if b then server_acts_at d deeds else server_acts_at d deeds)
    by true = refl
    by false = refl
server_front c d (act ∷ more) deeds = by (c == d) (server_front c d more deeds)
  where
    by : (b : Bool)
        → server_acts_at d (map (AtServer c) more ++ deeds)
        ≡ (if b then more ++ server_acts_at d deeds else server_acts_at d deeds)
        → (if b then act ∷ server_acts_at d (map (AtServer c) more ++ deeds)
        else server_acts_at d (map (AtServer c) more ++ deeds))
        ≡ (if b then (act ∷ more) ++ server_acts_at d deeds else server_acts_at d deeds)
    by true e = ap (λ z. act ∷ z) e
    by false e = e

-- no act is at the other kind of end
no_server : (c d : ℕ) (more : List ClientAct) (deeds : List Deed)
    → server_acts_at d (map (AtClient c) more ++ deeds) ≡ server_acts_at d deeds
no_server c d [] deeds = refl
no_server c d (act ∷ more) deeds = no_server c d more deeds

no_client : (c d : ℕ) (more : List ServerAct) (deeds : List Deed)
    → acts_at d (map (AtServer c) more ++ deeds) ≡ acts_at d deeds
no_client c d [] deeds = refl
no_client c d (act ∷ more) deeds = no_client c d more deeds

-- the bytes with one more act are those with the acts in its place
more_bytes : {A : Type 0} (f : List A → List ℕ) (g : A → List ℕ) (b : Bool) (act : A)
    (more acts acts' : List A)
    → ((xs ys : List A) → f (xs ++ ys) ≡ f xs ++ f ys)
    → f (act ∷ acts) ≡ g act ++ f acts
    → f more ≡ g act ++ [] → f acts' ≡ f acts
    → f (if b then more ++ acts' else acts') ≡ f (if b then act ∷ acts else acts)
more_bytes f g true act more acts acts' on cons e same =
    on more acts' ∙ ap (λ z. z ++ f acts') (e ∙ append-nil (g act)) ∙ ap (λ z. g act ++ z) same
    ∙ sym cons
more_bytes f g false act more acts acts' on cons e same = same

sent_down_on : (acts more : List ServerAct)
    → bytes_sent_down (acts ++ more) ≡ bytes_sent_down acts ++ bytes_sent_down more
sent_down_on [] more = refl
sent_down_on (act ∷ acts) more =
    ap (λ b. sent_down_by act ++ b) (sent_down_on acts more)
    ∙ sym (append_assoc (sent_down_by act) (bytes_sent_down acts) (bytes_sent_down more))

taken_up_on : (acts more : List ServerAct)
    → bytes_taken_up (acts ++ more) ≡ bytes_taken_up acts ++ bytes_taken_up more
taken_up_on [] more = refl
taken_up_on (act ∷ acts) more =
    ap (λ b. taken_up_by act ++ b) (taken_up_on acts more)
    ∙ sym (append_assoc (taken_up_by act) (bytes_taken_up acts) (bytes_taken_up more))

-- the servers do nothing where clients do
clients_only : {H : Type 0} (does : Does H) (stops : Stops H) (c : ℕ) (more : List ClientAct)
    (deeds : List Deed) (old new : ServerEnds H) → ServersRun does stops old deeds new
    → ServersRun does stops old (map (AtClient c) more ++ deeds) new
clients_only does stops c [] deeds old new run = run
clients_only does stops c (act ∷ more) deeds old new run =
    clients_only does stops c more deeds old new run

-- ---- deed after deed

module _ (H : Type 0) (does : Does H) (stops : Stops H) (wide : ℕ) (finals : ℕ → ClientEnd)
    (last : ServerEnds H) where
  -- what ends with the greater limit do while these deeds are done, and what holds then
  pub record Found (deeds : List Deed) (ends0 : ℕ → ClientEnd) (ss0 : ServerEnds H) : Type 0 where
    pub deeds' : List Deed
    pub finals0 : ℕ → ClientEnd
    pub last0 : ServerEnds H
    pub runs : (d : ℕ) → ClientRun d (ends0 d) (acts_at d deeds') (finals0 d)
    pub served : ServersRun does stops ss0 deeds' last0
    pub like : (d : ℕ) → EndLike wide (finals d) (finals0 d)
    pub servers_like : ServersLike wide last last0
    pub sent : (d : ℕ) → bytes_sent (acts_at d deeds') ≡ bytes_sent (acts_at d deeds)
    pub taken : (d : ℕ) → bytes_taken (acts_at d deeds') ≡ bytes_taken (acts_at d deeds)
    pub sent_down : (d : ℕ)
        → bytes_sent_down (server_acts_at d deeds') ≡ bytes_sent_down (server_acts_at d deeds)
    pub taken_up : (d : ℕ)
        → bytes_taken_up (server_acts_at d deeds') ≡ bytes_taken_up (server_acts_at d deeds)
    pub arrive : Arrives deeds deeds'

  abbrev Runs : (ℕ → ClientEnd) → List Deed → Type 0
  Runs ends deeds = (d : ℕ) → ClientRun d (ends d) (acts_at d deeds) (finals d)

  on_client : (c : ℕ) (act : ClientAct) (deeds : List Deed) (ends0 : ℕ → ClientEnd)
      (ss0 : ServerEnds H) (mid : ClientEnd) (g : ClientGoes wide c act mid (ends0 c))
      → Found deeds (end_one ends0 c g.mid0) ss0 → Found (AtClient c act ∷ deeds) ends0 ss0
  on_client c act deeds ends0 ss0 mid g r = record {
    deeds' = map (AtClient c) g.more ++ r.deeds';
    finals0 = r.finals0;
    last0 = r.last0;
    runs = runs;
    served = clients_only does stops c g.more r.deeds' ss0 r.last0 r.served;
    like = r.like;
    servers_like = r.servers_like;
    sent = λ d. ap bytes_sent (acts_front c d g.more r.deeds')
        ∙ more_bytes bytes_sent sent_by (c == d) act g.more (acts_at d deeds) (acts_at d r.deeds')
        sent_on refl g.sent (r.sent d);
    taken = λ d. ap bytes_taken (acts_front c d g.more r.deeds')
        ∙ more_bytes bytes_taken taken_by (c == d) act g.more (acts_at d deeds)
        (acts_at d r.deeds') taken_on refl g.taken (r.taken d);
    sent_down = λ d. ap bytes_sent_down (no_server c d g.more r.deeds') ∙ r.sent_down d;
    taken_up = λ d. ap bytes_taken_up (no_server c d g.more r.deeds') ∙ r.taken_up d;
    arrive = g.arrive deeds r.deeds' r.arrive;
  }
    where
      runs : (d : ℕ)
          → ClientRun d (ends0 d) (acts_at d (map (AtClient c) g.more ++ r.deeds')) (r.finals0 d)
      runs d = subst (λ z. ClientRun d (ends0 d) z (r.finals0 d))
          (sym (acts_front c d g.more r.deeds')) (elim (same_or_not d c) [
            | inl e ↦ subst (λ b. ClientRun d (ends0 d)
                (if b then g.more ++ acts_at d r.deeds' else acts_at d r.deeds') (r.finals0 d))
                (sym (is_here d c (sym e)))
                (subst (λ z. ClientRun z (ends0 z) (g.more ++ acts_at z r.deeds') (r.finals0 z))
                (sym e) (client_on c g.more (acts_at c r.deeds') (ends0 c) g.mid0 (r.finals0 c)
                g.run (subst (λ z. ClientRun c z (acts_at c r.deeds') (r.finals0 c))
                (end_here ends0 c g.mid0) (r.runs c))))
            | inr n ↦ subst (λ b. ClientRun d (ends0 d)
                (if b then g.more ++ acts_at d r.deeds' else acts_at d r.deeds') (r.finals0 d))
                (sym (is_elsewhere d c (λ e. n (sym e))))
                (subst (λ z. ClientRun d z (acts_at d r.deeds') (r.finals0 d))
                (end_far ends0 c d g.mid0 n) (r.runs d))
          ])

  on_server : (c : ℕ) (act : ServerAct) (deeds : List Deed) (ends0 : ℕ → ClientEnd)
      (ss0 mid : ServerEnds H) (g : ServerGoes wide H does stops c act mid ss0)
      → Found deeds ends0 g.mid0 → Found (AtServer c act ∷ deeds) ends0 ss0
  on_server c act deeds ends0 ss0 mid g r = record {
    deeds' = map (AtServer c) g.more ++ r.deeds';
    finals0 = r.finals0;
    last0 = r.last0;
    runs = λ d. subst (λ z. ClientRun d (ends0 d) z (r.finals0 d))
        (sym (no_client c d g.more r.deeds')) (r.runs d);
    served = servers_on does stops (map (AtServer c) g.more) r.deeds' ss0 g.mid0 r.last0 g.run
        r.served;
    like = r.like;
    servers_like = r.servers_like;
    sent = λ d. ap bytes_sent (no_client c d g.more r.deeds') ∙ r.sent d;
    taken = λ d. ap bytes_taken (no_client c d g.more r.deeds') ∙ r.taken d;
    sent_down = λ d. ap bytes_sent_down (server_front c d g.more r.deeds')
        ∙ more_bytes bytes_sent_down sent_down_by (c == d) act g.more (server_acts_at d deeds)
        (server_acts_at d r.deeds') sent_down_on refl g.sent (r.sent_down d);
    taken_up = λ d. ap bytes_taken_up (server_front c d g.more r.deeds')
        ∙ more_bytes bytes_taken_up taken_up_by (c == d) act g.more (server_acts_at d deeds)
        (server_acts_at d r.deeds') taken_up_on refl g.taken (r.taken_up d);
    arrive = g.arrive deeds r.deeds' r.arrive;
  }

  pub find : (deeds : List Deed) (ends ends0 : ℕ → ClientEnd) (ss ss0 : ServerEnds H)
      → ((d : ℕ) → EndLike wide (ends d) (ends0 d)) → ServersLike wide ss ss0 → Runs ends deeds
      → ServersRun does stops ss deeds last → Found deeds ends0 ss0
  find [] ends ends0 ss ss0 like servers_like runs same = record {
    deeds' = [];
    finals0 = ends0;
    last0 = ss0;
    runs = λ d. refl;
    served = refl;
    like = λ d. subst (λ z. EndLike wide z (ends0 d)) (sym (runs d)) (like d);
    servers_like = subst (λ z. ServersLike wide z ss0) (sym same) servers_like;
    sent = λ d. refl;
    taken = λ d. refl;
    sent_down = λ d. refl;
    taken_up = λ d. refl;
    arrive = λ up down a. a;
  }
  find (AtClient c act ∷ deeds) ends ends0 ss ss0 like servers_like runs served =
      on_client c act deeds ends0 ss0 mine.0 g
      (find deeds (end_one ends c mine.0) (end_one ends0 c g.mid0) ss ss0 likes servers_like others
      served)
    where
      mine : ClientRun c (ends c) (act ∷ acts_at c deeds) (finals c)
      mine = subst (λ b. ClientRun c (ends c) (if b then act ∷ acts_at c deeds else acts_at c deeds)
          (finals c)) (is_here c c refl) (runs c)

      g : ClientGoes wide c act mine.0 (ends0 c)
      g = client_goes wide c act (ends c) (ends0 c) mine.0 (like c) mine.1

      likes : (d : ℕ) → EndLike wide (end_one ends c mine.0 d) (end_one ends0 c g.mid0 d)
      likes d = elim (same_or_not d c) [
        | inl e ↦ subst (λ z. EndLike wide (end_one ends c mine.0 z) (end_one ends0 c g.mid0 z))
            (sym e) (rw (end_here ends c mine.0, end_here ends0 c g.mid0) g.like)
        | inr n ↦ (rw (end_far ends c d mine.0 n, end_far ends0 c d g.mid0 n) (like d))
      ]

      others : Runs (end_one ends c mine.0) deeds
      others d = elim (same_or_not d c) [
        | inl e ↦ (rw (e, end_here ends c mine.0) mine.2)
        | inr n ↦ (rw (end_far ends c d mine.0 n)
            (subst (λ b. ClientRun d (ends d) (if b then act ∷ acts_at d deeds else acts_at d
            deeds) (finals d)) (is_elsewhere d c (λ e. n (sym e))) (runs d)))
      ]
  find (AtServer c act ∷ deeds) ends ends0 ss ss0 like servers_like runs (mid, a, served) =
      let g = server_goes wide H does stops c act ss ss0 mid servers_like a in
      on_server c act deeds ends0 ss0 mid g
      (find deeds ends ends0 mid g.mid0 like g.like runs served)
