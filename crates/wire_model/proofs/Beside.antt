-- To pairs, what strangers ask is a change of the handler's state: their run without the strangers.
use Rattle.std.proofs.Common.{◌≡◌, ℕ, ◌^◌, ◌<◌, Bool, true, false, List, [], ◌∷◌, ◌++◌, refl, sym, ◌∙◌, ap, subst, ◌⊎◌, inl, inr}
use Rattle.std.specs.Prelude.{◌==◌, if◌then◌else◌, slice_get}
use Rattle.std.proofs.lemmas.Option.{none-some}
use Rattle.wire_peer.specs.{Does, ServerView, Stops}
use Rattle.wire_model.specs.Conns.{Record}
use Rattle.wire_model.proofs.ConnCalls.{is_elsewhere}
use Rattle.wire_model.specs.Owners.{AreMade, ClientAct, ClientEnd, ClientRun, Made, ServerAct, ServerEnds, bytes_sent, bytes_sent_down, bytes_taken, bytes_taken_up, first_end, first_servers_of, sent_down_by, taken_up_by}
use Rattle.wire_model.specs.Deeds.{Arrive, AtClient, AtServer, Deed, ServersRun, acts_at, server_acts_at}
use Rattle.wire_model.specs.Knowing.{AreQuiet, IsCallOf, OwnersKnow}
use Rattle.wire_model.specs.Strangers.{IsPairCall, PairsKnow, deeds_beside, does_beside, none, stops_beside}
use Rattle.wire_model.proofs.Alike.{Alike, Goes, goes, strays}
use Rattle.wire_model.proofs.Knows.{know, owned_by}
use Rattle.wire_model.proofs.Starts.{first_is}
use Rattle.wire_model.proofs.LogBeside.{true_is}
use Rattle.wire_model.proofs.WiderActs.{arrive_client}

module _ (H : Type 0) (does : Does H) (stops : Stops H) (strange : ℕ → Bool) where
  abbrev D : Does H
  D = does_beside does stops

  abbrev S : Stops H
  S = stops_beside does stops

  abbrev AlikeTo : ServerEnds H → ServerEnds H → Type 0
  AlikeTo = Alike H does stops strange

  -- ---- deed after deed

  record Found (deeds : List Deed) (old' new : ServerEnds H) : Type 0 where
    deeds' : List Deed
    new' : ServerEnds H
    run : ServersRun D S old' deeds' new'
    alike : AlikeTo new new'
    acts : (c : ℕ) → strange c ≡ false → acts_at c deeds' ≡ acts_at c deeds
    none_at : (c : ℕ) → strange c ≡ true → acts_at c deeds' ≡ []
    taken : (c : ℕ) → strange c ≡ false
        → bytes_taken_up (server_acts_at c deeds') ≡ bytes_taken_up (server_acts_at c deeds)
    sent : (c : ℕ) → strange c ≡ false
        → bytes_sent_down (server_acts_at c deeds') ≡ bytes_sent_down (server_acts_at c deeds)
    arrive : (up down : ℕ → List ℕ) → Arrive up down (deeds_beside strange deeds)
        → Arrive up down deeds'

  -- a strange connection and one that isn't strange are different ones
  apart : (c d : ℕ) → strange c ≡ true → strange d ≡ false → (c == d) ≡ false
  apart c d s n = is_elsewhere d c (λ e. true_is (strange d) (ap strange (sym e) ∙ s) n)

  apart_back : (c d : ℕ) → strange c ≡ false → strange d ≡ true → (c == d) ≡ false
  apart_back c d n s = is_elsewhere d c (λ e. true_is (strange d) s (ap strange (sym e) ∙ n))

  skip_client : (c : ℕ) (act : ClientAct) (deeds : List Deed) (old' new : ServerEnds H)
      → strange c ≡ true → Found deeds old' new → Found (AtClient c act ∷ deeds) old' new
  skip_client c act deeds old' new s r = record {
    deeds' = r.deeds';
    new' = r.new';
    run = r.run;
    alike = r.alike;
    acts = λ d n. r.acts d n
        ∙ ap (λ b. if b then act ∷ acts_at d deeds else acts_at d deeds) (sym (apart c d s n));
    none_at = r.none_at;
    taken = r.taken;
    sent = r.sent;
    arrive = λ up down x. r.arrive up down (subst (λ b. Arrive up down
        (if b then deeds_beside strange deeds else AtClient c act ∷ deeds_beside strange deeds))
        s x);
  }

  keep_client : (c : ℕ) (act : ClientAct) (deeds : List Deed) (old' new : ServerEnds H)
      → strange c ≡ false → Found deeds old' new → Found (AtClient c act ∷ deeds) old' new
  keep_client c act deeds old' new n r = record {
    deeds' = AtClient c act ∷ r.deeds';
    new' = r.new';
    run = r.run;
    alike = r.alike;
    acts = λ d m. ap (λ z. if c == d then act ∷ z else z) (r.acts d m);
    none_at = λ d s. ap (λ b. if b then act ∷ acts_at d r.deeds' else acts_at d r.deeds')
        (apart_back c d n s) ∙ r.none_at d s;
    taken = r.taken;
    sent = r.sent;
    arrive = λ up down x. arrive_client c act (deeds_beside strange deeds) r.deeds' r.arrive up down
        (subst (λ b. Arrive up down
        (if b then deeds_beside strange deeds else AtClient c act ∷ deeds_beside strange deeds))
        n x);
  }

  skip_server : (c : ℕ) (act : ServerAct) (deeds : List Deed) (old' new : ServerEnds H)
      → strange c ≡ true → Found deeds old' new → Found (AtServer c act ∷ deeds) old' new
  skip_server c act deeds old' new s r = record {
    deeds' = r.deeds';
    new' = r.new';
    run = r.run;
    alike = r.alike;
    acts = r.acts;
    none_at = r.none_at;
    taken = λ d n. r.taken d n
        ∙ ap (λ b. bytes_taken_up (if b then act ∷ server_acts_at d deeds
        else server_acts_at d deeds)) (sym (apart c d s n));
    sent = λ d n. r.sent d n
        ∙ ap (λ b. bytes_sent_down (if b then act ∷ server_acts_at d deeds
        else server_acts_at d deeds)) (sym (apart c d s n));
    arrive = λ up down x. r.arrive up down (subst (λ b. Arrive up down
        (if b then deeds_beside strange deeds else AtServer c act ∷ deeds_beside strange deeds))
        s x);
  }

  both : (f : ServerAct → List ℕ) (g : List ServerAct → List ℕ) (b : Bool) (act act' : ServerAct)
      (acts acts' : List ServerAct) → ((x : ServerAct) (xs : List ServerAct) → g (x ∷ xs) ≡ f x ++
      g xs)
      → f act' ≡ f act → g acts' ≡ g acts
      → g (if b then act' ∷ acts' else acts') ≡ g (if b then act ∷ acts else acts)
  both f g true act act' acts acts' cons e same =
      cons act' acts' ∙ ap (λ z. z ++ g acts') e ∙ ap (λ z. f act ++ z) same ∙ sym (cons act acts)
  both f g false act act' acts acts' cons e same = same

  keep_server : (c : ℕ) (act : ServerAct) (deeds : List Deed) (mid old' new : ServerEnds H)
      → strange c ≡ false → (w : Goes H does stops strange c act mid old') → Found deeds w.mid' new
      → Found (AtServer c act ∷ deeds) old' new
  keep_server c act deeds mid old' new n w r = record {
    deeds' = AtServer c w.act' ∷ r.deeds';
    new' = r.new';
    run = (w.mid', w.does_, r.run);
    alike = r.alike;
    acts = r.acts;
    none_at = r.none_at;
    taken = λ d m. both taken_up_by bytes_taken_up (c == d) act w.act' (server_acts_at d deeds)
        (server_acts_at d r.deeds') (λ x xs. refl) w.taken (r.taken d m);
    sent = λ d m. both sent_down_by bytes_sent_down (c == d) act w.act' (server_acts_at d deeds)
        (server_acts_at d r.deeds') (λ x xs. refl) w.sent (r.sent d m);
    arrive = λ up down x. w.arrive (deeds_beside strange deeds) r.deeds' r.arrive up down
        (subst (λ b. Arrive up down
        (if b then deeds_beside strange deeds else AtServer c act ∷ deeds_beside strange deeds))
        n x);
  }

  yes_or_no : (b : Bool) → (b ≡ true) ⊎ (b ≡ false)
  yes_or_no true = inl refl
  yes_or_no false = inr refl

  found : (deeds : List Deed) (old old' new : ServerEnds H) → AlikeTo old old'
      → ServersRun does stops old deeds new → Found deeds old' new
  found [] old old' new al same = record {
    deeds' = [];
    new' = old';
    run = refl;
    alike = subst (λ z. AlikeTo z old') (sym same) al;
    acts = λ c n. refl;
    none_at = λ c n. refl;
    taken = λ c n. refl;
    sent = λ c n. refl;
    arrive = λ up down a. a;
  }
  found (AtClient c act ∷ deeds) old old' new al run =
      let r = found deeds old old' new al run in
      elim (yes_or_no (strange c)) [
        | inl s ↦ skip_client c act deeds old' new s r
        | inr n ↦ keep_client c act deeds old' new n r
      ]
  found (AtServer c act ∷ deeds) old old' new al (mid, a, run) = elim (yes_or_no (strange c)) [
    | inl s ↦
        skip_server c act deeds old' new s
        (found deeds mid old' new (strays H does stops strange c act old old' mid s al a) run)
    | inr n ↦
        let w = goes H does stops strange c act old old' mid n al a in
        keep_server c act deeds mid old' new n w (found deeds mid w.mid' new w.alike run)
  ]

  -- ---- what the pairs know

  module _ (limit : ℕ) (short : limit < 2 ^ 31) (first : H) (made : ℕ → Made)
      (good : AreMade made) where
    abbrev pair_ends : (ℕ → ClientEnd) → ℕ → ClientEnd
    pair_ends ends c = if strange c then first_end limit made c else ends c

    pub beside : (k : ℕ) (deeds : List Deed) (ends : ℕ → ClientEnd) (servers : ServerEnds H)
        → ((c : ℕ) → strange c ≡ false
        → ClientRun c (first_end limit made c) (acts_at c deeds) (ends c))
        → ServersRun does stops (first_servers_of limit made k first) deeds servers
        → Arrive (λ _. []) (λ _. []) (deeds_beside strange deeds)
        → PairsKnow does stops strange k first deeds ends servers
    beside k deeds ends servers runs served arrive = record {
      m = known.m;
      reached = known.reached;
      log = known.log ∙ r.alike.log;
      owned = owned_by known.m (IsCallOf k ends') (IsPairCall strange k ends) (λ j. j)
          (λ j x b. (b.1.0, b.1.1, rw (mine j.0 b.0) b.1.2)) (λ j l x y b d e. e)
          (λ i x b. back i x b (yes_or_no (strange i.0))) known.owned;
      quiet = λ c s n at q i x g loud.
          known.quiet c s (r.alike.same c n ∙ at) (quiet c s n q) i x (rw (mine c n) g) loud;
    }
      where
        ends' : ℕ → ClientEnd
        ends' = pair_ends ends

        mine : (c : ℕ) → strange c ≡ false → ends' c ≡ ends c
        mine c n = ap (λ b. if b then first_end limit made c else ends c) n

        theirs : (c : ℕ) → strange c ≡ true → ends' c ≡ first_end limit made c
        theirs c s = ap (λ b. if b then first_end limit made c else ends c) s

        r : Found deeds (first_servers_of limit made k first) servers
        r = found deeds (first_servers_of limit made k first)
            (first_servers_of limit made k first) servers (record {
              same = λ c n. refl;
              log = refl;
              strayed = none;
              conns = λ c s at. ap (λ (z : ServerView). z.connection)
                  (first_is H does stops limit made k c s at);
            }) served

        ran : (c : ℕ) → ClientRun c (first_end limit made c) (acts_at c r.deeds') (ends' c)
        ran c = elim (yes_or_no (strange c)) [
          | inl s ↦ (rw (r.none_at c s) (theirs c s))
          | inr n ↦ (rw (r.acts c n, mine c n) (runs c n))
        ]

        known : OwnersKnow D S k first r.deeds' ends' r.new'
        known = know H D S limit short first made good k r.deeds' ends' r.new' ran r.run
            (r.arrive (λ _. []) (λ _. []) arrive)

        back : (i : ℕ × ℕ) (x : Record) → IsCallOf k ends' i x
            → (strange i.0 ≡ true) ⊎ (strange i.0 ≡ false)
            → (j : ℕ × ℕ) × IsPairCall strange k ends j x × (j ≡ i)
        back i x b (inl s) = absurd (none-some x (sym (ap (λ (z : ClientEnd). slice_get z.records
            i.1) (theirs i.0 s)) ∙ b.2))
        back i x b (inr n) = (
          i,
          (
            n,
            (
              b.0,
              b.1,
              sym (ap (λ (z : ClientEnd). slice_get z.records i.1) (mine i.0 n))
                  ∙ b.2,
            ),
          ),
          refl,
        )

        quiet : (c : ℕ) (s : ServerView) → strange c ≡ false → AreQuiet c deeds (ends c) s
            → AreQuiet c r.deeds' (ends' c) s
        quiet c s n q = rw (mine c n) (record {
          client_open = q.client_open;
          server_open = q.server_open;
          none_in_flight = record {
            up = r.taken c n ∙ q.none_in_flight.up
                ∙ ap bytes_sent (sym (r.acts c n));
            down = ap bytes_taken (r.acts c n)
                ∙ q.none_in_flight.down ∙ sym (r.sent c n);
          };
          client_empty = q.client_empty;
          server_empty = q.server_empty;
          none_waits = q.none_waits;
          none_ready = q.none_ready;
        })
