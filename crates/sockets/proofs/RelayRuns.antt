-- Acts of a relay, one after another.
use Rattle.std.proofs.Common.{◌≡◌, ℕ, ◌+◌, ◌<◌, ◌≤◌, Option, List, [], ◌∷◌, ◌++◌, ap, arith, refl, sym, subst, inl, inr, ◌∙◌, append_assoc, append-nil}
use Rattle.std.proofs.KnownBytes.{Appends-nil, Appends-trans}
use Rattle.std.specs.Io.KnownBytes.{Appends}
use Rattle.std.specs.Prelude.{Result, Ok, Err}
use Rattle.sockets.specs.declared.turned.RelayFault.{RelayFault}
use Rattle.sockets.specs.declared.turned.RelayFault.TheVariants.{Receiving, Sending}
use Rattle.sockets.specs.declared.turned.Turned.{Turned}
use Rattle.sockets.specs.declared.turned.Turned.TheVariants as turns
use Rattle.sockets.specs.declared.way.Stage.TheVariants.{Ended}
use Rattle.sockets.specs.RelayActs.{Back, Comes, Ends, EndsSending, Fails, Goes, IsServed, RelayAct, RelayRun, RelayView, Tells, There, TurnedAs, Turns, Waits, WayAct, WayMoves, WayView, all_done, back, back_came, both, came, count_back, count_there, done, fault_of, faults, there, there_came}
use Rattle.sockets.specs.RelaySteps.{WaySteps, taken_together}

-- what came in acts, one after another
there_on : (acts more : List RelayAct) → there_came (acts ++ more) ≡ there_came acts ++ there_came more
there_on [] more = refl
there_on (There act ∷ acts) more = ap (λ (x : List ℕ). came act ++ x) (there_on acts more) ∙ sym (append_assoc (came act) (there_came acts) (there_came more))
there_on (Back act ∷ acts) more = there_on acts more

back_on : (acts more : List RelayAct) → back_came (acts ++ more) ≡ back_came acts ++ back_came more
back_on [] more = refl
back_on (There act ∷ acts) more = back_on acts more
back_on (Back act ∷ acts) more = ap (λ (x : List ℕ). came act ++ x) (back_on acts more) ∙ sym (append_assoc (came act) (back_came acts) (back_came more))

-- how many of the acts did something, and the faults of them, one after another
done_on : (acts more : List RelayAct) → all_done (acts ++ more) ≡ all_done acts + all_done more
done_on [] more = omega arith
done_on (There act ∷ acts) more = omega (arith, done_on acts more)
done_on (Back act ∷ acts) more = omega (arith, done_on acts more)

count_there_on : (acts more : List RelayAct) → count_there (acts ++ more) ≡ count_there acts + count_there more
count_there_on [] more = omega arith
count_there_on (There act ∷ acts) more = omega (arith, count_there_on acts more)
count_there_on (Back act ∷ acts) more = count_there_on acts more

count_back_on : (acts more : List RelayAct) → count_back (acts ++ more) ≡ count_back acts + count_back more
count_back_on [] more = omega arith
count_back_on (There act ∷ acts) more = count_back_on acts more
count_back_on (Back act ∷ acts) more = omega (arith, count_back_on acts more)

faults_on : (acts more : List RelayAct) → faults (acts ++ more) ≡ faults acts ++ faults more
faults_on [] more = refl
faults_on (There act ∷ acts) more = ap (λ (x : List RelayFault). fault_of act ++ x) (faults_on acts more) ∙ sym (append_assoc (fault_of act) (faults acts) (faults more))
faults_on (Back act ∷ acts) more = ap (λ (x : List RelayFault). fault_of act ++ x) (faults_on acts more) ∙ sym (append_assoc (fault_of act) (faults acts) (faults more))

-- an act that did something didn't fail
fine_done : (act : WayAct) → done act ≡ 1 → fault_of act ≡ []
fine_done (Comes bytes) is = refl
fine_done (Goes bytes) is = refl
fine_done Ends is = refl
fine_done EndsSending is = refl
fine_done Waits is = refl
fine_done (Fails fault) is = absurd cc

-- A way that is over stays over, whatever is done.
over_moves : {A B : Type 0} (a : Tells A) (b : Tells B) (act : WayAct) (old new : WayView) (from from' : A) (to to' : B)
    → WayMoves a b act old new from from' to to' → old.stage ≡ Ended → new.stage ≡ Ended
over_moves a b (Comes bytes) old new from from' to to' (is_open, none, some, is, over, same) ended = absurd (cc)
over_moves a b (Goes bytes) old new from from' to to' (some, first, stage, over, same) ended = stage ∙ ended
over_moves a b Ends old new from from' to to' (is_open, none, is, told, same) ended = absurd (cc)
over_moves a b EndsSending old new from from' to to' (ending, none, is, told, same) ended = absurd (cc)
over_moves a b Waits old new from from' to to' (same, waits) ended = rw same ended
over_moves a b (Fails (Receiving fault)) old new from from' to to' (same, over, still) ended = rw same ended
over_moves a b (Fails (Sending fault)) old new from from' to to' (same, over, still) ended = rw same ended

-- how many acts of a step on a way did something at least
abbrev least : Turned → ℕ
least turns.Again = 1
least turns.Waits = 0
least turns.Over = 0

module _ {N F : Type 0} (n : Tells N) (f : Tells F) where
  run_on : (acts more : List RelayAct) (old mid new : RelayView N F) → RelayRun n f old acts mid → RelayRun n f mid more new
      → RelayRun n f old (acts ++ more) new
  run_on [] more old mid new s r = subst (λ (x : RelayView N F). RelayRun n f x more new) s r
  run_on (act ∷ acts) more old mid new (after, done, rest) r = (after, done, run_on acts more after mid new rest r)

  -- each way that is over stays over
  over_there : (acts : List RelayAct) (old new : RelayView N F) → RelayRun n f old acts new → old.there.stage ≡ Ended → new.there.stage ≡ Ended
  over_there [] old new same over = rw same over
  over_there (There act ∷ acts) old new (mid, (moves, keeps), rest) over =
      over_there acts mid new rest (over_moves n f act old.there mid.there old.near mid.near old.far mid.far moves over)
  over_there (Back act ∷ acts) old new (mid, (moves, keeps), rest) over = over_there acts mid new rest (rw keeps over)

  over_back : (acts : List RelayAct) (old new : RelayView N F) → RelayRun n f old acts new → old.back.stage ≡ Ended → new.back.stage ≡ Ended
  over_back [] old new same over = rw same over
  over_back (There act ∷ acts) old new (mid, (moves, keeps), rest) over = over_back acts mid new rest (rw keeps over)
  over_back (Back act ∷ acts) old new (mid, (moves, keeps), rest) over =
      over_back acts mid new rest (over_moves f n act old.back mid.back old.far mid.far old.near mid.near moves over)

  -- a way on which one more step is taken
  served_on : (i j a b : ℕ) (mid new : WayView) → IsServed i a mid → IsServed j b new → (mid.stage ≡ Ended → new.stage ≡ Ended) → IsServed (i + j) (a + b) new
  served_on i j a b mid new (inr over) one stays = inr (stays over)
  served_on i j a b mid new (inl is) (inr over) stays = inr over
  served_on i j a b mid new (inl is) (inl one) stays = inl (omega (arith, is, one))

  -- Acts so far, of which no fewer than these did something; as many as these on each way that isn't over, and what was seen of them.
  pub record SoFar (count i j : ℕ) (old new : RelayView N F) (there there' back back' : Option (List ℕ)) : Type 0 where
    pub acts : List RelayAct
    pub run : RelayRun n f old acts new
    pub enough : count ≤ all_done acts
    pub few_there : count_there acts ≤ i
    pub few_back : count_back acts ≤ j
    pub served_there : IsServed i (count_there acts) new.there
    pub served_back : IsServed j (count_back acts) new.back
    pub fine : faults acts ≡ []
    pub there_seen : Appends there there' (there_came acts)
    pub back_seen : Appends back back' (back_came acts)

  pub none_yet : (r : RelayView N F) (t s : Option (List ℕ)) → SoFar 0 0 0 r r t t s s
  none_yet r t s = record { acts = []; run = refl; enough = omega arith; few_there = omega arith; few_back = omega arith; served_there = inl refl; served_back = inl refl; fine = refl; there_seen = Appends-nil t; back_seen = Appends-nil s }

  then : (c d i j k l : ℕ) (old mid new : RelayView N F) (a a' a'' b b' b'' : Option (List ℕ)) → SoFar c i k old mid a a' b b' → SoFar d j l mid new a' a'' b' b''
      → SoFar (c + d) (i + j) (k + l) old new a a'' b b''
  then c d i j k l old mid new a a' a'' b b' b'' s r = record {
    acts = s.acts ++ r.acts;
    run = run_on s.acts r.acts old mid new s.run r.run;
    enough = omega (arith, done_on s.acts r.acts, s.enough, r.enough);
    few_there = omega (arith, count_there_on s.acts r.acts, s.few_there, r.few_there);
    few_back = omega (arith, count_back_on s.acts r.acts, s.few_back, r.few_back);
    served_there = rw (count_there_on s.acts r.acts) (served_on i j (count_there s.acts) (count_there r.acts) mid.there new.there s.served_there r.served_there
        (over_there r.acts mid new r.run));
    served_back = rw (count_back_on s.acts r.acts) (served_on k l (count_back s.acts) (count_back r.acts) mid.back new.back s.served_back r.served_back
        (over_back r.acts mid new r.run));
    fine = faults_on s.acts r.acts ∙ ap (λ (x : List RelayFault). x ++ faults r.acts) s.fine ∙ r.fine;
    there_seen = rw (there_on s.acts r.acts) (Appends-trans a a' a'' (there_came s.acts) (there_came r.acts) s.there_seen r.there_seen);
    back_seen = rw (back_on s.acts r.acts) (Appends-trans b b' b'' (back_came s.acts) (back_came r.acts) s.back_seen r.back_seen);
  }

  -- ---- a step on each way

  -- The steps on both ways, as results, as what they left, and as what was seen.
  pub record Stepped (a b : Result Turned RelayFault) (old mid new : RelayView N F) (there there' back back' : Option (List ℕ)) : Type 0 where
    pub there_steps : WaySteps n f a old.there mid.there old.near mid.near old.far mid.far there there'
    pub there_keeps : mid.back ≡ old.back
    pub back_steps : WaySteps f n b mid.back new.back mid.far new.far mid.near new.near back back'
    pub back_keeps : new.there ≡ mid.there

  -- a step that did something is an act, and one on a way that is over is none
  there_does : (a : Turned) (old mid : RelayView N F) (t t' b : Option (List ℕ)) → WaySteps n f (Ok a) old.there mid.there old.near mid.near old.far mid.far t t'
      → mid.back ≡ old.back → SoFar (least a) 1 0 old mid t t' b b
  there_does turns.Again old mid t t' b (act, does, moves, seen) keeps = record {
    acts = There act ∷ [];
    enough = omega (arith, does);
    few_there = omega arith;
    few_back = omega arith;
    served_there = inl refl;
    served_back = inl refl;
    fine = rw (fine_done act does) refl;
    run = (mid, (moves, keeps), refl);
    there_seen = rw (append-nil (came act)) seen;
    back_seen = Appends-nil b;
  }
  there_does turns.Waits old mid t t' b (moves, same) keeps =
      record { acts = There Waits ∷ []; enough = omega arith; few_there = omega arith; few_back = omega arith; served_there = inl refl; served_back = inl refl; fine = refl; run = (mid, (moves, keeps), refl); there_seen = rw same (Appends-nil t); back_seen = Appends-nil b }
  there_does turns.Over old mid t t' b (is, way, from, to, same) keeps =
      record { acts = []; enough = omega arith; few_there = omega arith; few_back = omega arith; served_there = inr (rw way is); served_back = inl refl; fine = refl; run = rw (way, from, to, keeps) refl; there_seen = rw same (Appends-nil t); back_seen = Appends-nil b }

  back_does : (b : Turned) (mid new : RelayView N F) (t s s' : Option (List ℕ)) → WaySteps f n (Ok b) mid.back new.back mid.far new.far mid.near new.near s s'
      → new.there ≡ mid.there → SoFar (least b) 0 1 mid new t t s s'
  back_does turns.Again mid new t s s' (act, does, moves, seen) keeps = record {
    acts = Back act ∷ [];
    enough = omega (arith, does);
    few_there = omega arith;
    few_back = omega arith;
    served_there = inl refl;
    served_back = inl refl;
    fine = rw (fine_done act does) refl;
    run = (new, (moves, keeps), refl);
    there_seen = Appends-nil t;
    back_seen = rw (append-nil (came act)) seen;
  }
  back_does turns.Waits mid new t s s' (moves, same) keeps =
      record { acts = Back Waits ∷ []; enough = omega arith; few_there = omega arith; few_back = omega arith; served_there = inl refl; served_back = inl refl; fine = refl; run = (new, (moves, keeps), refl); there_seen = Appends-nil t; back_seen = rw same (Appends-nil s) }
  back_does turns.Over mid new t s s' (is, way, from, to, same) keeps =
      record { acts = []; enough = omega arith; few_there = omega arith; few_back = omega arith; served_there = inl refl; served_back = inr (rw way is); fine = refl; run = rw (way, from, to, keeps) refl; there_seen = Appends-nil t; back_seen = rw same (Appends-nil s) }

  both_do : (a b : Turned) (old mid new : RelayView N F) (t t' s s' : Option (List ℕ)) → Stepped (Ok a) (Ok b) old mid new t t' s s'
      → SoFar (least a + least b) 1 1 old new t t' s s'
  both_do a b old mid new t t' s s' x =
      then (least a) (least b) 1 0 0 1 old mid new t t' t' s s s' (there_does a old mid t t' s x.there_steps x.there_keeps) (back_does b mid new t' s s' x.back_steps x.back_keeps)

  turns_to : (steps c i j : ℕ) (turned : Turned) (old new : RelayView N F) (t t' s s' : Option (List ℕ)) (x : SoFar c i j old new t t' s s')
      → i ≤ steps → j ≤ steps → TurnedAs steps (Ok turned) x.acts new → Turns n f steps (Ok turned) old new t t' s s'
  turns_to steps c i j turned old new t t' s s' x least_i least_j comes = record {
    acts = x.acts;
    run = x.run;
    few_there = omega (arith, x.few_there, least_i);
    few_back = omega (arith, x.few_back, least_j);
    comes_to = comes;
    failed = x.fine;
    there_seen = x.there_seen;
    back_seen = x.back_seen;
  }

  -- a failure after other acts
  fails_on : (steps : ℕ) (e : RelayFault) (front acts : List RelayAct) (r : RelayView N F) → TurnedAs steps (Err e) acts r → TurnedAs steps (Err e) (front ++ acts) r
  fails_on steps e front acts r (before, inl is) = (front ++ before, inl (ap (λ (x : List RelayAct). front ++ x) is ∙ sym (append_assoc front before (There (Fails e) ∷ []))))
  fails_on steps e front acts r (before, inr is) = (front ++ before, inr (ap (λ (x : List RelayAct). front ++ x) is ∙ sym (append_assoc front before (Back (Fails e) ∷ []))))

  pub last_fails : (steps i : ℕ) (e : RelayFault) (old mid new : RelayView N F) (t t' t'' s s' s'' : Option (List ℕ)) → SoFar i i i old mid t t' s s' → i < steps
      → Turns n f 1 (Err e) mid new t' t'' s' s'' → Turns n f steps (Err e) old new t t'' s s''
  last_fails steps i e old mid new t t' t'' s s' s'' so lt x = record {
    acts = so.acts ++ x.acts;
    run = run_on so.acts x.acts old mid new so.run x.run;
    few_there = omega (arith, count_there_on so.acts x.acts, so.few_there, x.few_there, lt);
    few_back = omega (arith, count_back_on so.acts x.acts, so.few_back, x.few_back, lt);
    comes_to = fails_on steps e so.acts x.acts new x.comes_to;
    failed = faults_on so.acts x.acts ∙ ap (λ (y : List RelayFault). y ++ faults x.acts) so.fine ∙ x.failed;
    there_seen = rw (there_on so.acts x.acts) (Appends-trans t t' t'' (there_came so.acts) (there_came x.acts) so.there_seen x.there_seen);
    back_seen = rw (back_on so.acts x.acts) (Appends-trans s s' s'' (back_came so.acts) (back_came x.acts) so.back_seen x.back_seen);
  }

  -- the link failed on the way there
  pub there_fails : (e : RelayFault) (old mid : RelayView N F) (t t' s : Option (List ℕ)) → WaySteps n f (Err e) old.there mid.there old.near mid.near old.far mid.far t t'
      → mid.back ≡ old.back → Turns n f 1 (Err e) old mid t t' s s
  there_fails e old mid t t' s (moves, same) keeps = record {
    acts = There (Fails e) ∷ [];
    run = (mid, (moves, keeps), refl);
    few_there = omega arith;
    few_back = omega arith;
    comes_to = ([], inl refl);
    failed = refl;
    there_seen = rw same (Appends-nil t);
    back_seen = Appends-nil s;
  }

  -- the link failed on the way back
  pub back_fails : (a : Turned) (e : RelayFault) (old mid new : RelayView N F) (t t' s s' : Option (List ℕ)) → Stepped (Ok a) (Err e) old mid new t t' s s'
      → Turns n f 1 (Err e) old new t t' s s'
  back_fails a e old mid new t t' s s' x =
      let so = there_does a old mid t t' s x.there_steps x.there_keeps in record {
        acts = so.acts ++ Back (Fails e) ∷ [];
        run = run_on so.acts (Back (Fails e) ∷ []) old mid new so.run (new, (x.back_steps.0, x.back_keeps), refl);
        few_there = omega (arith, count_there_on so.acts (Back (Fails e) ∷ []), so.few_there);
        few_back = omega (arith, count_back_on so.acts (Back (Fails e) ∷ []), so.few_back);
        comes_to = (so.acts, inr refl);
        failed = faults_on so.acts (Back (Fails e) ∷ []) ∙ ap (λ (y : List RelayFault). y ++ e ∷ []) so.fine;
        there_seen = rw (there_on so.acts (Back (Fails e) ∷ [])) (Appends-trans t t' t' (there_came so.acts) [] so.there_seen (Appends-nil t'));
        back_seen = rw (back_on so.acts (Back (Fails e) ∷ [])) (Appends-trans s s s' (back_came so.acts) [] so.back_seen (rw x.back_steps.1 (Appends-nil s)));
      }

  pub both_step : (a b : Turned) (old mid new : RelayView N F) (t t' s s' : Option (List ℕ)) → Stepped (Ok a) (Ok b) old mid new t t' s s'
      → Turns n f 1 (Ok (taken_together a b)) old new t t' s s'
  unfolding both_do there_does back_does then
  both_step turns.Again b old mid new t t' s s' x =
      let done = both_do turns.Again b old mid new t t' s s' x in
      turns_to 1 (1 + least b) 1 1 turns.Again old new t t' s s' done (omega arith) (omega arith) (omega (arith, done.enough), done.served_there, done.served_back)
  both_step turns.Waits turns.Again old mid new t t' s s' x =
      let done = both_do turns.Waits turns.Again old mid new t t' s s' x in
      turns_to 1 1 1 1 turns.Again old new t t' s s' done (omega arith) (omega arith) (omega (arith, done.enough), done.served_there, done.served_back)
  both_step turns.Over turns.Again old mid new t t' s s' x =
      let done = both_do turns.Over turns.Again old mid new t t' s s' x in
      turns_to 1 1 1 1 turns.Again old new t t' s s' done (omega arith) (omega arith) (omega (arith, done.enough), done.served_there, done.served_back)
  both_step turns.Waits turns.Waits old mid new t t' s s' x = turns_to 1 0 1 1 turns.Waits old new t t' s s' (both_do turns.Waits turns.Waits old mid new t t' s s' x) (omega arith) (omega arith) (both [] refl)
  both_step turns.Waits turns.Over old mid new t t' s s' x =
      turns_to 1 0 1 1 turns.Waits old new t t' s s' (both_do turns.Waits turns.Over old mid new t t' s s' x) (omega arith) (omega arith) (there [] refl (rw x.back_steps.1 x.back_steps.0))
  both_step turns.Over turns.Waits old mid new t t' s s' x =
      turns_to 1 0 1 1 turns.Waits old new t t' s s' (both_do turns.Over turns.Waits old mid new t t' s s' x) (omega arith) (omega arith) (back [] refl (rw (x.back_keeps, x.there_steps.1) x.there_steps.0))
  both_step turns.Over turns.Over old mid new t t' s s' x =
      turns_to 1 0 1 1 turns.Over old new t t' s s' (both_do turns.Over turns.Over old mid new t t' s s' x) (omega arith) (omega arith)
      (rw (x.back_keeps, x.there_steps.1) x.there_steps.0, rw x.back_steps.1 x.back_steps.0)

  -- ---- a turn

  -- one more step, after which there may be more to do
  pub one_more : (i : ℕ) (old mid new : RelayView N F) (t t' t'' s s' s'' : Option (List ℕ)) → SoFar i i i old mid t t' s s'
      → Turns n f 1 (Ok turns.Again) mid new t' t'' s' s'' → SoFar (i + 1) (i + 1) (i + 1) old new t t'' s s''
  one_more i old mid new t t' t'' s s' s'' so x =
      then i 1 i 1 i 1 old mid new t t' t'' s s' s'' so (record {
        acts = x.acts;
        run = x.run;
        enough = x.comes_to.0;
        few_there = x.few_there;
        few_back = x.few_back;
        served_there = x.comes_to.1;
        served_back = x.comes_to.2;
        fine = x.failed;
        there_seen = x.there_seen;
        back_seen = x.back_seen;
      })

  comes_on : (steps : ℕ) (front acts : List RelayAct) (turned : Turned) (r : RelayView N F) → (turned ≡ turns.Again → ⊥) → TurnedAs 1 (Ok turned) acts r
      → TurnedAs steps (Ok turned) (front ++ acts) r
  comes_on steps front acts turns.Over r not x = x
  comes_on steps front acts turns.Waits r not (both before is) = both (front ++ before) (ap (λ (x : List RelayAct). front ++ x) is ∙ sym (append_assoc front before (There Waits ∷ Back Waits ∷ [])))
  comes_on steps front acts turns.Waits r not (there before is ended) = there (front ++ before) (ap (λ (x : List RelayAct). front ++ x) is ∙ sym (append_assoc front before (There Waits ∷ []))) ended
  comes_on steps front acts turns.Waits r not (back before is ended) = back (front ++ before) (ap (λ (x : List RelayAct). front ++ x) is ∙ sym (append_assoc front before (Back Waits ∷ []))) ended
  comes_on steps front acts turns.Again r not x = absurd (not refl)

  -- a step after which there is nothing more to do
  pub last_step : (steps i : ℕ) (turned : Turned) (old mid new : RelayView N F) (t t' t'' s s' s'' : Option (List ℕ)) → SoFar i i i old mid t t' s s' → i < steps
      → (turned ≡ turns.Again → ⊥) → Turns n f 1 (Ok turned) mid new t' t'' s' s'' → Turns n f steps (Ok turned) old new t t'' s s''
  last_step steps i turned old mid new t t' t'' s s' s'' so lt not x = record {
    acts = so.acts ++ x.acts;
    run = run_on so.acts x.acts old mid new so.run x.run;
    few_there = omega (arith, count_there_on so.acts x.acts, so.few_there, x.few_there, lt);
    few_back = omega (arith, count_back_on so.acts x.acts, so.few_back, x.few_back, lt);
    comes_to = comes_on steps so.acts x.acts turned new not x.comes_to;
    failed = faults_on so.acts x.acts ∙ ap (λ (y : List RelayFault). y ++ faults x.acts) so.fine ∙ x.failed;
    there_seen = rw (there_on so.acts x.acts) (Appends-trans t t' t'' (there_came so.acts) (there_came x.acts) so.there_seen x.there_seen);
    back_seen = rw (back_on so.acts x.acts) (Appends-trans s s' s'' (back_came so.acts) (back_came x.acts) so.back_seen x.back_seen);
  }

  served_all : (steps i count : ℕ) (way : WayView) → IsServed i count way → i ≤ steps → steps ≤ i → IsServed steps count way
  served_all steps i count way (inl is) most least_i = inl (omega (arith, is, most, least_i))
  served_all steps i count way (inr over) most least_i = inr over

  pub all_steps : (steps i : ℕ) (old new : RelayView N F) (t t' s s' : Option (List ℕ)) → SoFar i i i old new t t' s s' → i ≤ steps → steps ≤ i
      → Turns n f steps (Ok turns.Again) old new t t' s s'
  all_steps steps i old new t t' s s' so most all =
      turns_to steps i i i turns.Again old new t t' s s' so most most (
        omega (arith, so.enough, all),
        served_all steps i (count_there so.acts) new.there so.served_there most all,
        served_all steps i (count_back so.acts) new.back so.served_back most all,
      )
