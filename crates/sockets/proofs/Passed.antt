-- What has passed on a way after some acts.
use Rattle.std.proofs.Common.{◌≡◌, ℕ, Option, List, [], ◌∷◌, ◌++◌, ap, refl, subst, sym, inl, inr, ◌∙◌, append_assoc, append-nil}
use Rattle.std.proofs.KnownBytes.{Appends-nil, Appends-trans}
use Rattle.std.specs.Io.KnownBytes.{Appends}
use Rattle.sockets.specs.declared.turned.RelayFault.TheVariants.{Receiving, Sending}
use Rattle.sockets.specs.declared.way.Stage.TheVariants.{Open, Ended}
use Rattle.sockets.specs.RelayActs.{Back, Comes, Ends, EndsSending, Fails, Goes, RelayAct, RelayRun, RelayView, Tells, There, Waits, WayAct, WayMoves, WayView, back_came, back_went, came, there_came, there_went, went}
use Rattle.sockets.specs.Relaying.{HasPassed}

-- What has passed so far: what came over the one link and went over the other since they had received and sent this.
record So {F T : Type 0} (f : Tells F) (t : Tells T) (received sent : Option (List ℕ)) (c w : List ℕ) (from : F) (to : T) (way : WayView) : Type 0 where
  pub comes : Appends received (f.received from) c
  pub goes : Appends sent (t.sent to) w
  pub order : c ≡ w ++ way.held
  pub all : way.stage ≡ Ended → way.held ≡ []

module _ {F T : Type 0} (f : Tells F) (t : Tells T) (r s : Option (List ℕ)) where
  -- an act on the way in which no byte was moved
  moved_none : (c w : List ℕ) (old new : WayView) (from from' : F) (to to' : T) → So f t r s c w from to old → Appends (f.received from) (f.received from') []
      → Appends (t.sent to) (t.sent to') [] → new ≡ old → So f t r s (c ++ []) (w ++ []) from' to' new
  moved_none c w old new from from' to to' so none_came none_went same = record {
    comes = Appends-trans r (f.received from) (f.received from') c [] so.comes none_came;
    goes = Appends-trans s (t.sent to) (t.sent to') w [] so.goes none_went;
    order = rw (append-nil c, append-nil w, same) so.order;
    all = rw same so.all;
  }

  -- an act on the way
  on_act : (act : WayAct) (c w : List ℕ) (old new : WayView) (from from' : F) (to to' : T) → So f t r s c w from to old → WayMoves f t act old new from from' to to'
      → So f t r s (c ++ came act) (w ++ went act) from' to' new
  on_act (Comes bytes) c w old new from from' to to' so (is_open, none, some, is, over, same) = record {
    comes = Appends-trans r (f.received from) (f.received from') c bytes so.comes over.received;
    goes = rw (append-nil w, same) so.goes;
    order = rw (append-nil w, is) (ap (λ (x : List ℕ). x ++ bytes) (so.order ∙ ap (λ (x : List ℕ). w ++ x) none ∙ append-nil w));
    all = λ ended. absurd (cc);
  }
  on_act (Goes []) c w old new from from' to to' so (some, first, stage, over, same) = absurd (some refl)
  on_act (Goes (byte ∷ bytes)) c w old new from from' to to' so (some, first, stage, over, same) = record {
    comes = rw (append-nil c, same) so.comes;
    goes = Appends-trans s (t.sent to) (t.sent to') w (byte ∷ bytes) so.goes over.sent;
    order = rw (append-nil c) (so.order ∙ ap (λ (x : List ℕ). w ++ x) first ∙ sym (append_assoc w (byte ∷ bytes) new.held));
    all = λ ended. let none = so.all (sym stage ∙ ended) in absurd (cc);
  }
  on_act Ends c w old new from from' to to' so (is_open, none, is, (told, over), same) = record {
    comes = Appends-trans r (f.received from) (f.received from') c [] so.comes over.received;
    goes = rw (append-nil w, same) so.goes;
    order = rw (append-nil c, append-nil w, is) so.order;
    all = λ ended. absurd (cc);
  }
  on_act EndsSending c w old new from from' to to' so (ending, none, is, (told, over), same) = record {
    comes = rw (append-nil c, same) so.comes;
    goes = Appends-trans s (t.sent to) (t.sent to') w [] so.goes over.sent;
    order = rw (append-nil c, append-nil w, is) so.order;
    all = λ _. rw is none;
  }
  on_act Waits c w old new from from' to to' so (same, inl (none, (told, over), still)) =
      moved_none c w old new from from' to to' so over.received (rw still (Appends-nil (t.sent to))) same
  on_act Waits c w old new from from' to to' so (same, inr (some, (told, over), still)) =
      moved_none c w old new from from' to to' so (rw still (Appends-nil (f.received from))) over.sent same
  on_act (Fails (Receiving fault)) c w old new from from' to to' so (same, over, still) =
      moved_none c w old new from from' to to' so over.received (rw still (Appends-nil (t.sent to))) same
  on_act (Fails (Sending fault)) c w old new from from' to to' so (same, over, still) =
      moved_none c w old new from from' to to' so (rw still (Appends-nil (f.received from))) over.sent same

  -- an act on the other way, in which nothing came over the one link and went over the other
  on_other : (c w : List ℕ) (way new : WayView) (from from' : F) (to to' : T) → So f t r s c w from to way → Appends (f.received from) (f.received from') []
      → Appends (t.sent to) (t.sent to') [] → new ≡ way → So f t r s c w from' to' new
  on_other c w way new from from' to to' so none_came none_went same = record {
    comes = subst (λ (x : List ℕ). Appends r (f.received from') x) (append-nil c) (Appends-trans r (f.received from) (f.received from') c [] so.comes none_came);
    goes = subst (λ (x : List ℕ). Appends s (t.sent to') x) (append-nil w) (Appends-trans s (t.sent to) (t.sent to') w [] so.goes none_went);
    order = rw same so.order;
    all = rw same so.all;
  }

  has_passed : (c w : List ℕ) (from : F) (to : T) (way : WayView) → So f t r s c w from to way → HasPassed c w r (f.received from) s (t.sent to) way
  has_passed c w from to way so = record {
    comes = so.comes;
    goes = so.goes;
    order = so.order;
    all = λ ended. so.order ∙ ap (λ (x : List ℕ). w ++ x) (so.all ended) ∙ append-nil w;
  }

  nothing_yet : (from : F) (to : T) → f.received from ≡ r → t.sent to ≡ s → So f t r s [] [] from to (record { held = []; stage = Open })
  nothing_yet from to received sent = record { comes = rw received (Appends-nil r); goes = rw sent (Appends-nil s); order = refl; all = λ _. refl }

-- On a way nothing is sent over the link that bytes come over, and nothing comes over the other.
quiet : {F T : Type 0} (f : Tells F) (t : Tells T) (act : WayAct) (old new : WayView) (from from' : F) (to to' : T) → WayMoves f t act old new from from' to to'
    → Appends (f.sent from) (f.sent from') [] × Appends (t.received to) (t.received to') []
quiet f t (Comes bytes) old new from from' to to' (is_open, none, some, is, over, same) = (over.sent, rw same (Appends-nil (t.received to)))
quiet f t (Goes bytes) old new from from' to to' (some, first, stage, over, same) = (rw same (Appends-nil (f.sent from)), over.received)
quiet f t Ends old new from from' to to' (is_open, none, is, (told, over), same) = (over.sent, rw same (Appends-nil (t.received to)))
quiet f t EndsSending old new from from' to to' (ending, none, is, (told, over), same) = (rw same (Appends-nil (f.sent from)), over.received)
quiet f t Waits old new from from' to to' (same, inl (none, (told, over), still)) = (over.sent, rw still (Appends-nil (t.received to)))
quiet f t Waits old new from from' to to' (same, inr (some, (told, over), still)) = (rw still (Appends-nil (f.sent from)), over.received)
quiet f t (Fails (Receiving fault)) old new from from' to to' (same, over, still) = (over.sent, rw still (Appends-nil (t.received to)))
quiet f t (Fails (Sending fault)) old new from from' to to' (same, over, still) = (rw still (Appends-nil (f.sent from)), over.received)

module _ {N F : Type 0} (n : Tells N) (f : Tells F) (r s : Option (List ℕ)) where
  there_run : (acts : List RelayAct) (c w : List ℕ) (old now : RelayView N F) → So n f r s c w old.near old.far old.there → RelayRun n f old acts now
      → So n f r s (c ++ there_came acts) (w ++ there_went acts) now.near now.far now.there
  there_run [] c w old now so same = rw (same, append-nil c, append-nil w) so
  there_run (There act ∷ acts) c w old now so (mid, (moves, keeps), rest) =
      rw (← append_assoc c (came act) (there_came acts), ← append_assoc w (went act) (there_went acts))
      (there_run acts (c ++ came act) (w ++ went act) mid now (on_act n f r s act c w old.there mid.there old.near mid.near old.far mid.far so moves) rest)
  there_run (Back act ∷ acts) c w old now so (mid, (moves, keeps), rest) =
      let none = quiet f n act old.back mid.back old.far mid.far old.near mid.near moves in
      there_run acts c w mid now (on_other n f r s c w old.there mid.there old.near mid.near old.far mid.far so none.1 none.0 keeps) rest

  back_run : (acts : List RelayAct) (c w : List ℕ) (old now : RelayView N F) → So f n r s c w old.far old.near old.back → RelayRun n f old acts now
      → So f n r s (c ++ back_came acts) (w ++ back_went acts) now.far now.near now.back
  back_run [] c w old now so same = rw (same, append-nil c, append-nil w) so
  back_run (Back act ∷ acts) c w old now so (mid, (moves, keeps), rest) =
      rw (← append_assoc c (came act) (back_came acts), ← append_assoc w (went act) (back_went acts))
      (back_run acts (c ++ came act) (w ++ went act) mid now (on_act f n r s act c w old.back mid.back old.far mid.far old.near mid.near so moves) rest)
  back_run (There act ∷ acts) c w old now so (mid, (moves, keeps), rest) =
      let none = quiet n f act old.there mid.there old.near mid.near old.far mid.far moves in
      back_run acts c w mid now (on_other f n r s c w old.back mid.back old.far mid.far old.near mid.near so none.1 none.0 keeps) rest

  pub there_passed : (near : N) (far : F) (acts : List RelayAct) (now : RelayView N F) → n.received near ≡ r → f.sent far ≡ s
      → RelayRun n f (record { near = near; far = far; there = record { held = []; stage = Open }; back = record { held = []; stage = Open } }) acts now
      → HasPassed (there_came acts) (there_went acts) r (n.received now.near) s (f.sent now.far) now.there
  there_passed near far acts now received sent run =
      has_passed n f r s (there_came acts) (there_went acts) now.near now.far now.there (there_run acts [] [] _ now (nothing_yet n f r s near far received sent) run)

  pub back_passed : (near : N) (far : F) (acts : List RelayAct) (now : RelayView N F) → f.received far ≡ r → n.sent near ≡ s
      → RelayRun n f (record { near = near; far = far; there = record { held = []; stage = Open }; back = record { held = []; stage = Open } }) acts now
      → HasPassed (back_came acts) (back_went acts) r (f.received now.far) s (n.sent now.near) now.back
  back_passed near far acts now received sent run =
      has_passed f n r s (back_came acts) (back_went acts) now.far now.near now.back (back_run acts [] [] _ now (nothing_yet f n r s far near received sent) run)
