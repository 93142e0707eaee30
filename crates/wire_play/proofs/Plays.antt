-- Lines that are played, one after another.
use Rattle.std.proofs.Common.{◌≡◌, inl, inr, ◌++◌, [], ◌∷◌, ℕ, Bool, true, false, List, codes, Option, None, Some, Result, Ok, Err, IfOk, refl, sym, ap, subst, ◌∙◌, append_assoc, append-nil}
use Rattle.std.specs.Prelude.{flat_map}
use Rattle.std.specs.Io.KnownBytes.{Appends}
use Rattle.std.proofs.KnownBytes.{Appends-kept, Appends-nil, Appends-trans}
use Rattle.std.proofs.lemmas.Grind.{flat_map-append}
use Rattle.wire_peer.specs.{Does, Stops}
use Rattle.wire_model.specs.declared.limits.WorldLimits.{WorldLimits}
use Rattle.wire_model.specs.declared.refusals.WorldRefusal.{WorldRefusal}
use Rattle.wire_model.specs.declared.reports.Report.{Report}
use Rattle.wire_model.specs.{AreGood, World}
use Rattle.wire_world.specs.Setups.{IsNewWorld}
use Rattle.wire_world.specs.Worlds.{WorldSeen}
use Rattle.wire_play.specs.declared.named.Setup.{Setup}
use Rattle.wire_play.specs.Naming.{Names, setup}
use Rattle.wire_play.specs.Reports.{result_line}
use Rattle.wire_play.specs.Scripts.{LinesText, Plays, PlaysIn, LineHappens, Writes, ending, world_text}
use Rattle.wire_play.specs.Played.{LinePlayed, LinesPlayed, OverText, SetupText}
use Rattle.wire_play.proofs.OneName.{one_setup}

-- Lines were played from one world to another, with these results, and the results' lines were written. Playing the lines that
-- are left then completes the playing of all.
pub record SoFar {H : Type 0} (does : Does H) (stop : Stops H) (l : WorldLimits) (old : World H) (all : List (ℕ × List ℕ)) (now : World H) (left : List (ℕ × List ℕ)) (out out' : Option (List ℕ)) : Type 0 where
  pub results : List (Result Report WorldRefusal)
  pub follows : (others : List (Result Report WorldRefusal)) (new : World H) (fault : Option ℕ)
      → Plays does stop l now left others new fault → Plays does stop l old all (results ++ others) new fault
  pub written : Appends out out' (flat_map result_line results)

pub none_yet : {H : Type 0} (does : Does H) (stop : Stops H) (l : WorldLimits) (old : World H) (all : List (ℕ × List ℕ)) (out : Option (List ℕ))
    → SoFar does stop l old all old all out out
none_yet does stop l old all out = record { results = []; follows = λ others new fault p. p; written = Appends-nil out }

-- one more line is played
line_more : {H : Type 0} (does : Does H) (stop : Stops H) (l : WorldLimits) (old : World H) (all : List (ℕ × List ℕ)) (now mid : World H)
    (line : ℕ × List ℕ) (left : List (ℕ × List ℕ)) (a b c : Option (List ℕ)) (ended : Result Report WorldRefusal)
    → SoFar does stop l old all now (line ∷ left) a b → LineHappens does stop l now line.1 ended mid → Appends b c (result_line ended)
    → SoFar does stop l old all mid left a c
line_more {H} does stop l old all now mid line left a b c ended g turn w = record {
  results = g.results ++ ended ∷ [];
  follows = λ others new fault p.
      subst (λ (rs : List (Result Report WorldRefusal)). Plays does stop l old all rs new fault) (sym (append_assoc g.results (ended ∷ []) others))
      (g.follows (ended ∷ others) new fault (inl (mid, ended, others, turn, p, refl)));
  written = subst (Appends a c) (ap (λ (x : List ℕ). flat_map result_line g.results ++ x) (sym (append-nil (result_line ended)))
      ∙ sym (flat_map-append result_line g.results (ended ∷ [])))
      (Appends-trans a b c (flat_map result_line g.results) (result_line ended) g.written w);
}

pub one_more : {H : Type 0} (does : Does H) (stop : Stops H) (l k : WorldLimits) (old : World H) (all : List (ℕ × List ℕ)) (now mid : World H)
    (line : ℕ × List ℕ) (these left : List (ℕ × List ℕ)) (a b c : Option (List ℕ)) (named : Bool)
    → k ≡ l → these ≡ line ∷ left → named ≡ true → SoFar does stop l old all now these a b → LinePlayed does stop k now line.1 mid b c named
    → SoFar does stop l old all mid left a c
one_more does stop l k old all now mid line these left a b c false same split is g played = absurd (cc)
one_more {H} does stop l k old all now mid line these left a b c true same split is g played =
    line_more does stop l old all now mid line left a b c played.0
    (subst (λ (ls : List (ℕ × List ℕ)). SoFar does stop l old all now ls a b) split g)
    (subst (λ (k : WorldLimits). LineHappens does stop k now line.1 played.0 mid) same played.1) played.2

-- no line is left
pub all_played : {H : Type 0} (does : Does H) (stop : Stops H) (l : WorldLimits) (old : World H) (all : List (ℕ × List ℕ)) (now : World H)
    (left : List (ℕ × List ℕ)) (a b : Option (List ℕ)) → left ≡ [] → SoFar does stop l old all now left a b → LinesPlayed does stop l old all now None a b
all_played does stop l old all now left a b none g = record {
  results = g.results;
  plays = subst (λ (rs : List (Result Report WorldRefusal)). Plays does stop l old all rs now None) (append-nil g.results)
      (g.follows [] now None (subst (λ (ls : List (ℕ × List ℕ)). Plays does stop l now ls [] now None) (sym none) (refl, refl, refl)));
  written = g.written;
}

-- the next line names no event
pub faulted : {H : Type 0} (does : Does H) (stop : Stops H) (l k : WorldLimits) (old : World H) (all : List (ℕ × List ℕ)) (now new : World H)
    (line : ℕ × List ℕ) (these left : List (ℕ × List ℕ)) (a b c : Option (List ℕ)) (named : Bool)
    → these ≡ line ∷ left → named ≡ false → SoFar does stop l old all now these a b → LinePlayed does stop k now line.1 new b c named
    → LinesPlayed does stop l old all new (Some line.0) a c
faulted does stop l k old all now new line these left a b c true split is g played = absurd (cc)
faulted does stop l k old all now new line these left a b c false split is g played = record {
  results = g.results;
  plays = subst (λ (rs : List (Result Report WorldRefusal)). Plays does stop l old all rs new (Some line.0)) (append-nil g.results)
      (g.follows [] new (Some line.0)
      (subst (λ (ls : List (ℕ × List ℕ)). Plays does stop l now ls [] new (Some line.0)) (sym split) (inr (played.0, refl, played.1, refl))));
  written = Appends-kept a b c (flat_map result_line g.results) g.written played.2;
}

-- the world's own line, those of its events, and the end
pub world_played : {H : Type 0} (does : Does H) (stop : Stops H) (l : WorldLimits) (old new : World H) (lines : List (ℕ × List ℕ)) (found fault : Option ℕ)
    (a b c d : Option (List ℕ)) → found ≡ fault → Appends a b (codes "world\n") → LinesPlayed does stop l old lines new found b c → Appends c d (ending new fault)
    → Writes (λ (text : List ℕ). PlaysIn does stop l old lines text fault) a d
world_played does stop l old new lines found fault a b c d same first played last = (
  world_text played.results new fault,
  (played.results, new, subst (λ (f : Option ℕ). Plays does stop l old lines played.results new f) same played.plays, refl),
  Appends-trans a b d (codes "world\n") (flat_map result_line played.results ++ ending new fault) first
      (Appends-trans b c d (flat_map result_line played.results) (ending new fault) played.written last),
)

-- the world is a new one
pub over_played : {H E : Type 0} (r : Result (Option ℕ) E) (does : Does H) (stop : Stops H) (h : H) (l : WorldLimits) (number : ℕ) (lines : List (ℕ × List ℕ))
    (w : WorldSeen H) (a b : Option (List ℕ)) → IsNewWorld l h (Ok w)
    → IfOk r (λ fault. Writes (λ (text : List ℕ). PlaysIn does stop w.limits w.state lines text fault) a b)
    → IfOk r (λ fault. Writes (λ (text : List ℕ). OverText does stop h l number lines text fault) a b)
over_played (Err e) does stop h l number lines w a b new p = tt
over_played {H} (Ok fault) does stop h l number lines w a b new p =
    let q = subst (λ (v : WorldSeen H). Writes (λ (text : List ℕ). PlaysIn does stop v.limits v.state lines text fault) a b) new.1 p in
    (q.0, inl (new.0, q.1), q.2)

-- ---- the first line

-- it makes no world
pub first_faulted : (line : ℕ × List ℕ) (these left : List (ℕ × List ℕ)) (a : Option (List ℕ)) → these ≡ line ∷ left
    → ((s : Setup) → Names line.1 (setup s) → ⊥) → Writes (λ (text : List ℕ). LinesText these text (Some line.0)) a a
first_faulted line these left a split none = (
  [],
  subst (λ (ls : List (ℕ × List ℕ)). LinesText ls [] (Some line.0)) (sym split) (inr (λ s makes. none s makes.0, refl, refl)),
  Appends-nil a,
)

-- it names a world
first_text : (line : ℕ × List ℕ) (left : List (ℕ × List ℕ)) (s : Setup) (text : List ℕ) (fault : Option ℕ) → Names line.1 (setup s)
    → SetupText s line.0 left text fault → LinesText (line ∷ left) text fault
first_text line left s text fault names (inl made) = inl (s, (names, made.0), made.1)
first_text line left s text fault names (inr bad) =
    inr (λ t makes. bad.0 (subst (λ (u : Setup). AreGood u.limits) (one_setup line.1 s t names makes.0) makes.1), bad.1, bad.2)

pub first_played : {E : Type 0} (r : Result (Option ℕ) E) (line : ℕ × List ℕ) (these left : List (ℕ × List ℕ)) (s : Setup) (a b : Option (List ℕ))
    → these ≡ line ∷ left → Names line.1 (setup s) → IfOk r (λ fault. Writes (λ (text : List ℕ). SetupText s line.0 left text fault) a b)
    → IfOk r (λ fault. Writes (λ (text : List ℕ). LinesText these text fault) a b)
first_played (Err e) line these left s a b split names p = tt
first_played (Ok fault) line these left s a b split names p = (
  p.0,
  subst (λ (ls : List (ℕ × List ℕ)). LinesText ls p.0 fault) (sym split) (first_text line left s p.0 fault names p.1),
  p.2,
)
