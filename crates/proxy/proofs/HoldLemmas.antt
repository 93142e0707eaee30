-- What comes of the acts of a link that holds messages.
use Rattle.std.proofs.Common.{◌≡◌, ◌∙◌, ◌+◌, ◌≤◌, ℕ, List, [], ◌∷◌, ◌++◌, Option, append_assoc, append-nil, ap, arith, length, length-append, subst, sym}
use Rattle.std.specs.Io.KnownBytes.{Appends}
use Rattle.std.proofs.KnownBytes.{Appends-nil, Appends-trans}
use Rattle.proxy.specs.Holding.{Comes, Cuts, Flows, Frees, Gives, HeldView, HoldAct, HoldRun, Passes, Puts, Skips, came, gave, passed, settled}

-- ---- bytes that wait before others

-- they stay as they are
kept : (a a' p g n : List ℕ) → a' ≡ a → a' ++ p ≡ g ++ n → a ++ p ≡ g ++ n
kept a a' p g n is e = ap (λ (l : List ℕ). l ++ p) (sym is) ∙ e

-- more come behind them
grown : (a a' b p g n : List ℕ) → a' ≡ a ++ b → a' ++ p ≡ g ++ n → a ++ (b ++ p) ≡ g ++ n
grown a a' b p g n is e = sym (append_assoc a b p) ∙ ap (λ (l : List ℕ). l ++ p) (sym is) ∙ e

-- the first of them are taken
taken : (a a' b p g n : List ℕ) → a ≡ b ++ a' → a' ++ p ≡ g ++ n → a ++ p ≡ (b ++ g) ++ n
taken a a' b p g n is e =
    ap (λ (l : List ℕ). l ++ p) is ∙ append_assoc b a' p ∙ ap (λ (l : List ℕ). b ++ l) e ∙ sym (append_assoc b g n)

-- there are none, and some come and are taken
flowed : (a a' b p g n : List ℕ) → a ≡ [] → a' ≡ [] → a' ++ p ≡ g ++ n → a ++ (b ++ p) ≡ (b ++ g) ++ n
flowed a a' b p g n is is' e =
    ap (λ (l : List ℕ). l ++ (b ++ p)) is ∙ ap (λ (l : List ℕ). b ++ l) (ap (λ (l : List ℕ). l ++ p) (sym is') ∙ e) ∙ sym (append_assoc b g n)

-- all of them are taken
emptied : (a a' b p g n : List ℕ) → a ≡ b → a' ≡ [] → a' ++ p ≡ g ++ n → a ++ p ≡ (b ++ g) ++ n
emptied a a' b p g n is is' e = taken a a' b p g n (is ∙ sym (append-nil b) ∙ ap (λ (l : List ℕ). b ++ l) (sym is')) e

module _ {L : Type 0} (received : L → Option (List ℕ)) where
  -- what was passed is given or owed
  pub given_or_owed : (old : HeldView L) (acts : List HoldAct) (now : HeldView L) → HoldRun received old acts now → old.owed ++ passed acts ≡ gave acts ++ now.owed
  given_or_owed old [] now run = append-nil old.owed ∙ ap (λ (v : HeldView L). v.owed) (sym run)
  given_or_owed old (Comes b ∷ acts) now run = kept old.owed run.0.owed (passed acts) (gave acts) now.owed run.1.1 (given_or_owed run.0 acts now run.2)
  given_or_owed old (Flows b ∷ acts) now run = flowed old.owed run.0.owed b (passed acts) (gave acts) now.owed run.1.1 run.1.2 (given_or_owed run.0 acts now run.2)
  given_or_owed old (Gives b ∷ acts) now run = taken old.owed run.0.owed b (passed acts) (gave acts) now.owed run.1.1 (given_or_owed run.0 acts now run.2)
  given_or_owed old (Frees b ∷ acts) now run = grown old.owed run.0.owed b (passed acts) (gave acts) now.owed run.1.2 (given_or_owed run.0 acts now run.2)
  given_or_owed old (Passes b ∷ acts) now run = grown old.owed run.0.owed b (passed acts) (gave acts) now.owed run.1.2 (given_or_owed run.0 acts now run.2)
  given_or_owed old (Cuts b n ∷ acts) now run = grown old.owed run.0.owed b (passed acts) (gave acts) now.owed run.1.2 (given_or_owed run.0 acts now run.2)
  given_or_owed old (Skips b ∷ acts) now run = kept old.owed run.0.owed (passed acts) (gave acts) now.owed run.1.2 (given_or_owed run.0 acts now run.2)
  given_or_owed old (Puts b ∷ acts) now run = grown old.owed run.0.owed b (passed acts) (gave acts) now.owed run.1.1 (given_or_owed run.0 acts now run.2)

  -- what came is settled or held
  pub settled_or_held : (old : HeldView L) (acts : List HoldAct) (now : HeldView L) → HoldRun received old acts now → old.rest ++ came acts ≡ settled acts ++ now.rest
  settled_or_held old [] now run = append-nil old.rest ∙ ap (λ (v : HeldView L). v.rest) (sym run)
  settled_or_held old (Comes b ∷ acts) now run = grown old.rest run.0.rest b (came acts) (settled acts) now.rest run.1.2 (settled_or_held run.0 acts now run.2)
  settled_or_held old (Flows b ∷ acts) now run = flowed old.rest run.0.rest b (came acts) (settled acts) now.rest run.1.3 run.1.4 (settled_or_held run.0 acts now run.2)
  settled_or_held old (Gives b ∷ acts) now run = kept old.rest run.0.rest (came acts) (settled acts) now.rest run.1.2 (settled_or_held run.0 acts now run.2)
  settled_or_held old (Frees b ∷ acts) now run = emptied old.rest run.0.rest b (came acts) (settled acts) now.rest run.1.1 run.1.3 (settled_or_held run.0 acts now run.2)
  settled_or_held old (Passes b ∷ acts) now run = taken old.rest run.0.rest b (came acts) (settled acts) now.rest run.1.1 (settled_or_held run.0 acts now run.2)
  settled_or_held old (Cuts b n ∷ acts) now run = taken old.rest run.0.rest b (came acts) (settled acts) now.rest run.1.1 (settled_or_held run.0 acts now run.2)
  settled_or_held old (Skips b ∷ acts) now run = taken old.rest run.0.rest b (came acts) (settled acts) now.rest run.1.1 (settled_or_held run.0 acts now run.2)
  settled_or_held old (Puts b ∷ acts) now run = kept old.rest run.0.rest (came acts) (settled acts) now.rest run.1.2 (settled_or_held run.0 acts now run.2)

  same_link : (a b : L) → b ≡ a → Appends (received a) (received b) []
  same_link a b is = subst (λ (l : L). Appends (received a) (received l) []) (sym is) (Appends-nil (received a))

  quiet : (a b c : L) (bs : List ℕ) → b ≡ a → Appends (received b) (received c) bs → Appends (received a) (received c) bs
  quiet a b c bs is more = Appends-trans (received a) (received b) (received c) [] bs (same_link a b is) more

  -- what came over the link under it
  pub came_over : (old : HeldView L) (acts : List HoldAct) (now : HeldView L) → HoldRun received old acts now → Appends (received old.link) (received now.link) (came acts)
  came_over old [] now run = same_link old.link now.link (ap (λ (v : HeldView L). v.link) run)
  came_over old (Comes b ∷ acts) now run = Appends-trans (received old.link) (received run.0.link) (received now.link) b (came acts) run.1.0 (came_over run.0 acts now run.2)
  came_over old (Flows b ∷ acts) now run = Appends-trans (received old.link) (received run.0.link) (received now.link) b (came acts) run.1.0 (came_over run.0 acts now run.2)
  came_over old (Gives b ∷ acts) now run = quiet old.link run.0.link now.link (came acts) run.1.0 (came_over run.0 acts now run.2)
  came_over old (Frees b ∷ acts) now run = quiet old.link run.0.link now.link (came acts) run.1.0.0 (came_over run.0 acts now run.2)
  came_over old (Passes b ∷ acts) now run = quiet old.link run.0.link now.link (came acts) run.1.0.0 (came_over run.0 acts now run.2)
  came_over old (Cuts b n ∷ acts) now run = quiet old.link run.0.link now.link (came acts) run.1.0 (came_over run.0 acts now run.2)
  came_over old (Skips b ∷ acts) now run = quiet old.link run.0.link now.link (came acts) run.1.0.0 (came_over run.0 acts now run.2)
  came_over old (Puts b ∷ acts) now run = quiet old.link run.0.link now.link (came acts) run.1.0.0 (came_over run.0 acts now run.2)

  fewer : (b g : List ℕ) (old mid now : ℕ) → length b + mid ≡ old → length g + now ≤ mid → length (b ++ g) + now ≤ old
  fewer b g old mid now is few = omega (arith, length-append b g, is, few)

  no_more : (g old mid now : ℕ) → mid ≡ old → g + now ≤ mid → g + now ≤ old
  no_more g old mid now is few = omega (arith, is, few)

  -- no more is given than may be
  pub few_given : (old : HeldView L) (acts : List HoldAct) (now : HeldView L) → HoldRun received old acts now → length (gave acts) + now.left ≤ old.left
  few_given old [] now run = omega (arith, ap (λ (v : HeldView L). v.left) run)
  few_given old (Comes b ∷ acts) now run = no_more (length (gave acts)) old.left run.0.left now.left run.1.3 (few_given run.0 acts now run.2)
  few_given old (Flows b ∷ acts) now run = fewer b (gave acts) old.left run.0.left now.left run.1.5 (few_given run.0 acts now run.2)
  few_given old (Gives b ∷ acts) now run = fewer b (gave acts) old.left run.0.left now.left run.1.3 (few_given run.0 acts now run.2)
  few_given old (Frees b ∷ acts) now run = no_more (length (gave acts)) old.left run.0.left now.left run.1.0.1 (few_given run.0 acts now run.2)
  few_given old (Passes b ∷ acts) now run = no_more (length (gave acts)) old.left run.0.left now.left run.1.0.1 (few_given run.0 acts now run.2)
  few_given old (Cuts b n ∷ acts) now run = let few = few_given run.0 acts now run.2 in omega (arith, run.1.3, few)
  few_given old (Skips b ∷ acts) now run = no_more (length (gave acts)) old.left run.0.left now.left run.1.0.1 (few_given run.0 acts now run.2)
  few_given old (Puts b ∷ acts) now run = no_more (length (gave acts)) old.left run.0.left now.left run.1.0.1 (few_given run.0 acts now run.2)
