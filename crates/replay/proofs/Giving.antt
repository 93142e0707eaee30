-- What several calls gave to a connection, taken together.
use Rattle.std.proofs.Common.{◌≡◌, ◌++◌, ◌∙◌, ℕ, List, [], Option, None, Some, ap, append-nil, append_assoc, sym}
use Rattle.std.proofs.KnownBytes.{Appends-nil, Appends-trans}
use Rattle.std.specs.Io.KnownBytes.{Appends, Keeps}
use Rattle.replay.specs.Gives.{Gives, GivesOver}

-- nothing was given
pub gives_none : (s : Option (List ℕ)) (w : List ℕ) → Gives s s w w []
gives_none s w = ([], Appends-nil s, append-nil w)

-- some bytes were given, and then others
pub gives_both : (a b c : Option (List ℕ)) (u v w xs ys : List ℕ) → Gives a b u v xs → Gives b c v w ys → Gives a c u w (xs ++ ys)
gives_both a b c u v w xs ys p q = (
  p.0 ++ q.0,
  Appends-trans a b c p.0 q.0 p.1 q.1,
  sym (append_assoc u xs ys) ∙ ap (λ (l : List ℕ). l ++ ys) p.2 ∙ append_assoc p.0 v ys ∙ ap (λ (l : List ℕ). p.0 ++ l) q.2 ∙ sym (append_assoc p.0 q.0 w),
)

-- what a link sent stays as it was
kept_appends : (a b : Option (List ℕ)) → Keeps a b → Appends a b []
kept_appends None b k = tt
kept_appends (Some x) None k = absurd k
kept_appends (Some x) (Some y) k = k ∙ sym (append-nil x)

-- nothing was sent, and nothing waits that didn't
pub gives_kept : (a b : Option (List ℕ)) (v w : List ℕ) → Keeps a b → w ≡ v → Gives a b v w []
gives_kept a b v w k e = ([], kept_appends a b k, append-nil v ∙ sym e)

-- bytes were given, of which none was sent
pub gives_pushed : (a : Option (List ℕ)) (v w xs : List ℕ) → w ≡ v ++ xs → Gives a a v w xs
gives_pushed a v w xs e = ([], Appends-nil a, sym e)

module _ (C : Type 0) (sent : C → Option (List ℕ)) (waiting : C → List ℕ) where
  pub over_none : (o : Option C) → GivesOver sent waiting o o []
  over_none None = tt
  over_none (Some c) = gives_none (sent c) (waiting c)

  pub over_closed : (o : Option C) (xs : List ℕ) → GivesOver sent waiting o None xs
  over_closed None xs = tt
  over_closed (Some c) xs = tt

  pub over_both : (o p q : Option C) (xs ys : List ℕ) → GivesOver sent waiting o p xs → GivesOver sent waiting p q ys → GivesOver sent waiting o q (xs ++ ys)
  over_both None None None xs ys g h = tt
  over_both None None (Some e) xs ys g h = absurd h
  over_both None (Some d) q xs ys g h = absurd g
  over_both (Some c) None None xs ys g h = tt
  over_both (Some c) None (Some e) xs ys g h = absurd h
  over_both (Some c) (Some d) None xs ys g h = tt
  over_both (Some c) (Some d) (Some e) xs ys g h = gives_both (sent c) (sent d) (sent e) (waiting c) (waiting d) (waiting e) xs ys g h
