-- What several calls counted, taken together.
use Rattle.std.proofs.Common.{◌++◌, List, [], ◌∷◌, refl, subst}
use Rattle.replay.specs.Counts.{AreCounted, HasTold}
use Rattle.replay.specs.declared.finding.Finding.{Finding}
use Rattle.replay.specs.declared.tally.Tally.{Tally}

-- findings that were counted, and then others
counted_both : (xs ys : List Finding) (a b c : Tally) → AreCounted xs a b → AreCounted ys b c → AreCounted (xs ++ ys) a c
counted_both [] ys a b c p q = subst (λ (t : Tally). AreCounted ys t c) p q
counted_both (x ∷ xs) ys a b c p q = (p.0, p.1, counted_both xs ys p.0 b c p.2 q)

pub told_none : (a : Tally) → HasTold a a
told_none a = record { found = []; counted = refl }

pub told_both : (a b c : Tally) → HasTold a b → HasTold b c → HasTold a c
told_both a b c p q = record { found = p.found ++ q.found; counted = counted_both p.found q.found a b c p.counted q.counted }
