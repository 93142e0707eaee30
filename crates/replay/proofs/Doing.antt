-- What several calls did on a connection, taken together.
use Rattle.std.proofs.Common.{◌≡◌, ◌++◌, ◌∙◌, List, [], ◌∷◌, ap, append-nil, append_assoc, refl, sym}
use Rattle.replay.specs.declared.finding.Finding.{Finding}
use Rattle.replay.specs.Matchings.{Seen}
use Rattle.replay.specs.MatchingRuns.{Act, Does, DoesSome, after_acts, found_by, step}

-- acts one after another
pub after_acts-append : (s : Seen) (xs ys : List Act) → after_acts s (xs ++ ys) ≡ after_acts (after_acts s xs) ys
after_acts-append s [] ys = refl
after_acts-append s (x ∷ xs) ys = after_acts-append (step s x).0 xs ys

pub found_by-append : (s : Seen) (xs ys : List Act) → found_by s (xs ++ ys) ≡ found_by s xs ++ found_by (after_acts s xs) ys
found_by-append s [] ys = refl
found_by-append s (x ∷ xs) ys =
    ap (λ (l : List Finding). (step s x).1 ++ l) (found_by-append (step s x).0 xs ys)
    ∙ sym (append_assoc (step s x).1 (found_by (step s x).0 xs) (found_by (after_acts (step s x).0 xs) ys))

-- nothing was done
pub does_none : (s : Seen) (fs : List Finding) → Does [] s s fs fs
does_none s fs = record { state = refl; found = sym (append-nil fs) }

-- one act was done
pub does_one : (act : Act) (s t : Seen) (fs gs : List Finding) → t ≡ (step s act).0 → gs ≡ fs ++ (step s act).1 → Does (act ∷ []) s t fs gs
does_one act s t fs gs e f = record { state = e; found = f ∙ ap (λ (l : List Finding). fs ++ l) (sym (append-nil (step s act).1)) }

-- some acts were done, and then others
pub does_both : (xs ys : List Act) (s t u : Seen) (fs gs hs : List Finding) → Does xs s t fs gs → Does ys t u gs hs → Does (xs ++ ys) s u fs hs
does_both xs ys s t u fs gs hs p q = record {
  state = q.state ∙ ap (λ (m : Seen). after_acts m ys) p.state ∙ sym (after_acts-append s xs ys);
  found =
      q.found ∙ ap (λ (l : List Finding). l ++ found_by t ys) p.found ∙ append_assoc fs (found_by s xs) (found_by t ys)
      ∙ ap (λ (l : List Finding). fs ++ l) (ap (λ (m : Seen). found_by s xs ++ found_by m ys) p.state ∙ sym (found_by-append s xs ys));
}

pub some_none : (s : Seen) (fs : List Finding) → DoesSome s s fs fs
some_none s fs = ([], does_none s fs)

pub some_both : (s t u : Seen) (fs gs hs : List Finding) → DoesSome s t fs gs → DoesSome t u gs hs → DoesSome s u fs hs
some_both s t u fs gs hs p q = (p.0 ++ q.0, does_both p.0 q.0 s t u fs gs hs p.1 q.1)

pub some_of : (xs : List Act) (s t : Seen) (fs gs : List Finding) → Does xs s t fs gs → DoesSome s t fs gs
some_of xs s t fs gs p = (xs, p)
