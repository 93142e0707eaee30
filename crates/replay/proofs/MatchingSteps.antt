-- What is known where answers are given up, and of the last one.
use Rattle.std.proofs.Common.{◌≡◌, ◌++◌, ◌∙◌, ◌-◌, ◌<◌, ℕ, suc, get_or, length, arith, Bool, true, false, if◌then◌else◌, List, [], ◌∷◌, Option, None, Some, map, refl, sym, ap, append-nil}
use Rattle.std.specs.Prelude.{nat_le}
use Rattle.replay.specs.declared.answers.Answer.{Answer}
use Rattle.replay.specs.Matchings.{TakesPast, last_due, not_past, past}

pub past_end : {X : Type 0} (f : Answer → X) (now : ℕ) (xs : List Answer) (before all : List X) → past now xs ≡ [] → before ++ map f (past now xs) ≡ all → before ≡ all
past_end {X} f now xs before all e inv = sym (append-nil before) ∙ ap (λ (l : List Answer). before ++ map f l) (sym e) ∙ inv

all_left : (now : ℕ) (xs : List Answer) → past now xs ≡ [] → xs ≡ not_past now xs
all_left now [] e = refl
all_left now (x ∷ xs) e = by (nat_le x.due now) e
  where
    by : (b : Bool) → (if b then x ∷ past now xs else []) ≡ [] → x ∷ xs ≡ (if b then not_past now xs else x ∷ xs)
    by true h = absurd cc
    by false h = refl

pub not_past_end : (now : ℕ) (xs left : List Answer) → past now xs ≡ [] → not_past now xs ≡ left → xs ≡ left
not_past_end now xs left e inv = all_left now xs e ∙ inv

pub last_at : (xs : List Answer) (a : Answer) → 0 < length xs → a ≡ get_or xs (length xs - 1) a → a.due ≡ last_due xs
last_at [] a h e = absurd (omega arith)
last_at (x ∷ []) a h e = ap (λ (y : Answer). y.due) e
last_at (x ∷ (y ∷ ys)) a h e =
    let k : length (x ∷ (y ∷ ys)) - 1 ≡ suc (length ys) = omega arith in
    let j : length (y ∷ ys) - 1 ≡ length ys = omega arith in
    let some : 0 < length (y ∷ ys) = omega arith in
    last_at (y ∷ ys) a some (e ∙ ap (λ (i : ℕ). get_or (x ∷ (y ∷ ys)) i a) k ∙ ap (λ (i : ℕ). get_or (y ∷ ys) i a) (sym j))

pub ended : (now : ℕ) (old new : List Answer) (r : Option Answer) → TakesPast now old new r → ((a : Answer) → r ≡ Some a → ⊥) → (past now old ≡ []) × (new ≡ old)
ended now old new None t n = t
ended now old new (Some a) t n = absurd (n a refl)
