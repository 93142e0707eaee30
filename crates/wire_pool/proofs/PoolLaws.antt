-- The ids of a pool, and the connections that it has lent.
use Rattle.std.proofs.Common.{◌≡◌, ℕ, suc, ◌+◌, ◌-◌, ◌^◌, ◌<◌, ◌≤◌, ◌==◌, ◌++◌, All, Bool, true, false, not, cond, if◌then◌else◌, List, [], ◌∷◌, length, map, Option, Some, None, ap, refl, subst, arith}
use Rattle.std.proofs.lemmas.Bool.{eqb-true}
use Rattle.std.proofs.lemmas.List.Elements.{All-append, All-head, All-map, All-tail, All-weaker}
use Rattle.wire_pool.specs.declared.loans.Loan.{Loan}
use Rattle.wire_pool.specs.declared.pool_answers.CheckOut.{CheckOut}
use Rattle.wire_pool.specs.declared.pool_answers.CheckOut.TheVariants.{Use, Open, Full, PoolClosed}
use Rattle.wire_pool.specs.Loans.{loan_of, without}
use Rattle.wire_pool.specs.Pools.{IsGiven, id_after}

-- after this id is given, each id up to it was given
pub given_upto : (id k : ℕ) → k ≤ id → IsGiven (id_after id) k
given_upto id k le = by (id == 2 ^ 64 - 1)
  where
    by : (b : Bool) → IsGiven (if b then None else Some (id + 1)) k
    by true = tt
    by false = omega (arith, le)

-- an id that was given is below the next one
pub given_below : (next : Option ℕ) (id k : ℕ) → next ≡ Some id → IsGiven next k → k < id
given_below next id k e g = subst (λ (n : Option ℕ). IsGiven n k) e g

-- what was given stays given
pub still_given : (next : Option ℕ) (id k : ℕ) → next ≡ Some id → IsGiven next k → IsGiven (id_after id) k
still_given next id k e g = let lt : k < id = given_below next id k e g in given_upto id k (omega (arith, lt))

pub nothing : {A : Type 0} (x : A) → None ≡ Some x → ⊥
nothing x e = grind arith

-- what is true of the ids of all loans is true of one that is found
pub of_loan : (P : ℕ → Type 0) (id : ℕ) (lent : List Loan) (loan : Loan) → loan_of id lent ≡ Some loan → All (λ (l : Loan). P l.id) lent → P id
of_loan P id [] loan e all = absurd (nothing loan e)
of_loan P id (l ∷ lent) loan e all = by (l.id == id) refl e (λ found. of_loan P id lent loan found (All-tail (λ (x : Loan). P x.id) l lent all))
  where
    by : (b : Bool) → (l.id == id) ≡ b → cond b (Some l) (loan_of id lent) ≡ Some loan → (loan_of id lent ≡ Some loan → P id) → P id
    by true is found rest = subst P (eqb-true l.id id is) (All-head (λ (x : Loan). P x.id) l lent all)
    by false is found rest = rest found

-- taking one loan out leaves no more loans
pub no_more : (id : ℕ) (lent : List Loan) → length (without id lent) ≤ length lent
no_more id [] = omega arith
no_more id (l ∷ lent) = by (l.id == id) (no_more id lent)
  where
    by : (b : Bool) → length (without id lent) ≤ length lent → length (cond (not b) (l ∷ without id lent) (without id lent)) ≤ suc (length lent)
    by true rest = omega (arith, rest)
    by false rest = omega (arith, rest)

-- taking out a loan that is found leaves at least one loan fewer
pub one_fewer : (id : ℕ) (lent : List Loan) (loan : Loan) → loan_of id lent ≡ Some loan → length (without id lent) < length lent
one_fewer id [] loan e = absurd (nothing loan e)
one_fewer id (l ∷ lent) loan e = by (l.id == id) e (no_more id lent) (one_fewer id lent loan)
  where
    by : (b : Bool) → cond b (Some l) (loan_of id lent) ≡ Some loan → length (without id lent) ≤ length lent → (loan_of id lent ≡ Some loan → length (without id lent) < length lent)
        → length (cond (not b) (l ∷ without id lent) (without id lent)) < suc (length lent)
    by true found rest fewer = omega (arith, rest)
    by false found rest fewer = let lt : length (without id lent) < length lent = fewer found in omega (arith, lt)

-- all ids that the pool knows are below the next one
pub newer_than : (next : Option ℕ) (id : ℕ) → next ≡ Some id → (idle : List ℕ) (lent : List Loan)
    → All (IsGiven next) idle → All (λ (l : Loan). IsGiven next l.id) lent → All (λ (known : ℕ). known < id) (idle ++ map (λ (l : Loan). l.id) lent)
newer_than next id e idle lent of_idle of_lent =
    All-append (λ (known : ℕ). known < id) idle (map (λ (l : Loan). l.id) lent)
    (All-weaker (IsGiven next) (λ (known : ℕ). known < id) (λ k g. given_below next id k e g) idle of_idle)
    (All-map (λ (known : ℕ). known < id) (λ (l : Loan). l.id) lent
    (All-weaker (λ (l : Loan). IsGiven next l.id) (λ (l : Loan). l.id < id) (λ l g. given_below next id l.id e g) lent of_lent))

-- the id of a new connection
abbrev id_of : CheckOut → ℕ
id_of (Open id) = id
id_of (Use id) = id
id_of Full = 0
id_of PoolClosed = 0

pub same_id : (a b : ℕ) → Open a ≡ Open b → a ≡ b
same_id a b e = ap (λ (r : CheckOut). id_of r) e
