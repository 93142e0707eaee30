-- How often a pool knows a connection.
use Rattle.std.proofs.Common.{◌≡◌, ℕ, ◌+◌, ◌<◌, ◌≤◌, ◌==◌, ◌&&◌, Bool, true, false, not, cond, if◌then◌else◌, nat_lt, List, [], ◌∷◌, ◌++◌, length, map, Option, Some, None, ap, refl, sym, subst, arith}
use Rattle.std.proofs.Math.Decide.{dec_lt}
use Rattle.std.proofs.lemmas.Bool.{eqb-true}
use Rattle.wire_pool.specs.declared.loans.Loan.{Loan}
use Rattle.wire_pool.specs.declared.pool_answers.CheckIn.{CheckIn}
use Rattle.wire_pool.specs.declared.pool_answers.CheckIn.TheVariants as answers
use Rattle.wire_pool.specs.declared.pool_answers.CheckOut.{CheckOut}
use Rattle.wire_pool.specs.declared.pool_answers.CheckOut.TheVariants as outs
use Rattle.wire_pool.specs.Loans.{cleared, lending, loan_of, without}
use Rattle.wire_pool.specs.PoolRuns.{PoolCall, after_call, after_calls, times_idle, times_known, times_lent}
use Rattle.wire_pool.specs.PoolRuns as runs
use Rattle.wire_pool.specs.Pools.{IsGiven, PoolSeen, id_after, lend, new_pool, next_after, open_new, take_back}
use Rattle.wire_pool.proofs.PoolLaws.{given_upto, nothing, still_given}

-- ---- loans

-- taking one loan out leaves no connection lent more often
left : (k id : ℕ) (lent : List Loan) → times_lent k (without id lent) ≤ times_lent k lent
left k id [] = omega arith
left k id (l ∷ lent) = by (l.id == id) (left k id lent)
  where
    by : (b : Bool) → times_lent k (without id lent) ≤ times_lent k lent → times_lent k (cond (not b) (l ∷ without id lent) (without id lent)) ≤ times_lent k (l ∷ lent)
    by true rest = omega (arith, rest)
    by false rest = omega (arith, rest)

-- the connection that was taken out isn't lent any more
gone : (id : ℕ) (lent : List Loan) → times_lent id (without id lent) ≡ 0
gone id [] = refl
gone id (l ∷ lent) = by (l.id == id) refl (gone id lent)
  where
    by : (b : Bool) → (l.id == id) ≡ b → times_lent id (without id lent) ≡ 0 → times_lent id (cond (not b) (l ∷ without id lent) (without id lent)) ≡ 0
    by true e rest = rest
    by false e rest = rw e (omega (arith, rest))

-- a connection whose loan is found is lent
found_once : (id : ℕ) (lent : List Loan) (loan : Loan) → loan_of id lent ≡ Some loan → 1 ≤ times_lent id lent
found_once id [] loan e = absurd (nothing loan e)
found_once id (l ∷ lent) loan e = by (l.id == id) refl e (found_once id lent loan)
  where
    by : (b : Bool) → (l.id == id) ≡ b → cond b (Some l) (loan_of id lent) ≡ Some loan → (loan_of id lent ≡ Some loan → 1 ≤ times_lent id lent) → 1 ≤ times_lent id (l ∷ lent)
    by true is found rest = rw is (omega arith)
    by false is found rest = let once : 1 ≤ times_lent id lent = rest found in omega (arith, once)

-- a connection that comes back is known no more often than before
back : (k id : ℕ) (idle : List ℕ) (lent : List Loan) (loan : Loan) → loan_of id lent ≡ Some loan
    → times_idle k (id ∷ idle) + times_lent k (without id lent) ≤ times_idle k idle + times_lent k lent
back k id idle lent loan e = by (id == k) refl
  where
    by : (b : Bool) → (id == k) ≡ b → ((if b then 1 else 0) + times_idle k idle) + times_lent k (without id lent) ≤ times_idle k idle + times_lent k lent
    by true is =
        let same : id ≡ k = eqb-true id k is in
        let none : times_lent k (without id lent) ≡ 0 = subst (λ (n : ℕ). times_lent n (without id lent) ≡ 0) same (gone id lent) in
        let once : 1 ≤ times_lent k lent = subst (λ (n : ℕ). 1 ≤ times_lent n lent) same (found_once id lent loan e) in
        omega (arith, none, once)
    by false is = let rest = left k id lent in omega (arith, rest)

lent_more : (k id : ℕ) (lent : List Loan) → times_lent k (lent ++ lending id ∷ []) ≡ times_lent k lent + ((if id == k then 1 else 0) + 0)
lent_more k id [] = omega arith
lent_more k id (l ∷ lent) = let rest = lent_more k id lent in omega (arith, rest)

-- a clear changes no id
marked : (k : ℕ) (lent : List Loan) → times_lent k (map cleared lent) ≡ times_lent k lent
marked k [] = refl
marked k (l ∷ lent) = ap (λ (n : ℕ). (if l.id == k then 1 else 0) + n) (marked k lent)

-- ---- calls

-- each connection is known once at most, and the id of each was given
record IsSound (p : PoolSeen) : Type 0 where
  pub once : (k : ℕ) → times_known k p ≤ 1
  pub given : (k : ℕ) → 1 ≤ times_known k p → IsGiven p.next k

-- no connection is known more often than before
fewer_known : (p q : PoolSeen) → ((k : ℕ) → times_known k q ≤ times_known k p) → q.next ≡ p.next → IsSound p → IsSound q
fewer_known p q less next s = record {
  once = λ k. let a = less k in let b = s.once k in omega (arith, a, b);
  given = λ k h. subst (λ (n : Option ℕ). IsGiven n k) (sym next) (s.given k (let a = less k in omega (arith, a, h)));
}

-- the pool after a check out is sound, too
abbrev Opens : PoolSeen → CheckOut × PoolSeen → Type 0
Opens p r = IsSound p → IsSound r.1

sound_new : (p : PoolSeen) (next : Option ℕ) → p.next ≡ next → Opens p (open_new p next)
sound_new p None e = λ s. s
sound_new p (Some id) e = by (nat_lt (length p.lent) p.max)
  where
    more : (k : ℕ) → times_known k (record p { lent = p.lent ++ lending id ∷ []; next = id_after id }) ≡ times_known k p + ((if id == k then 1 else 0) + 0)
    more k = let a = lent_more k id p.lent in omega (arith, a)

    fresh : IsSound p → (k : ℕ) → id ≡ k → times_known k p ≡ 0
    fresh s k same = elim (dec_lt 0 (times_known k p)) [
      | yes known ↦ let below : k < id = subst (λ (n : Option ℕ). IsGiven n k) e (s.given k known) in absurd (omega (arith, below, same))
      | no none ↦ omega (arith, none)
    ]

    one : IsSound p → (k : ℕ) (b : Bool) → (id == k) ≡ b → times_known k p + ((if b then 1 else 0) + 0) ≤ 1
    one s k true is = let zero_times = fresh s k (eqb-true id k is) in omega (arith, zero_times)
    one s k false is = let before = s.once k in omega (arith, before)

    known : IsSound p → (k : ℕ) (b : Bool) → (id == k) ≡ b → 1 ≤ times_known k p + ((if b then 1 else 0) + 0) → IsGiven (id_after id) k
    known s k true is h = given_upto id k (let same = eqb-true id k is in omega (arith, same))
    known s k false is h = still_given p.next id k e (s.given k (omega (arith, h)))

    by : (b : Bool) → Opens p (if b then (outs.Open id, record p { lent = p.lent ++ lending id ∷ []; next = id_after id }) else (outs.Full, p))
    by true = λ s. record {
      once = λ k. rw (more k) (one s k (id == k) refl);
      given = λ k h. known s k (id == k) refl (subst (λ (n : ℕ). 1 ≤ n) (more k) h);
    }
    by false = λ s. s

sound_lend : (p : PoolSeen) (idle : List ℕ) → p.idle ≡ idle → Opens p (lend p idle)
sound_lend p [] e = sound_new p p.next refl
sound_lend p (id ∷ idle) e = fewer_known p (record p { idle = idle; lent = p.lent ++ lending id ∷ [] }) less refl
  where
    less : (k : ℕ) → times_known k (record p { idle = idle; lent = p.lent ++ lending id ∷ [] }) ≤ times_known k p
    less k =
        let a = lent_more k id p.lent in
        let b : times_idle k p.idle ≡ (if id == k then 1 else 0) + times_idle k idle = ap (times_idle k) e in
        omega (arith, a, b)

sound_out : (p : PoolSeen) (b : Bool) → Opens p (if b then (outs.PoolClosed, p) else lend p p.idle)
sound_out p true = λ s. s
sound_out p false = sound_lend p p.idle refl

-- and so is the one after a check in
abbrev Takes : PoolSeen → CheckIn × PoolSeen → Type 0
Takes p r = IsSound p → IsSound r.1

sound_in : (p : PoolSeen) (id : ℕ) (healthy : Bool) (loan : Option Loan) → loan_of id p.lent ≡ loan → Takes p (take_back p id healthy loan)
sound_in p id healthy None e = λ s. s
sound_in p id healthy (Some loan) e = by (healthy && (not p.closed && not loan.cleared))
  where
    by : (b : Bool) → Takes p (if b then (answers.Kept, record p { idle = id ∷ p.idle; lent = without id p.lent }) else (answers.Dropped, record p { lent = without id p.lent }))
    by true = fewer_known p (record p { idle = id ∷ p.idle; lent = without id p.lent }) (λ k. back k id p.idle p.lent loan e) refl
    by false = fewer_known p (record p { lent = without id p.lent }) (λ k. let a = left k id p.lent in omega (arith, a)) refl

sound_draw : (p : PoolSeen) (next : Option ℕ) → p.next ≡ next → IsSound p → IsSound (record p { next = next_after next })
sound_draw p None e s = record { once = s.once; given = λ k h. tt }
sound_draw p (Some id) e s = record { once = s.once; given = λ k h. still_given p.next id k e (s.given k h) }

sound_call : (p : PoolSeen) (call : PoolCall) → IsSound p → IsSound (after_call p call)
sound_call p runs.check_out = sound_out p p.closed
sound_call p (runs.check_in id healthy) = sound_in p id healthy (loan_of id p.lent) refl
sound_call p runs.clear = fewer_known p (after_call p runs.clear) (λ k. let a = marked k p.lent in omega (arith, a)) refl
sound_call p runs.close = fewer_known p (after_call p runs.close) (λ k. omega arith) refl
sound_call p runs.reset = fewer_known p (after_call p runs.reset) (λ k. omega arith) refl
sound_call p runs.draw = sound_draw p p.next refl

sound_calls : (calls : List PoolCall) (p : PoolSeen) → IsSound p → IsSound (after_calls p calls)
sound_calls [] p s = s
sound_calls (call ∷ calls) p s = sound_calls calls (after_call p call) (sound_call p call s)

pub known_once : (max : ℕ) (calls : List PoolCall) (id : ℕ) → times_known id (after_calls (new_pool max) calls) ≤ 1
known_once max calls = (sound_calls calls (new_pool max) (record { once = λ k. omega arith; given = λ k h. absurd (omega (arith, h)) })).once
