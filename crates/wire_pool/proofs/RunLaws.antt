-- The new ids that a pool gives over many calls.
use Rattle.std.proofs.Common.{◌≡◌, ℕ, ◌+◌, ◌-◌, ◌^◌, ◌<◌, ◌≤◌, ◌==◌, ◌&&◌, All, Bool, true, false, not, if◌then◌else◌, nat_lt, List, [], ◌∷◌, ◌++◌, length, Option, Some, None, refl, sym, subst, arith}
use Rattle.std.proofs.lemmas.List.Elements.{All-cons, All-nil, All-weaker}
use Rattle.wire_pool.specs.declared.loans.Loan.{Loan}
use Rattle.wire_pool.specs.declared.pool_answers.CheckIn.{CheckIn}
use Rattle.wire_pool.specs.declared.pool_answers.CheckIn.TheVariants as answers
use Rattle.wire_pool.specs.declared.pool_answers.CheckOut.{CheckOut}
use Rattle.wire_pool.specs.declared.pool_answers.CheckOut.TheVariants as outs
use Rattle.wire_pool.specs.Loans.{lending, loan_of, without}
use Rattle.wire_pool.specs.PoolRuns.{PoolCall, IsRising, after_call, drawn_id, given, given_by, opened}
use Rattle.wire_pool.specs.PoolRuns as runs
use Rattle.wire_pool.specs.Pools.{PoolSeen, checked_out, id_after, lend, next_after, open_new, take_back}

-- a call gives no new id, or the next one
data GivesOne (next : Option ℕ) (ids : List ℕ) (after : Option ℕ) : Type 0 where
  none : ids ≡ [] → after ≡ next → GivesOne next ids after
  one : (id : ℕ) → next ≡ Some id → ids ≡ id ∷ [] → after ≡ id_after id → GivesOne next ids after

-- a check out gives no new id, or the next one
abbrev Answers : PoolSeen → CheckOut × PoolSeen → Type 0
Answers p r = GivesOne p.next (opened r.0) r.1.next

by_next : (p : PoolSeen) (next : Option ℕ) → p.next ≡ next → Answers p (open_new p next)
by_next p None e = none refl refl
by_next p (Some id) e = by (nat_lt (length p.lent) p.max)
  where
    by : (b : Bool) → Answers p (if b then (outs.Open id, record p { lent = p.lent ++ lending id ∷ []; next = id_after id }) else (outs.Full, p))
    by true = one id e refl refl
    by false = none refl refl

by_idle : (p : PoolSeen) (idle : List ℕ) → Answers p (lend p idle)
by_idle p [] = by_next p p.next refl
by_idle p (id ∷ idle) = none refl refl

abbrev Keeps : PoolSeen → CheckIn × PoolSeen → Type 0
Keeps p r = GivesOne p.next [] r.1.next

kept : (p : PoolSeen) (id : ℕ) (healthy : Bool) (loan : Option Loan) → Keeps p (take_back p id healthy loan)
kept p id healthy None = none refl refl
kept p id healthy (Some loan) = by (healthy && (not p.closed && not loan.cleared))
  where
    by : (b : Bool) → Keeps p (if b then (answers.Kept, record p { idle = id ∷ p.idle; lent = without id p.lent }) else (answers.Dropped, record p { lent = without id p.lent }))
    by true = none refl refl
    by false = none refl refl

drawn_next : (next : Option ℕ) → GivesOne next (drawn_id next) (next_after next)
drawn_next None = none refl refl
drawn_next (Some id) = one id refl refl refl

by_closed : (p : PoolSeen) (b : Bool) → Answers p (if b then (outs.PoolClosed, p) else lend p p.idle)
by_closed p true = none refl refl
by_closed p false = by_idle p p.idle

by_call : (p : PoolSeen) (call : PoolCall) → GivesOne p.next (given p call) (after_call p call).next
by_call p runs.check_out = by_closed p p.closed
by_call p (runs.check_in id healthy) = kept p id healthy (loan_of id p.lent)
by_call p runs.clear = none refl refl
by_call p runs.close = none refl refl
by_call p runs.reset = none refl refl
by_call p runs.draw = drawn_next p.next

-- the id isn't below the next one
abbrev IsFrom : Option ℕ → ℕ → Type 0
IsFrom None id = ⊥
IsFrom (Some next) id = next ≤ id

abbrev RisesFrom : Option ℕ → List ℕ → Type 0
RisesFrom next ids = All (IsFrom next) ids × IsRising ids

above : (id k : ℕ) → IsFrom (id_after id) k → id < k
above id k = by (id == 2 ^ 64 - 1)
  where
    by : (b : Bool) → IsFrom (if b then None else Some (id + 1)) k → id < k
    by true e = absurd e
    by false e = omega (arith, e)

-- an id, and then those from the next one on
join : (next after : Option ℕ) (ids later : List ℕ) → GivesOne next ids after → RisesFrom after later → RisesFrom next (ids ++ later)
join next after ids later (none e f) r = subst (λ (g : List ℕ). RisesFrom next (g ++ later)) (sym e) (subst (λ (n : Option ℕ). RisesFrom n later) f r)
join next after ids later (one id is e f) r =
    let from : All (IsFrom (id_after id)) later = subst (λ (n : Option ℕ). All (IsFrom n) later) f r.0 in
    let greater : All (λ (k : ℕ). id < k) later = All-weaker (IsFrom (id_after id)) (λ (k : ℕ). id < k) (λ k g. above id k g) later from in
    let rises : RisesFrom (Some id) (id ∷ later) = (
      All-cons (IsFrom (Some id)) id later (omega arith) (All-weaker (λ (k : ℕ). id < k) (IsFrom (Some id)) (λ k g. omega (arith, g)) later greater),
      (greater, r.1),
    ) in
    subst (λ (g : List ℕ). RisesFrom next (g ++ later)) (sym e) (subst (λ (n : Option ℕ). RisesFrom n (id ∷ later)) (sym is) rises)

-- the ids that a pool gives rise from its next id on
pub rises : (calls : List PoolCall) (p : PoolSeen) → RisesFrom p.next (given_by p calls)
rises [] p = (All-nil (IsFrom p.next), tt)
rises (call ∷ calls) p = join p.next (after_call p call).next (given p call) (given_by (after_call p call) calls) (by_call p call) (rises calls (after_call p call))

-- a pool without a next id is full if nothing is idle
pub spent : (p : PoolSeen) → p.closed ≡ false → p.idle ≡ [] → p.next ≡ None → checked_out p ≡ (outs.Full, p)
spent p unclosed idle next = rw (unclosed, idle, next) refl
