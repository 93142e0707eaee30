-- What the pool's answers mean for its next id.
use Rattle.std.proofs.Common.{◌≡◌, ℕ, Bool, true, false, if◌then◌else◌, nat_lt, List, [], ◌∷◌, ◌++◌, length, Option, None, Some, ap, refl, sym, ◌∙◌}
use Rattle.wire_pool.specs.{PoolSeen, checked_out, drawn, id_after, lending, next_after}
use Rattle.wire_pool.specs.declared.pool_answers.CheckOut.{CheckOut}
use Rattle.wire_pool.specs.declared.pool_answers.CheckOut.TheVariants as outs
use Rattle.wire_pool.specs.Pools.{lend, open_new}
use Rattle.wire_world.proofs.Parts.{SamePool}

-- ---- check out

abbrev pub Gave : PoolSeen → CheckOut × PoolSeen → Type 0
Gave p (outs.Use c, q) = SamePool p q
Gave p (outs.Open c, q) = (p.next ≡ Some c) × (q.next ≡ id_after c) × (q.closed ≡ p.closed)
Gave p (outs.Full, q) = Unit {0}
Gave p (outs.PoolClosed, q) = p.closed ≡ true

gave_new : (p : PoolSeen) (next : Option ℕ) → p.next ≡ next → Gave p (open_new p next)
gave_new p None e = tt
gave_new p (Some id) e = by (nat_lt (length p.lent) p.max)
  where
    by : (b : Bool) → Gave p (if b then (outs.Open id, record p { lent = p.lent ++ lending id ∷ []; next = id_after id }) else (outs.Full, p))
    by true = (e, refl, refl)
    by false = tt

gave_lent : (p : PoolSeen) (idle : List ℕ) → Gave p (lend p idle)
gave_lent p [] = gave_new p p.next refl
gave_lent p (id ∷ idle) = (refl, refl)

pub gave : (p : PoolSeen) → Gave p (checked_out p)
gave p = by p.closed refl
  where
    by : (b : Bool) → p.closed ≡ b → Gave p (if b then (outs.PoolClosed, p) else lend p p.idle)
    by true e = e
    by false e = gave_lent p p.idle

-- the pool answers what `peek` returned
pub given_as : (p q : PoolSeen) (peeked out is : CheckOut) → peeked ≡ (checked_out p).0 → peeked ≡ is → (out, q) ≡ checked_out p → checked_out p ≡ (is, q)
given_as p q peeked out is at was step =
    let same : out ≡ is = ap (λ (r : CheckOut × PoolSeen). r.0) step ∙ sym at ∙ was in
    sym step ∙ ap (λ (o : CheckOut). let r : CheckOut × PoolSeen = (o, q) in r) same

-- ---- an id is drawn

pub drawn_next : (p q : PoolSeen) (c : ℕ) → p.next ≡ Some c → q ≡ drawn p → (q.next ≡ id_after c) × (q.closed ≡ p.closed)
drawn_next p q c e is = (ap (λ (r : PoolSeen). r.next) is ∙ ap next_after e, ap (λ (r : PoolSeen). r.closed) is)
