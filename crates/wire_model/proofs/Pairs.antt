-- Pairs by number, and the connections as which they are seen.
use Rattle.std.proofs.Common.{◌≡◌, ℕ, zero, suc, false, List, [], ◌∷◌, ◌++◌, map, refl, sym, ◌∙◌, ap, Some, ◌⊎◌, inl, inr}
use Rattle.std.specs.Prelude.{slice_get, slice_set}
use Rattle.std.proofs.lemmas.Option.{none-some, same_Some}
use Rattle.wire_model.specs.Conns.{Conn, conn_at, conn_set}
use Rattle.wire_model.proofs.Lists.{get-map, get-map_back, get-push_cases, get-push_old, get-set_other, get-set_same}
use Rattle.wire_model.specs.Channels.{Pair, pair_at, pair_set}
use Rattle.wire_model.specs.Seen.{seen_as}

pub pair_set-same : (ps : List Pair) (c : ℕ) (p q : Pair) → pair_at ps c ≡ Some p
    → pair_at (pair_set ps c q) c ≡ Some q
pair_set-same ps zero p q at = absurd (none-some p at)
pair_set-same ps (suc i) p q at = get-set_same ps i p q at

pub pair_set-other : (ps : List Pair) (c d : ℕ) (q : Pair) → (d ≡ c → ⊥)
    → pair_at (pair_set ps c q) d ≡ pair_at ps d
pair_set-other ps zero d q n = refl
pair_set-other ps (suc i) zero q n = refl
pair_set-other ps (suc i) (suc j) q n = get-set_other ps i j q (λ e. n (ap suc e))

pub pair_push-old : (ps : List Pair) (c : ℕ) (p q : Pair) → pair_at ps c ≡ Some p
    → pair_at (ps ++ q ∷ []) c ≡ Some p
pair_push-old ps zero p q at = absurd (none-some p at)
pair_push-old ps (suc i) p q at = get-push_old ps i p q at

pub pair_push-cases : (ps : List Pair) (c : ℕ) (p q : Pair) → pair_at (ps ++ q ∷ []) c ≡ Some p
    → (pair_at ps c ≡ Some p) ⊎ (q ≡ p)
pair_push-cases ps zero p q at = absurd (none-some p at)
pair_push-cases ps (suc i) p q at =
    elim (get-push_cases ps i p q at) [ inl h ↦ inl h | inr h ↦ inr h.1 ]

-- ---- what they are seen as

map-set : {A B : Type 0} (f : A → B) (xs : List A) (i : ℕ) (y : A)
    → map f (slice_set xs i y) ≡ slice_set (map f xs) i (f y)
map-set f [] i y = refl
map-set f (x ∷ xs) zero y = refl
map-set f (x ∷ xs) (suc i) y = ap (λ ys. f x ∷ ys) (map-set f xs i y)

set-same : {A : Type 0} (xs : List A) (i : ℕ) (x : A) → slice_get xs i ≡ Some x
    → slice_set xs i x ≡ xs
set-same [] i x at = refl
set-same (a ∷ xs) zero x at = ap (λ z. z ∷ xs) (sym (same_Some a x at))
set-same (a ∷ xs) (suc i) x at = ap (λ ys. a ∷ ys) (set-same xs i x at)

pub seen_at : (ps : List Pair) (c : ℕ) (p : Pair) → pair_at ps c ≡ Some p
    → conn_at (map seen_as ps) c ≡ Some (seen_as p)
seen_at ps zero p at = absurd (none-some p at)
seen_at ps (suc i) p at = get-map seen_as ps i p at

pub seen_back : (ps : List Pair) (c : ℕ) (k : Conn) → conn_at (map seen_as ps) c ≡ Some k
    → (p : Pair) × (pair_at ps c ≡ Some p) × (seen_as p ≡ k)
seen_back ps zero k at = absurd (none-some k at)
seen_back ps (suc i) k at = get-map_back seen_as ps i k at

pub seen_set : (ps : List Pair) (c : ℕ) (q : Pair)
    → map seen_as (pair_set ps c q) ≡ conn_set (map seen_as ps) c (seen_as q)
seen_set ps zero q = refl
seen_set ps (suc i) q = map-set seen_as ps i q

-- if a pair is seen as before, so are all pairs
pub seen_alike : (ps : List Pair) (c : ℕ) (p q : Pair) → pair_at ps c ≡ Some p
    → seen_as q ≡ seen_as p → map seen_as (pair_set ps c q) ≡ map seen_as ps
seen_alike ps zero p q at e = refl
seen_alike ps (suc i) p q at e =
    map-set seen_as ps i q ∙ ap (slice_set (map seen_as ps) i) e
    ∙ set-same (map seen_as ps) i (seen_as p) (get-map seen_as ps i p at)

-- no pair is raw
pub seen_raw : (ps : List Pair) (c : ℕ) (k : Conn) → conn_at (map seen_as ps) c ≡ Some k
    → k.raw ≡ false
seen_raw ps c k at = let q = seen_back ps c k at in ap (λ (z : Conn). z.raw) (sym q.2)
