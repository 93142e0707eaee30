-- Connections by number: which has a number after one is made, changed or mapped.
use Rattle.std.proofs.Common.{◌≡◌, ℕ, zero, suc, ◌<◌, ◌≤◌, List, [], ◌∷◌, ◌++◌, length, map, refl, ap, arith, Some, None, ◌⊎◌, inl, inr}
use Rattle.std.specs.Prelude.{slice_set}
use Rattle.std.proofs.lemmas.Option.{none-some, slice_get_past, slice_get_within}
use Rattle.wire_model.specs.Conns.{Conn, World, conn_at, conn_set}
use Rattle.wire_model.specs.Shown.{is_raw, raws}
use Rattle.wire_model.proofs.Lists.{get-map, get-map_back, get-push_cases, get-push_new, get-push_old, get-set_other, get-set_same}

pub length-slice_set : {A : Type 0} (xs : List A) (i : ℕ) (y : A) → length (slice_set xs i y) ≡ length xs
length-slice_set [] i y = refl
length-slice_set (x ∷ xs) zero y = refl
length-slice_set (x ∷ xs) (suc i) y = ap suc (length-slice_set xs i y)

pub slice_set-twice : {A : Type 0} (xs : List A) (i : ℕ) (x y : A) → slice_set (slice_set xs i x) i y ≡ slice_set xs i y
slice_set-twice [] i x y = refl
slice_set-twice (a ∷ xs) zero x y = refl
slice_set-twice (a ∷ xs) (suc i) x y = ap (λ zs. a ∷ zs) (slice_set-twice xs i x y)

-- ---- where connections are

-- the number of a connection is from 1 to how many there are
pub conn_within : (ks : List Conn) (c : ℕ) (k : Conn) → conn_at ks c ≡ Some k → (1 ≤ c) × (c ≤ length ks)
conn_within ks zero k g = absurd (none-some k g)
conn_within ks (suc i) k g = let lt = slice_get_within ks i k g in (omega arith, omega arith)

pub conn_past : (ks : List Conn) (c : ℕ) → length ks < c → conn_at ks c ≡ None
conn_past ks zero lt = refl
conn_past ks (suc i) lt = slice_get_past ks i (omega arith)

-- ---- a connection is changed

pub length-conn_set : (ks : List Conn) (c : ℕ) (k : Conn) → length (conn_set ks c k) ≡ length ks
length-conn_set ks zero k = refl
length-conn_set ks (suc i) k = length-slice_set ks i k

pub conn_set-twice : (ks : List Conn) (c : ℕ) (k k' : Conn) → conn_set (conn_set ks c k) c k' ≡ conn_set ks c k'
conn_set-twice ks zero k k' = refl
conn_set-twice ks (suc i) k k' = slice_set-twice ks i k k'

pub conn_set-same : (ks : List Conn) (c : ℕ) (k k' : Conn) → conn_at ks c ≡ Some k → conn_at (conn_set ks c k') c ≡ Some k'
conn_set-same ks zero k k' g = absurd (none-some k g)
conn_set-same ks (suc i) k k' g = get-set_same ks i k k' g

pub conn_set-other : (ks : List Conn) (c d : ℕ) (k : Conn) → (d ≡ c → ⊥) → conn_at (conn_set ks c k) d ≡ conn_at ks d
conn_set-other ks zero d k n = refl
conn_set-other ks (suc i) zero k n = refl
conn_set-other ks (suc i) (suc j) k n = get-set_other ks i j k (λ e. n (ap suc e))

-- ---- a connection is made

pub conn_push-old : (ks : List Conn) (c : ℕ) (k j : Conn) → conn_at ks c ≡ Some k → conn_at (ks ++ j ∷ []) c ≡ Some k
conn_push-old ks zero k j g = absurd (none-some k g)
conn_push-old ks (suc i) k j g = get-push_old ks i k j g

-- the number of a new one is one past the last
pub conn_push-new : (ks : List Conn) (k : Conn) → conn_at (ks ++ k ∷ []) (suc (length ks)) ≡ Some k
conn_push-new ks k = get-push_new ks k

pub conn_push-cases : (ks : List Conn) (c : ℕ) (k j : Conn) → conn_at (ks ++ j ∷ []) c ≡ Some k → (conn_at ks c ≡ Some k) ⊎ ((c ≡ suc (length ks)) × (j ≡ k))
conn_push-cases ks zero k j g = absurd (none-some k g)
conn_push-cases ks (suc i) k j g = elim (get-push_cases ks i k j g) [ inl h ↦ inl h | inr h ↦ inr (ap suc h.0, h.1) ]

pub length-push : {A : Type 0} (xs : List A) (x : A) → length (xs ++ x ∷ []) ≡ suc (length xs)
length-push [] x = refl
length-push (y ∷ xs) x = ap suc (length-push xs x)

-- ---- all of them are changed

pub conn_map : (f : Conn → Conn) (ks : List Conn) (c : ℕ) (k : Conn) → conn_at ks c ≡ Some k → conn_at (map f ks) c ≡ Some (f k)
conn_map f ks zero k g = absurd (none-some k g)
conn_map f ks (suc i) k g = get-map f ks i k g

pub conn_map-back : (f : Conn → Conn) (ks : List Conn) (c : ℕ) (k : Conn) → conn_at (map f ks) c ≡ Some k → (j : Conn) × (conn_at ks c ≡ Some j) × (f j ≡ k)
conn_map-back f ks zero k g = absurd (none-some k g)
conn_map-back f ks (suc i) k g = get-map_back f ks i k g

-- the first one after these
pub conn_here : (ks : List Conn) (k : Conn) (js : List Conn) → conn_at (ks ++ k ∷ js) (suc (length ks)) ≡ Some k
conn_here [] k js = refl
conn_here (a ∷ ks) k js = conn_here ks k js

pub conn_set-here : (ks : List Conn) (k k' : Conn) (js : List Conn) → conn_set (ks ++ k ∷ js) (suc (length ks)) k' ≡ ks ++ k' ∷ js
conn_set-here [] k k' js = refl
conn_set-here (a ∷ ks) k k' js = ap (λ zs. a ∷ zs) (conn_set-here ks k k' js)

-- ---- raw connections

-- a connection that is there is raw where the world says so
pub raws_at : {H : Type 0} (w : World H) (c : ℕ) (k : Conn) → conn_at w.conns c ≡ Some k → raws w c ≡ k.raw
raws_at w c k g = ap is_raw g
