-- Lists by index: what is at an index after a push, a write or a map.
use Rattle.std.proofs.Common.{◌≡◌, ℕ, zero, suc, List, [], ◌∷◌, ◌++◌, length, map, refl, sym, ◌∙◌, ap, arith, Some, ◌⊎◌, inl, inr}
use Rattle.std.specs.Prelude.{remove, slice_get, slice_set}
use Rattle.std.proofs.lemmas.Option.{none-some, same_Some}

-- the number is in the list
abbrev pub Has : ℕ → List ℕ → Type 0
Has i [] = ⊥
Has i (j ∷ js) = (i ≡ j) ⊎ Has i js

-- each number once
abbrev pub Distinct : List ℕ → Type 0
Distinct [] = Unit {0}
Distinct (i ∷ is) = (Has i is → ⊥) × Distinct is

-- each element, by recursion
abbrev pub Each : {A : Type 0} → (A → Type 0) → List A → Type 0
Each P [] = Unit {0}
Each P (x ∷ xs) = P x × Each P xs

pub Each-push : {A : Type 0} (P : A → Type 0) (xs : List A) (y : A) → Each P xs → P y → Each P (xs ++ y ∷ [])
Each-push P [] y e p = (p, tt)
Each-push P (x ∷ xs) y e p = (e.0, Each-push P xs y e.1 p)

pub Each-weaker : {A : Type 0} (P Q : A → Type 0) (xs : List A) → ((x : A) → P x → Q x) → Each P xs → Each Q xs
Each-weaker P Q [] f e = tt
Each-weaker P Q (x ∷ xs) f e = (f x e.0, Each-weaker P Q xs f e.1)

pub Each-remove : {A : Type 0} (P : A → Type 0) (xs : List A) (k : ℕ) → Each P xs → Each P (remove xs k)
Each-remove P [] zero e = tt
Each-remove P [] (suc k) e = tt
Each-remove P (x ∷ xs) zero e = e.1
Each-remove P (x ∷ xs) (suc k) e = (e.0, Each-remove P xs k e.1)

pub Each-at : {A : Type 0} (P : A → Type 0) (xs : List A) (k : ℕ) (x : A) → Each P xs → slice_get xs k ≡ Some x → P x
Each-at P [] k x e g = absurd (none-some x g)
Each-at P (y ∷ xs) zero x e g = let s = same_Some y x g in rw (← s) e.0
Each-at P (y ∷ xs) (suc k) x e g = Each-at P xs k x e.1 g

pub map-remove : {A B : Type 0} (f : A → B) (xs : List A) (k : ℕ) → map f (remove xs k) ≡ remove (map f xs) k
map-remove f [] zero = refl
map-remove f [] (suc k) = refl
map-remove f (x ∷ xs) zero = refl
map-remove f (x ∷ xs) (suc k) = ap (λ ys. f x ∷ ys) (map-remove f xs k)

pub map-push : {A B : Type 0} (f : A → B) (xs : List A) (y : A) → map f (xs ++ y ∷ []) ≡ map f xs ++ f y ∷ []
map-push f [] y = refl
map-push f (x ∷ xs) y = ap (λ ys. f x ∷ ys) (map-push f xs y)

pub Has-push : (is : List ℕ) (i j : ℕ) → Has i is → Has i (is ++ j ∷ [])
Has-push [] i j h = absurd h
Has-push (a ∷ is) i j (inl e) = inl e
Has-push (a ∷ is) i j (inr h) = inr (Has-push is i j h)

pub Has-last : (is : List ℕ) (j : ℕ) → Has j (is ++ j ∷ [])
Has-last [] j = inl refl
Has-last (a ∷ is) j = inr (Has-last is j)

pub Has-push_cases : (is : List ℕ) (i j : ℕ) → Has i (is ++ j ∷ []) → Has i is ⊎ (i ≡ j)
Has-push_cases [] i j (inl e) = inr e
Has-push_cases [] i j (inr h) = absurd h
Has-push_cases (a ∷ is) i j (inl e) = inl (inl e)
Has-push_cases (a ∷ is) i j (inr h) = elim (Has-push_cases is i j h) [ inl h' ↦ inl (inr h') | inr e ↦ inr e ]

pub Distinct-push : (is : List ℕ) (j : ℕ) → Distinct is → (Has j is → ⊥) → Distinct (is ++ j ∷ [])
Distinct-push [] j d n = (λ h. h, tt)
Distinct-push (a ∷ is) j d n =
    (λ h. elim (Has-push_cases is a j h) [ inl h' ↦ d.0 h' | inr e ↦ n (inl (sym e)) ], Distinct-push is j d.1 (λ h. n (inr h)))

pub Has-remove : (is : List ℕ) (k i : ℕ) → Has i (remove is k) → Has i is
Has-remove [] zero i h = h
Has-remove [] (suc k) i h = h
Has-remove (a ∷ is) zero i h = inr h
Has-remove (a ∷ is) (suc k) i (inl e) = inl e
Has-remove (a ∷ is) (suc k) i (inr h) = inr (Has-remove is k i h)

pub Has-at : (is : List ℕ) (k i : ℕ) → slice_get is k ≡ Some i → Has i is
Has-at [] k i g = absurd (none-some i g)
Has-at (a ∷ is) zero i g = inl (sym (same_Some a i g))
Has-at (a ∷ is) (suc k) i g = inr (Has-at is k i g)

-- another number stays
pub Has-other : (is : List ℕ) (k i j : ℕ) → slice_get is k ≡ Some j → Has i is → (i ≡ j → ⊥) → Has i (remove is k)
Has-other [] k i j g h n = absurd h
Has-other (a ∷ is) zero i j g (inl e) n = absurd (n (e ∙ same_Some a j g))
Has-other (a ∷ is) zero i j g (inr h) n = h
Has-other (a ∷ is) (suc k) i j g (inl e) n = inl e
Has-other (a ∷ is) (suc k) i j g (inr h) n = inr (Has-other is k i j g h n)

-- the number that was taken out isn't in the list any more
pub Has-removed : (is : List ℕ) (k j : ℕ) → Distinct is → slice_get is k ≡ Some j → Has j (remove is k) → ⊥
Has-removed [] k j d g h = none-some j g
Has-removed (a ∷ is) zero j d g h = let e = same_Some a j g in d.0 (rw e h)
Has-removed (a ∷ is) (suc k) j d g (inl e) = d.0 (rw (← e) (Has-at is k j g))
Has-removed (a ∷ is) (suc k) j d g (inr h) = Has-removed is k j d.1 g h

pub Distinct-remove : (is : List ℕ) (k : ℕ) → Distinct is → Distinct (remove is k)
Distinct-remove [] zero d = tt
Distinct-remove [] (suc k) d = tt
Distinct-remove (a ∷ is) zero d = d.1
Distinct-remove (a ∷ is) (suc k) d = (λ h. d.0 (Has-remove is k a h), Distinct-remove is k d.1)

-- reading after a push
pub get-push_old : {A : Type 0} (xs : List A) (i : ℕ) (x y : A) → slice_get xs i ≡ Some x → slice_get (xs ++ y ∷ []) i ≡ Some x
get-push_old [] i x y g = absurd (none-some x g)
get-push_old (a ∷ xs) zero x y g = g
get-push_old (a ∷ xs) (suc i) x y g = get-push_old xs i x y g

pub get-push_new : {A : Type 0} (xs : List A) (y : A) → slice_get (xs ++ y ∷ []) (length xs) ≡ Some y
get-push_new [] y = refl
get-push_new (a ∷ xs) y = get-push_new xs y

pub get-push_cases : {A : Type 0} (xs : List A) (i : ℕ) (x y : A) → slice_get (xs ++ y ∷ []) i ≡ Some x → (slice_get xs i ≡ Some x) ⊎ ((i ≡ length xs) × (y ≡ x))
get-push_cases [] zero x y g = inr (refl, same_Some y x g)
get-push_cases [] (suc i) x y g = absurd (none-some x g)
get-push_cases (a ∷ xs) zero x y g = inl g
get-push_cases (a ∷ xs) (suc i) x y g =
    elim (get-push_cases xs i x y g) [ inl h ↦ inl h | inr h ↦ inr (ap suc h.0, h.1) ]

-- reading after a write
pub get-set_same : {A : Type 0} (xs : List A) (i : ℕ) (x y : A) → slice_get xs i ≡ Some x → slice_get (slice_set xs i y) i ≡ Some y
get-set_same [] i x y g = absurd (none-some x g)
get-set_same (a ∷ xs) zero x y g = refl
get-set_same (a ∷ xs) (suc i) x y g = get-set_same xs i x y g

pub get-set_other : {A : Type 0} (xs : List A) (i j : ℕ) (y : A) → (j ≡ i → ⊥) → slice_get (slice_set xs i y) j ≡ slice_get xs j
get-set_other [] i j y n = refl
get-set_other (a ∷ xs) zero zero y n = absurd (n refl)
get-set_other (a ∷ xs) zero (suc j) y n = refl
get-set_other (a ∷ xs) (suc i) zero y n = refl
get-set_other (a ∷ xs) (suc i) (suc j) y n = get-set_other xs i j y (λ e. n (ap suc e))

pub same_or_not : (i j : ℕ) → (i ≡ j) ⊎ (i ≡ j → ⊥)
same_or_not zero zero = inl refl
same_or_not zero (suc j) = inr (λ e. cc)
same_or_not (suc i) zero = inr (λ e. cc)
same_or_not (suc i) (suc j) = elim (same_or_not i j) [ inl e ↦ inl (ap suc e) | inr n ↦ inr (λ e. n (omega arith)) ]

pub get-map : {A B : Type 0} (f : A → B) (xs : List A) (i : ℕ) (x : A) → slice_get xs i ≡ Some x → slice_get (map f xs) i ≡ Some (f x)
get-map f [] i x g = absurd (none-some x g)
get-map f (a ∷ xs) zero x g = ap (λ z. Some (f z)) (same_Some a x g)
get-map f (a ∷ xs) (suc i) x g = get-map f xs i x g

pub get-map_back : {A B : Type 0} (f : A → B) (xs : List A) (i : ℕ) (y : B) → slice_get (map f xs) i ≡ Some y → (x : A) × (slice_get xs i ≡ Some x) × (f x ≡ y)
get-map_back f [] i y g = absurd (none-some y g)
get-map_back f (a ∷ xs) zero y g = (a, refl, same_Some (f a) y g)
get-map_back f (a ∷ xs) (suc i) y g = get-map_back f xs i y g
