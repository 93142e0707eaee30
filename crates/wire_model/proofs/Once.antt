-- Lists of indexes in which each is once, and lists beside them.
use Rattle.std.proofs.Common.{◌≡◌, ℕ, zero, suc, List, [], ◌∷◌, ◌++◌, refl, sym, ◌∙◌, ap, subst, Some}
use Rattle.std.specs.Prelude.{remove, slice_get}
use Rattle.std.proofs.lemmas.Option.{none-some, same_Some}
use Rattle.wire_model.proofs.Numbers.{Each}

pub each_map : {A : Type 0} (P Q : A → Type 0) (xs : List A) → ((x : A) → P x → Q x) → Each P xs
    → Each Q xs
each_map P Q [] f p = tt
each_map P Q (x ∷ xs) f p = (f x p.0, each_map P Q xs f p.1)

pub each_last : {A : Type 0} (P : A → Type 0) (xs : List A) (y : A) → Each P xs → P y
    → Each P (xs ++ y ∷ [])
each_last P [] y p q = (q, tt)
each_last P (x ∷ xs) y p q = (p.0, each_last P xs y p.1 q)

pub each_remove : {A : Type 0} (P : A → Type 0) (xs : List A) (k : ℕ) → Each P xs
    → Each P (remove xs k)
each_remove P [] zero p = tt
each_remove P [] (suc k) p = tt
each_remove P (x ∷ xs) zero p = p.1
each_remove P (x ∷ xs) (suc k) p = (p.0, each_remove P xs k p.1)

pub each_two : {A : Type 0} (P Q : A → Type 0) (xs : List A) → Each P xs → Each Q xs
    → Each (λ x. P x × Q x) xs
each_two P Q [] p q = tt
each_two P Q (x ∷ xs) p q = ((p.0, q.0), each_two P Q xs p.1 q.1)

pub each_at : {A : Type 0} (P : A → Type 0) (xs : List A) (i : ℕ) (x : A) → Each P xs
    → slice_get xs i ≡ Some x → P x
each_at P [] i x p at = absurd (none-some x at)
each_at P (y ∷ xs) zero x p at = subst P (same_Some y x at) p.0
each_at P (y ∷ xs) (suc i) x p at = each_at P xs i x p.1 at

-- ---- each once

abbrev pub NotIn : ℕ → List ℕ → Type 0
NotIn n ns = Each (λ x. x ≡ n → ⊥) ns

abbrev pub Distinct : List ℕ → Type 0
Distinct [] = Unit {0}
Distinct (n ∷ ns) = NotIn n ns × Distinct ns

pub distinct_last : (ns : List ℕ) (n : ℕ) → Distinct ns → NotIn n ns → Distinct (ns ++ n ∷ [])
distinct_last [] n d far = (tt, tt)
distinct_last (m ∷ ns) n d far =
    (each_last (λ x. x ≡ m → ⊥) ns n d.0 (λ e. far.0 (sym e)), distinct_last ns n d.1 far.1)

pub distinct_remove : (ns : List ℕ) (k : ℕ) → Distinct ns → Distinct (remove ns k)
distinct_remove [] zero d = tt
distinct_remove [] (suc k) d = tt
distinct_remove (m ∷ ns) zero d = d.1
distinct_remove (m ∷ ns) (suc k) d =
    (each_remove (λ x. x ≡ m → ⊥) ns k d.0, distinct_remove ns k d.1)

-- the one that is removed isn't among the others
pub differs : (ns : List ℕ) (k n : ℕ) → Distinct ns → slice_get ns k ≡ Some n
    → Each (λ x. n ≡ x → ⊥) (remove ns k)
differs [] k n d at = absurd (none-some n at)
differs (m ∷ ns) zero n d at =
    each_map (λ x. x ≡ m → ⊥) (λ x. n ≡ x → ⊥) ns
    (λ x far e. far (sym e ∙ sym (same_Some m n at))) d.0
differs (m ∷ ns) (suc k) n d at =
    (λ e. each_at (λ x. x ≡ m → ⊥) ns k n d.0 at e, differs ns k n d.1 at)

pub once_there : (ns : List ℕ) (i j n : ℕ) → Distinct ns → slice_get ns i ≡ Some n
    → slice_get ns j ≡ Some n → i ≡ j
once_there [] i j n d at at' = absurd (none-some n at)
once_there (m ∷ ns) zero zero n d at at' = refl
once_there (m ∷ ns) zero (suc j) n d at at' =
    absurd (each_at (λ x. x ≡ m → ⊥) ns j n d.0 at' (sym (same_Some m n at)))
once_there (m ∷ ns) (suc i) zero n d at at' =
    absurd (each_at (λ x. x ≡ m → ⊥) ns i n d.0 at (sym (same_Some m n at')))
once_there (m ∷ ns) (suc i) (suc j) n d at at' = ap suc (once_there ns i j n d.1 at at')

-- ---- lists beside indexes

abbrev pub Along : {X : Type 0} → (ℕ → X → Type 0) → List ℕ → List X → Type 0
Along P [] [] = Unit {0}
Along P [] (x ∷ xs) = ⊥
Along P (n ∷ ns) [] = ⊥
Along P (n ∷ ns) (x ∷ xs) = P n x × Along P ns xs

pub along_map : {X : Type 0} (P Q : ℕ → X → Type 0) (ns : List ℕ) (xs : List X)
    → ((n : ℕ) (x : X) → P n x → Q n x) → Along P ns xs → Along Q ns xs
along_map P Q [] [] f a = tt
along_map P Q [] (x ∷ xs) f a = a
along_map P Q (n ∷ ns) [] f a = a
along_map P Q (n ∷ ns) (x ∷ xs) f a = (f n x a.0, along_map P Q ns xs f a.1)

pub along_last : {X : Type 0} (P : ℕ → X → Type 0) (ns : List ℕ) (xs : List X) (n : ℕ) (x : X)
    → Along P ns xs → P n x → Along P (ns ++ n ∷ []) (xs ++ x ∷ [])
along_last P [] [] n x a p = (p, tt)
along_last P [] (y ∷ xs) n x a p = absurd a
along_last P (m ∷ ns) [] n x a p = absurd a
along_last P (m ∷ ns) (y ∷ xs) n x a p = (a.0, along_last P ns xs n x a.1 p)

pub along_remove : {X : Type 0} (P : ℕ → X → Type 0) (ns : List ℕ) (xs : List X) (k : ℕ)
    → Along P ns xs → Along P (remove ns k) (remove xs k)
along_remove P [] [] zero a = tt
along_remove P [] [] (suc k) a = tt
along_remove P [] (x ∷ xs) k a = absurd a
along_remove P (n ∷ ns) [] k a = absurd a
along_remove P (n ∷ ns) (x ∷ xs) zero a = a.1
along_remove P (n ∷ ns) (x ∷ xs) (suc k) a = (a.0, along_remove P ns xs k a.1)

pub along_at : {X : Type 0} (P : ℕ → X → Type 0) (ns : List ℕ) (xs : List X) (i : ℕ) (x : X)
    → Along P ns xs → slice_get xs i ≡ Some x → (n : ℕ) × (slice_get ns i ≡ Some n) × P n x
along_at P ns [] i x a at = absurd (none-some x at)
along_at P [] (y ∷ xs) i x a at = absurd a
along_at P (n ∷ ns) (y ∷ xs) zero x a at = (n, refl, subst (P n) (same_Some y x at) a.0)
along_at P (n ∷ ns) (y ∷ xs) (suc i) x a at = along_at P ns xs i x a.1 at
