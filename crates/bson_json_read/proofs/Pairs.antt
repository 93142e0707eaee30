-- Members, by how many they are.
use Rattle.std.proofs.Common.{◌≡◌, ◌≢◌, ℕ, List, [], ◌∷◌, length, get_or, cond, Some, None, refl, arith}
use Rattle.std.specs.Borrow.{Bor}
use Rattle.std.specs.Str.{bytes_eq}
use Rattle.std.specs.declared.alloc.Global.{Global}
use Rattle.json.specs.Value.{members_view, value_view}
use Rattle.json.specs.declared.value.Value.{Value}
use Rattle.bson_json_read.specs.Forms.{both, both_of, sole}

abbrev pub Pair : Type 0
Pair = Bor (List ℕ) × Value Global

pub sole_one : (name : List ℕ) (xs : List Pair) (x : Pair) → length xs ≡ 1 → get_or xs 0 x ≡ x
    → sole name (members_view xs) ≡ cond (bytes_eq x.0.now name) (Some (value_view x.1)) None
sole_one name [] x e h = absurd (omega arith)
sole_one name (y ∷ []) x e h = rw h refl
sole_one name (y ∷ z ∷ ys) x e h = absurd (omega arith)

pub sole_other : (name : List ℕ) (xs : List Pair) → length xs ≢ 1 → sole name (members_view xs) ≡ None
sole_other name [] n = refl
sole_other name (y ∷ []) n = absurd (n refl)
sole_other name (y ∷ z ∷ ys) n = refl

pub both_two : (a b : List ℕ) (xs : List Pair) (x y : Pair) → length xs ≡ 2 → get_or xs 0 x ≡ x → get_or xs 1 y ≡ y
    → both a b (members_view xs) ≡ both_of a b x.0.now (value_view x.1) y.0.now (value_view y.1)
both_two a b [] x y e f g = absurd (omega arith)
both_two a b (p ∷ []) x y e f g = absurd (omega arith)
both_two a b (p ∷ q ∷ []) x y e f g = rw (f, g) refl
both_two a b (p ∷ q ∷ r ∷ rs) x y e f g = absurd (omega arith)

pub both_other : (a b : List ℕ) (xs : List Pair) → length xs ≢ 2 → both a b (members_view xs) ≡ None
both_other a b [] n = refl
both_other a b (p ∷ []) n = refl
both_other a b (p ∷ q ∷ []) n = absurd (n refl)
both_other a b (p ∷ q ∷ r ∷ rs) n = refl
