-- Options out of order: their alphabetical order is another text.
use Rattle.std.proofs.Common.{◌≡◌, ◌≢◌, ℕ, zero, suc, ◌<◌, ◌≤◌, List, [], ◌∷◌, ◌++◌, Bool, true, false, MatchBool, eqb-true, refl, sym, subst, ◌∙◌, arith, length, ◌+◌, slice_index, ◌==◌}
use Rattle.std.specs.Bool.{IsTrue}
use Rattle.std.specs.Char.{is_ascii}
use Rattle.std.specs.List.{All, filter, list_all}
use Rattle.std.proofs.lemmas.Bool.{false≢true}
use Rattle.std.proofs.lemmas.List.Elements.{All-append, All-head, All-nil, All-tail, All-weaker, filter_passes}
use Rattle.bson_json.specs.Options.{alphabetical, in_order}

-- no character behind one of a higher code
abbrev Rises : List ℕ → Type 0
Rises [] = Unit {0}
Rises (x ∷ xs) = All (λ y. x ≤ y) xs × Rises xs

-- this character has this code
abbrev Is : ℕ → ℕ → Type 0
Is n x = (x == n) ≡ true

-- those of one code
one_code_rises : (n : ℕ) (xs : List ℕ) → All (Is n) xs → Rises xs
one_code_rises n [] same = tt
one_code_rises n (x ∷ xs) same =
    let head = eqb-true x n (All-head (Is n) x xs same) in
    let tail = All-tail (Is n) x xs same in
    (All-weaker (Is n) (λ y. x ≤ y) (λ y e. omega (arith, head, eqb-true y n e)) xs tail, one_code_rises n xs tail)

-- behind those of lower codes
rises_on : (n : ℕ) (xs ys : List ℕ) → Rises xs → All (λ x. x < n) xs → All (Is n) ys → Rises (xs ++ ys)
rises_on n [] ys rises lower same = one_code_rises n ys same
rises_on n (x ∷ xs) ys rises lower same =
    let head = All-head (λ y. y < n) x xs lower in (
      All-append (λ y. x ≤ y) xs ys rises.0 (All-weaker (Is n) (λ y. x ≤ y) (λ y e. omega (arith, head, eqb-true y n e)) ys same),
      rises_on n xs ys rises.1 (All-tail (λ y. y < n) x xs lower) same,
    )

codes_below : (n : ℕ) (options : List ℕ) → All (λ x. x < n) (in_order n options)
codes_below zero options = All-nil _
codes_below (suc n) options =
    All-append (λ x. x < suc n) (in_order n options) (filter (λ c. c == n) options)
    (All-weaker (λ x. x < n) (λ x. x < suc n) (λ x lt. omega arith) (in_order n options) (codes_below n options))
    (All-weaker (Is n) (λ x. x < suc n) (λ x e. omega (arith, eqb-true x n e)) (filter (λ c. c == n) options) (filter_passes (λ c. c == n) options))

in_order_rises : (n : ℕ) (options : List ℕ) → Rises (in_order n options)
in_order_rises zero options = tt
in_order_rises (suc n) options =
    rises_on n (in_order n options) (filter (λ c. c == n) options) (in_order_rises n options) (codes_below n options) (filter_passes (λ c. c == n) options)

next_is_no_lower : (xs : List ℕ) (i : ℕ) → suc i < length xs → Rises xs → slice_index xs i ≤ slice_index xs (suc i)
next_is_no_lower [] i lt rises = absurd (omega arith)
next_is_no_lower (x ∷ xs) zero lt rises = rises.0 0 0 (omega arith)
next_is_no_lower (x ∷ xs) (suc i) lt rises = next_is_no_lower xs i (omega arith) rises.1

-- the last of the first characters, if there is one
abbrev pub IsLast : List ℕ → ℕ → ℕ → Type 0
IsLast options zero last = last ≡ 0
IsLast options (suc i) last = slice_index options i ≡ last

pub next_is_last : (options : List ℕ) (i : ℕ) → IsLast options (i + 1) (slice_index options i)
next_is_last options i =
    let next : i + 1 ≡ suc i = omega arith in
    rw (next) refl

pub out_of_order : (options : List ℕ) (i last : ℕ) → i < length options → IsLast options i last → slice_index options i < last
    → list_all is_ascii options ≡ true → alphabetical options ≢ options
out_of_order options zero last lt e lower ascii same = absurd (omega arith)
out_of_order options (suc i) last lt e lower ascii same =
    let rises = subst Rises (sym ordered ∙ same) (in_order_rises 128 options) in
    absurd (omega (arith, next_is_no_lower options i lt rises))
  where
    ordered : alphabetical options ≡ in_order 128 options
    ordered = rw (ascii) refl

pub moved_by : (b : Bool) (options : List ℕ) (i last : ℕ) → i < length options → IsLast options i last → slice_index options i < last
    → MatchBool b (list_all is_ascii options ≡ true) (alphabetical options ≡ options) → IsTrue b → alphabetical options ≢ options
moved_by true options i last lt e lower ascii is = out_of_order options i last lt e lower ascii
moved_by false options i last lt e lower kept is = absurd (false≢true is)
