-- Places behind bytes, line by line.
use Rattle.std.proofs.Common.{◌≡◌, ◌∙◌, ◌+◌, ◌<◌, ◌≤◌, ◌==◌, ℕ, zero, suc, List, [], ◌∷◌, ◌++◌, Bool, true, false, cond, not, refl, sym, ap, arith, subst, count_ones, drop, get_or, length, map}
use Rattle.std.specs.Prelude.{if◌then◌else◌}
use Rattle.std.specs.List.{count_by}
use Rattle.std.proofs.lemmas.List.Sums.{count_by-le-length, sum_by-cons}
use Rattle.std.proofs.lemmas.Simd.{chunk-drop, length-chunk, ones-mask_l}
use lib.Lanes.{chunk, mask_l}
use Rattle.memchr.specs.Find.{Nowhere, Passes, is_byte}
use Rattle.bson_json_read.specs.Places.{begins, characters, goes_on, place_behind}

-- ---- characters

plus_choice : (c : Bool) (m n : ℕ) → (if c then m + n else suc (m + n)) ≡ (if c then m else suc m) + n
plus_choice true m n = refl
plus_choice false m n = omega arith

characters_append : (xs ys : List ℕ) → characters (xs ++ ys) ≡ characters xs + characters ys
characters_append [] ys = omega arith
characters_append (x ∷ xs) ys = ap (λ (n : ℕ). if goes_on x then n else suc n) (characters_append xs ys) ∙ plus_choice (goes_on x) (characters xs) (characters ys)

one_more : (c : Bool) (n : ℕ) → (if c then n else suc n) ≡ cond (not c) 1 0 + n
one_more true n = omega arith
one_more false n = omega arith

characters_counted : (xs : List ℕ) → characters xs ≡ count_by begins xs
characters_counted [] = refl
characters_counted (x ∷ xs) = ap (λ (n : ℕ). if goes_on x then n else suc n) (characters_counted xs) ∙ one_more (goes_on x) (count_by begins xs) ∙ sym (sum_by-cons (λ y. cond (begins y) 1 0) x xs)

-- the characters of 16 bytes, and those behind them
pub characters_on : (bytes : List ℕ) (at : ℕ) → at + 16 ≤ length bytes → (characters (drop at bytes) ≡ count_ones (mask_l (map begins (chunk at 16 bytes))) + characters (drop (at + 16) bytes)) × (count_ones (mask_l (map begins (chunk at 16 bytes))) ≤ 16)
characters_on bytes at room =
    let counted : count_ones (mask_l (map begins (chunk at 16 bytes))) ≡ count_by begins (chunk at 16 bytes) = ones-mask_l begins (chunk at 16 bytes) in
    let parts = ap characters (chunk-drop at 16 bytes) ∙ characters_append (chunk at 16 bytes) (drop (at + 16) bytes) in
    (omega (arith, parts, characters_counted (chunk at 16 bytes), counted), omega (arith, counted, count_by-le-length begins (chunk at 16 bytes), length-chunk at 16 bytes room))

-- ---- the rest of a line

no_feed : (c : Bool) → (c ≡ true → ⊥) → c ≡ false
no_feed true n = absurd (n refl)
no_feed false n = refl

ends_line : (b : ℕ) (line column : ℕ) (bs : List ℕ) → (b == 10) ≡ false → place_behind line column (b ∷ bs) ≡ (if goes_on b then place_behind line column bs else place_behind line (column + 1) bs)
ends_line b line column bs e = rw e refl

by_character : (c : Bool) (line column : ℕ) (bs : List ℕ) → place_behind line column bs ≡ (line, column + characters bs) → place_behind line (column + 1) bs ≡ (line, column + 1 + characters bs)
    → (if c then place_behind line column bs else place_behind line (column + 1) bs) ≡ (line, column + (if c then characters bs else suc (characters bs)))
by_character true line column bs on next = on
by_character false line column bs on next = next ∙ ap (λ (k : ℕ). (line, k)) (omega arith)

pub in_line : (line column : ℕ) (bs : List ℕ) → Nowhere (Passes (is_byte 10) bs) 0 (length bs) → place_behind line column bs ≡ (line, column + characters bs)
in_line line column [] none = ap (λ (k : ℕ). (line, k)) (omega arith)
in_line line column (b ∷ bs) none =
    let this : (b == 10) ≡ false = no_feed (b == 10) (none 0 (omega arith) (omega arith)) in
    let rest = λ (at : ℕ). in_line line at bs (λ k low high. none (suc k) (omega arith) (omega arith)) in
    ends_line b line column bs this ∙ by_character (goes_on b) line column bs (rest column) (rest (column + 1))

-- ---- the next line

by_next : (c : Bool) (x y z : ℕ × ℕ) → x ≡ z → y ≡ z → (if c then x else y) ≡ z
by_next true x y z p q = p
by_next false x y z p q = q

is_feed : (c : Bool) (x y : ℕ × ℕ) → c ≡ true → (if c then x else y) ≡ x
is_feed true x y e = refl
is_feed false x y e = absurd cc

pub next_line : (line column n : ℕ) (bs : List ℕ) → n < length bs → Nowhere (Passes (is_byte 10) bs) 0 n → is_byte 10 (get_or bs n 0) ≡ true → place_behind line column bs ≡ place_behind (line + 1) 1 (drop (n + 1) bs)
next_line line column n [] lt none is = absurd (omega (arith, lt))
next_line line column zero (b ∷ bs) lt none is = is_feed (b == 10) (place_behind (line + 1) 1 bs) (if goes_on b then place_behind line column bs else place_behind line (column + 1) bs) is
next_line line column (suc n) (b ∷ bs) lt none is =
    let this : (b == 10) ≡ false = no_feed (b == 10) (none 0 (omega arith) (omega arith)) in
    let rest = λ (at : ℕ). next_line line at n bs (omega (arith, lt)) (λ k low high. none (suc k) (omega arith) (omega (arith, high))) is in
    let more : suc (n + 1) ≡ suc n + 1 = omega arith in
    ends_line b line column bs this ∙ by_next (goes_on b) _ _ (place_behind (line + 1) 1 (drop (n + 1) bs)) (rest column) (rest (column + 1))
    ∙ ap (λ (k : ℕ). place_behind (line + 1) 1 (drop k (b ∷ bs))) more

-- ---- bytes one after another

by_case : (c d : Bool) (x y z x' y' z' : ℕ × ℕ) → x ≡ x' → y ≡ y' → z ≡ z' → (if c then x else if d then y else z) ≡ (if c then x' else if d then y' else z')
by_case true d x y z x' y' z' p q r = p
by_case false true x y z x' y' z' p q r = q
by_case false false x y z x' y' z' p q r = r

abbrev pub place_on : ℕ × ℕ → List ℕ → ℕ × ℕ
place_on p bs = place_behind p.0 p.1 bs

on_case : (c d : Bool) (x y z : ℕ × ℕ) (bs : List ℕ) → place_on (if c then x else if d then y else z) bs ≡ (if c then place_on x bs else if d then place_on y bs else place_on z bs)
on_case true d x y z bs = refl
on_case false true x y z bs = refl
on_case false false x y z bs = refl

pub places_append : (line column : ℕ) (xs ys : List ℕ) → place_behind line column (xs ++ ys) ≡ place_on (place_behind line column xs) ys
places_append line column [] ys = refl
places_append line column (x ∷ xs) ys =
    by_case (x == 10) (goes_on x) _ _ _ _ _ _ (places_append (line + 1) 1 xs ys) (places_append line column xs ys) (places_append line (column + 1) xs ys)
    ∙ sym (on_case (x == 10) (goes_on x) (place_behind (line + 1) 1 xs) (place_behind line column xs) (place_behind line (column + 1) xs) ys)

-- no more lines and columns than bytes
abbrev Within : ℕ → ℕ × ℕ → Type 0
Within most p = (p.0 ≤ most) × (p.1 ≤ most)

within_case : (most : ℕ) (c d : Bool) (x y z : ℕ × ℕ) → Within most x → Within most y → Within most z → Within most (if c then x else if d then y else z)
within_case most true d x y z p q r = p
within_case most false true x y z p q r = q
within_case most false false x y z p q r = r

pub few_places : (before line column : ℕ) (bs : List ℕ) → line ≤ before + 1 → column ≤ before + 1 → Within (before + length bs + 1) (place_behind line column bs)
few_places before line column [] l c = (omega (arith, l), omega (arith, c))
few_places before line column (b ∷ bs) l c =
    let more : before + 1 + length bs + 1 ≡ before + length (b ∷ bs) + 1 = omega arith in
    subst (λ (most : ℕ). Within most (place_behind line column (b ∷ bs))) more
    (within_case (before + 1 + length bs + 1) (b == 10) (goes_on b) _ _ _
    (few_places (before + 1) (line + 1) 1 bs (omega (arith, l)) (omega arith)) (few_places (before + 1) line column bs (omega (arith, l)) (omega (arith, c))) (few_places (before + 1) line (column + 1) bs (omega (arith, l)) (omega (arith, c))))
