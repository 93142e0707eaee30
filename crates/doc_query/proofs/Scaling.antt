-- Numbers times a power of two, and their order.
use Rattle.std.proofs.Common.{◌≡◌, ◌<◌, ◌≤◌, ℕ, zero, suc, ◌+◌, ◌-◌, ◌*◌, ◌^◌, Bool, true, false, cond, ltb, ℤ, pos, negsuc, neg_ℤ, ◌*ℤ◌, unsigned_abs, int_cmp, Less, Equal, Greater, SFits, w64, refl, sym, ap, ap₂, ◌∙◌, arith, ltb-true, lt-ltb, le-ltb, pow_pos, pow_mono, pow-add, mul_assoc}
use Rattle.std.specs.Prelude.{int_lt}
use Rattle.std.proofs.Math.Nat.{lt_of_mul-lt-mul_right, mul-lt-mul_of_pos_right, mul-le-mul}
use Rattle.doc_query.specs.Numbers.{scaled}

same_test : (p q : Bool) → (p ≡ true → q ≡ true) → (q ≡ true → p ≡ true) → p ≡ q
same_test true q f g = sym (f refl)
same_test false true f g = g refl
same_test false false f g = refl

ltb-mul : (a b c : ℕ) → 0 < c → ltb (a * c) (b * c) ≡ ltb a b
ltb-mul a b c p = same_test (ltb (a * c) (b * c)) (ltb a b)
    (λ e. lt-ltb a b (lt_of_mul-lt-mul_right c (ltb-true (a * c) (b * c) e)))
    (λ e. lt-ltb (a * c) (b * c) (mul-lt-mul_of_pos_right (ltb-true a b e) p))

ltb-before : (m n : ℕ) → 0 < m → 0 < n → ltb (m - 1) (n - 1) ≡ ltb m n
ltb-before m n p q = same_test (ltb (m - 1) (n - 1)) (ltb m n)
    (λ e. let l = ltb-true (m - 1) (n - 1) e in lt-ltb m n (omega arith))
    (λ e. let l = ltb-true m n e in lt-ltb (m - 1) (n - 1) (omega arith))

ltb-suc : (a b : ℕ) → ltb (suc a) (suc b) ≡ ltb a b
ltb-suc a b = same_test (ltb (suc a) (suc b)) (ltb a b)
    (λ e. let l = ltb-true (suc a) (suc b) e in lt-ltb a b (omega arith))
    (λ e. let l = ltb-true a b e in lt-ltb (suc a) (suc b) (omega arith))

some : (a c : ℕ) → 0 < c → 0 < suc a * c
some a c p = let one : 1 ≤ suc a = omega arith in let two : 1 ≤ c = omega arith in let l = mul-le-mul one two in omega arith

below_zero : (m : ℕ) → 0 < m → neg_ℤ (pos m) ≡ negsuc (m - 1)
below_zero zero p = absurd (omega arith)
below_zero (suc n) p = let e : n ≡ suc n - 1 = omega arith in ap negsuc e

product_below : (a c : ℕ) → 0 < c → negsuc a *ℤ pos c ≡ negsuc (suc a * c - 1)
product_below a c p = below_zero (suc a * c) (some a c p)

int_lt-mul : (x y : ℤ) (c : ℕ) → 0 < c → int_lt (x *ℤ pos c) (y *ℤ pos c) ≡ int_lt x y
int_lt-mul (pos a) (pos b) c p = ltb-mul a b c p
int_lt-mul (pos a) (negsuc b) c p = ap (int_lt (pos (a * c))) (product_below b c p)
int_lt-mul (negsuc a) (pos b) c p = ap (λ z. int_lt z (pos (b * c))) (product_below a c p)
int_lt-mul (negsuc a) (negsuc b) c p =
    ap₂ int_lt (product_below a c p) (product_below b c p)
    ∙ ltb-before (suc b * c) (suc a * c) (some b c p) (some a c p) ∙ ltb-mul (suc b) (suc a) c p ∙ ltb-suc b a

pub int_cmp-mul : (x y : ℤ) (c : ℕ) → 0 < c → int_cmp (x *ℤ pos c) (y *ℤ pos c) ≡ int_cmp x y
int_cmp-mul x y c p =
    ap₂ (λ (l g : Bool). cond l Less (cond g Greater Equal)) (int_lt-mul x y c p) (int_lt-mul y x c p)

product_twice : (x : ℤ) (b c : ℕ) → 0 < b → x *ℤ pos b *ℤ pos c ≡ x *ℤ pos (b * c)
product_twice (pos a) b c p = ap pos (mul_assoc a b c)
product_twice (negsuc a) b c p =
    let m = suc a * b in
    let q = some a b p in
    let whole : suc (m - 1) ≡ m = omega arith in
    ap (λ z. z *ℤ pos c) (product_below a b p) ∙ ap (λ n. neg_ℤ (pos (n * c))) whole ∙ ap (λ n. neg_ℤ (pos n)) (mul_assoc (suc a) b c)

-- the common power of two numbers does not change their order
pub scaled_both : (x y : ℤ) (m n : ℕ) → n ≤ m → int_cmp (scaled x (m - n)) y ≡ int_cmp (scaled x m) (scaled y n)
scaled_both x y m n h =
    let split : m - n + n ≡ m = omega arith in
    sym (int_cmp-mul (scaled x (m - n)) y (2 ^ n) (pow_pos n))
    ∙ ap (λ z. int_cmp z (scaled y n))
    (product_twice x (2 ^ (m - n)) (2 ^ n) (pow_pos (m - n)) ∙ ap (λ k. x *ℤ pos k) (sym (pow-add 2 (m - n) n) ∙ ap (λ k. 2 ^ k) split))

greater : (a b : ℕ) → b < a → int_cmp (pos a) (pos b) ≡ Greater
greater a b h = ap₂ (λ (l g : Bool). cond l Less (cond g Greater Equal)) (le-ltb a b (omega arith)) (lt-ltb b a h)

less_below : (a b : ℕ) → b < a → int_cmp (negsuc a) (negsuc b) ≡ Less
less_below a b h = ap (λ (l : Bool). cond l Less (cond (ltb a b) Greater Equal)) (lt-ltb b a h)

wide : (n p : ℕ) → 64 ≤ p → 2 ^ 64 ≤ suc n * 2 ^ p
wide n p h = let one : 1 ≤ suc n = omega arith in let l = mul-le-mul one (pow_mono h) in omega arith

-- a number other than 0, times a power of at least 64, lies beyond all int64
pub scaled_far : (z w : ℤ) (p : ℕ) → 64 ≤ p → SFits w64 w → (int_cmp z (pos 0) ≡ Equal → ⊥) → int_cmp z (pos 0) ≡ int_cmp (scaled z p) w
scaled_far (pos zero) w p h fits other = absurd (other refl)
scaled_far (pos (suc n)) (pos b) p h fits other =
    let l = wide n p h in
    let f = fits.sfits in
    greater (suc n) 0 (omega arith) ∙ sym (greater (suc n * 2 ^ p) b (omega arith))
scaled_far (pos (suc n)) (negsuc b) p h fits other = greater (suc n) 0 (omega arith)
scaled_far (negsuc n) (pos b) p h fits other = ap (λ z. int_cmp z (pos b)) (sym (product_below n (2 ^ p) (pow_pos p)))
scaled_far (negsuc n) (negsuc b) p h fits other =
    let l = wide n p h in
    let f = fits.sfits in
    sym (less_below (suc n * 2 ^ p - 1) b (omega arith)) ∙ ap (λ z. int_cmp z (negsuc b)) (sym (product_below n (2 ^ p) (pow_pos p)))

pub abs_most : (z : ℤ) → SFits w64 z → unsigned_abs z ≤ 2 ^ 63
abs_most (pos n) fits = let f = fits.sfits in omega arith
abs_most (negsuc n) fits = let f = fits.sfits in omega arith
