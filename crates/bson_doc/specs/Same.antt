-- Whether two values are the same, as a test: it compares their codes.
use Rattle.std.specs.Prelude.{◌≡◌, ℕ, Bool, true, false, ◌==◌, ◌&&◌, refl}
use Rattle.std.proofs.Common.{ap, arith, subst, sym, ◌∙◌}
use Rattle.std.proofs.lemmas.Bool.Decides.{nat_tests}
use Rattle.std.specs.Coded.{Coded}
use Rattle.std.specs.Cmp.{IsEquivalence}
use base.Stored.{Gv, gnil, gnum, gcons}

abbrev pub same_code : Gv → Gv → Bool
same_code gnil gnil = true
same_code (gnum m) (gnum n) = m == n
same_code (gcons a b) (gcons c d) = same_code a c && same_code b d
same_code _ _ = false

-- whether the two values are the same
abbrev pub same : {A : Type 0} → Coded A → A → A → Bool
same c x y = same_code (c.code x) (c.code y)

both : (p q : Bool) → (p && q) ≡ true → (p ≡ true) × (q ≡ true)
both true q e = (refl, e)
both false q e = absurd cc

number_is : (m n : ℕ) → (m == n) ≡ true → m ≡ n
number_is m n e = grind (arith, nat_tests)

code_is : (a b : Gv) → same_code a b ≡ true → a ≡ b
code_is gnil gnil e = refl
code_is (gnum m) (gnum n) e = ap gnum (number_is m n e)
code_is (gcons a b) (gcons c d) e =
    let p = both (same_code a c) (same_code b d) e in λ i. gcons (code_is a c p.0 i)
    (code_is b d p.1 i)
code_is gnil (gnum n) e = absurd cc
code_is gnil (gcons c d) e = absurd cc
code_is (gnum m) gnil e = absurd cc
code_is (gnum m) (gcons c d) e = absurd cc
code_is (gcons a b) gnil e = absurd cc
code_is (gcons a b) (gnum n) e = absurd cc

itself : (a : Gv) → same_code a a ≡ true
itself gnil = refl
itself (gnum n) = grind (arith, nat_tests)
itself (gcons a b) = rw (itself a, itself b) refl

pub same_is : {A : Type 0} (c : Coded A) (x y : A) → same c x y ≡ true → x ≡ y
same_is c x y e = c.inj x y (code_is (c.code x) (c.code y) e)

pub is_same : {A : Type 0} (c : Coded A) (x y : A) → x ≡ y → same c x y ≡ true
is_same {A} c x y e = subst (λ (z : A). same c x z ≡ true) e (itself (c.code x))

-- two tests with the same answer where it is true
pub alike : (p q : Bool) → (p ≡ true → q ≡ true) → (q ≡ true → p ≡ true) → p ≡ q
alike true q f g = sym (f refl)
alike false true f g = g refl
alike false false f g = refl

pub same_equiv : {A : Type 0} (c : Coded A) → IsEquivalence (same c)
same_equiv c = record {
  refl = λ x. is_same c x x refl;
  symm =
      λ x y. alike (same c x y) (same c y x) (λ e. is_same c y x (sym (same_is c x y e)))
      (λ e. is_same c x y (sym (same_is c y x e)));
  congr =
      λ x y z e. alike (same c x z) (same c y z)
      (λ f. is_same c y z (sym (same_is c x y e) ∙ same_is c x z f))
      (λ f. is_same c x z (same_is c x y e ∙ same_is c y z f));
}

-- whether what is seen of two values is the same
abbrev pub same_seen : {A B : Type 0} → Coded B → (A → B) → A → A → Bool
same_seen c seen x y = same c (seen x) (seen y)

pub same_seen_equiv : {A B : Type 0} (c : Coded B) (seen : A → B) → IsEquivalence (same_seen c seen)
same_seen_equiv c seen = record {
  refl = λ x. (same_equiv c).refl (seen x);
  symm = λ x y. (same_equiv c).symm (seen x) (seen y);
  congr = λ x y z. (same_equiv c).congr (seen x) (seen y) (seen z);
}
