-- The first rule that a request meets: its index, and what stands there.
use Rattle.std.proofs.Common.{◌≡◌, ◌<◌, ℕ, zero, suc, ◌+◌, Bool, true, false, List, [], ◌∷◌, Option, Some, None, length, drop, get_or, refl, sym, ap, ◌∙◌, add-one, arith}
use Rattle.std.specs.Prelude.{option_map, if◌then◌else◌, slice_get}
use Rattle.std.proofs.Math.Seq.{drop-cons}
use Rattle.bson_raw.specs.{TreeValue}
use Rattle.wire_msg.specs.{Content}
use Rattle.script_rules.specs.Rules.{RuleView, meets, meets_as}
use Rattle.script_rules.specs.Meeting.{IsFirstLive, after, first_met, first_met_as, met}

-- ---- counting up to it

-- an index counted from that one
abbrev pub counted_from : ℕ → Option ℕ → Option ℕ
counted_from i None = None
counted_from i (Some k) = Some (i + k)

pub from_zero : (o : Option ℕ) → o ≡ counted_from 0 o
from_zero None = refl
from_zero (Some k) = ap Some (omega arith)

from_next : (i : ℕ) (o : Option ℕ) → counted_from i (option_map (λ k. suc k) o) ≡ counted_from (i + 1) o
from_next i None = refl
from_next i (Some k) = ap Some (omega arith)

module _ (name : List ℕ) (body : Option TreeValue) where
  found_cons : (i : ℕ) (r : RuleView) (rs : List RuleView) (b : Bool) → meets_as name body r ≡ b
      → counted_from i (first_met_as name body (r ∷ rs)) ≡ (if b then Some i else counted_from (i + 1) (first_met_as name body rs))
  found_cons i r rs true e = rw e (ap Some (omega arith))
  found_cons i r rs false e = rw e (from_next i (first_met_as name body rs))

  left_from : (rs : List RuleView) (i : ℕ) (r : RuleView) → i < length rs → r ≡ get_or rs i r → drop i rs ≡ r ∷ drop (i + 1) rs
  left_from rs i r inside is = drop-cons rs i r inside ∙ ap (λ (y : RuleView). y ∷ drop (suc i) rs) (sym is) ∙ ap (λ (j : ℕ). r ∷ drop j rs) (sym (add-one i))

  -- what is left from an index on, counted from there, is what is left from the next on, or the index
  pub step : (rs : List RuleView) (i : ℕ) (r : RuleView) (b : Bool) → i < length rs → r ≡ get_or rs i r → b ≡ meets_as name body r
      → counted_from i (first_met_as name body (drop i rs)) ≡ (if b then Some i else counted_from (i + 1) (first_met_as name body (drop (i + 1) rs)))
  step rs i r b inside is same =
      ap (λ (l : List RuleView). counted_from i (first_met_as name body l)) (left_from rs i r inside is)
      ∙ found_cons i r (drop (i + 1) rs) b (sym same)

-- ---- what stands there

tail_of : (o : Option ℕ) (i : ℕ) → option_map (λ k. suc k) o ≡ Some i → (k : ℕ) × (i ≡ suc k) × (o ≡ Some k)
tail_of None i e = absurd cc
tail_of (Some k) i e = (k, cc, refl)

-- a rule and others are met at the first, or at an index of the others
abbrev Cases : Content → RuleView → List RuleView → ℕ → Type 0
Cases c r rs zero = meets c r ≡ true
Cases c r rs (suc k) = (meets c r ≡ false) × (first_met c rs ≡ Some k)

cases_by : (c : Content) (r : RuleView) (rs : List RuleView) (i : ℕ) (b : Bool) → meets c r ≡ b → first_met c (r ∷ rs) ≡ Some i → Cases c r rs i
cases_by c r rs zero true e is = e
cases_by c r rs (suc k) true e is = absurd (let p : Some 0 ≡ Some (suc k) = rw e at is in cc)
cases_by c r rs zero false e is = absurd (let p : option_map (λ k. suc k) (first_met c rs) ≡ Some 0 = rw e at is in let q = tail_of (first_met c rs) 0 p in omega (arith, q.1))
cases_by c r rs (suc k) false e is =
    let p : option_map (λ j. suc j) (first_met c rs) ≡ Some (suc k) = rw e at is in
    let q = tail_of (first_met c rs) (suc k) p in
    (e, q.2 ∙ ap Some (omega (arith, q.1)))

pub cases : (c : Content) (r : RuleView) (rs : List RuleView) (i : ℕ) → first_met c (r ∷ rs) ≡ Some i → Cases c r rs i
cases c r rs i is = cases_by c r rs i (meets c r) refl is

same_some : (r other : RuleView) → Some r ≡ Some other → r ≡ other
same_some r other e = cc

-- none before the first of a rule and others, which isn't met
none_before : (c : Content) (r : RuleView) (rs : List RuleView) (k : ℕ) → meets c r ≡ false
    → ((j : ℕ) (other : RuleView) → j < k → slice_get rs j ≡ Some other → meets c other ≡ false)
    → (j : ℕ) (other : RuleView) → j < suc k → slice_get (r ∷ rs) j ≡ Some other → meets c other ≡ false
none_before c r rs k none first zero other lt at = ap (meets c) (sym (same_some r other at)) ∙ none
none_before c r rs k none first (suc j) other lt at = first j other (omega (arith, lt)) at

pub is_first : (c : Content) (rs : List RuleView) (i : ℕ) → first_met c rs ≡ Some i → IsFirstLive c rs i
is_first c [] i e = absurd cc
is_first c (r ∷ rs) zero e = record {
  rule = r;
  at = refl;
  is_met = cases c r rs zero e;
  first = λ j other lt at. absurd (omega (arith, lt));
}
is_first c (r ∷ rs) (suc k) e =
    let here = cases c r rs (suc k) e in
    let others = is_first c rs k here.1 in record {
      rule = others.rule;
      at = others.at;
      is_met = others.is_met;
      first = none_before c r rs k here.0 others.first;
    }

pub first_is : (c : Content) (rs : List RuleView) (i : ℕ) → IsFirstLive c rs i → first_met c rs ≡ Some i
first_is c [] i is = absurd (let none : None ≡ Some is.rule = is.at in cc)
first_is c (r ∷ rs) zero is =
    let met : meets c r ≡ true = ap (meets c) (same_some r is.rule is.at) ∙ is.is_met in rw met refl
first_is c (r ∷ rs) (suc k) is =
    let none : meets c r ≡ false = is.first 0 r (omega arith) refl in
    let others : IsFirstLive c rs k = record {
      rule = is.rule;
      at = is.at;
      is_met = is.is_met;
      first = λ j other lt at. is.first (suc j) other (omega (arith, lt)) at;
    } in
    rw none (ap (option_map (λ j. suc j)) (first_is c rs k others))

-- what is done is what the rule there does
pub does_as : (c : Content) (rs : List RuleView) (i : ℕ) (r : RuleView) → first_met c rs ≡ Some i → slice_get rs i ≡ Some r → met c rs ≡ Some r.action
does_as c [] i r e at = absurd cc
does_as c (x ∷ rs) zero r e at =
    let here : meets c x ≡ true = cases c x rs zero e in
    rw here (ap (λ (y : RuleView). Some y.action) (same_some x r at))
does_as c (x ∷ rs) (suc k) r e at =
    let here = cases c x rs (suc k) e in
    let none : meets c x ≡ false = here.0 in
    rw none (does_as c rs k r here.1 at)

-- no rule is met
none_tail : (o : Option ℕ) → option_map (λ k. suc k) o ≡ None → o ≡ None
none_tail None e = refl
none_tail (Some k) e = absurd cc

none_by : (c : Content) (r : RuleView) (rs : List RuleView) (b : Bool) → meets c r ≡ b → first_met c (r ∷ rs) ≡ None → (meets c r ≡ false) × (first_met c rs ≡ None)
none_by c r rs true e none = absurd (let p : Some 0 ≡ None = rw e at none in cc)
none_by c r rs false e none = (e, none_tail (first_met c rs) (rw e at none))

pub does_nothing : (c : Content) (rs : List RuleView) → first_met c rs ≡ None → met c rs ≡ None
does_nothing c [] e = refl
does_nothing c (r ∷ rs) e =
    let both = none_by c r rs (meets c r) refl e in
    let none : meets c r ≡ false = both.0 in
    rw none (does_nothing c rs both.1)

pub after_nothing : (c : Content) (rs : List RuleView) → first_met c rs ≡ None → after c rs ≡ rs
after_nothing c [] e = refl
after_nothing c (r ∷ rs) e =
    let both = none_by c r rs (meets c r) refl e in
    let none : meets c r ≡ false = both.0 in
    rw none (ap (λ (l : List RuleView). r ∷ l) (after_nothing c rs both.1))

pub within : (c : Content) (rs : List RuleView) (i : ℕ) → first_met c rs ≡ Some i → i < length rs
within c [] i e = absurd cc
within c (r ∷ rs) zero e = omega arith
within c (r ∷ rs) (suc k) e =
    let rest : k < length rs = within c rs k (cases c r rs (suc k) e).1 in omega arith
