-- The rules after a request, and how often a rule is used.
use Rattle.std.proofs.Common.{◌≡◌, ◌<◌, ◌≤◌, ℕ, zero, suc, ◌-◌, ◌&&◌, Bool, true, false, List, [], ◌∷◌, Option, Some, None, set, refl, sym, ap, ◌∙◌, arith}
use Rattle.std.specs.Prelude.{option_map, nat_lt, slice_get, ◌==◌}
use Rattle.wire_msg.specs.{Content}
use Rattle.script_rules.specs.Rules.{RuleView, is_live, may_be_used, meets, used}
use Rattle.script_rules.specs.Meeting.{action_at, after, first_met, is_index, met, uses}
use Rattle.script_rules.proofs.Meets.{cases, does_as, does_nothing, is_first}

same_some : (r other : RuleView) → Some r ≡ Some other → r ≡ other
same_some r other e = cc

-- the rules after a request are those before it, but for the one that it met
pub after_is : (c : Content) (rs : List RuleView) (i : ℕ) (r : RuleView) → first_met c rs ≡ Some i → slice_get rs i ≡ Some r → set rs i (used r) ≡ after c rs
after_is c [] i r e at = absurd cc
after_is c (x ∷ rs) zero r e at =
    let here : meets c x ≡ true = cases c x rs zero e in
    rw here (ap (λ (y : RuleView). used y ∷ rs) (sym (same_some x r at)))
after_is c (x ∷ rs) (suc k) r e at =
    let both = cases c x rs (suc k) e in
    let none : meets c x ≡ false = both.0 in
    rw none (ap (λ (l : List RuleView). x ∷ l) (after_is c rs k r both.1 at))

-- the rule that was met was used once more
pub at_met : (c : Content) (rs : List RuleView) (i : ℕ) (r : RuleView) → first_met c rs ≡ Some i → slice_get rs i ≡ Some r → slice_get (after c rs) i ≡ Some (used r)
at_met c [] i r e at = absurd cc
at_met c (x ∷ rs) zero r e at =
    let here : meets c x ≡ true = cases c x rs zero e in
    rw here (ap (λ (y : RuleView). Some (used y)) (same_some x r at))
at_met c (x ∷ rs) (suc k) r e at =
    let both = cases c x rs (suc k) e in
    let none : meets c x ≡ false = both.0 in
    rw none (at_met c rs k r both.1 at)

-- each other rule is as it was
other_by : (c : Content) (x : RuleView) (rs : List RuleView) (b : Bool) → meets c x ≡ b → (i : ℕ) → (first_met c (x ∷ rs) ≡ Some i → ⊥)
    → ((k : ℕ) → (first_met c rs ≡ Some k → ⊥) → slice_get (after c rs) k ≡ slice_get rs k) → slice_get (after c (x ∷ rs)) i ≡ slice_get (x ∷ rs) i
other_by c x rs true is zero not rest = absurd (not (rw is refl))
other_by c x rs true is (suc k) not rest = rw is refl
other_by c x rs false is zero not rest = rw is refl
other_by c x rs false is (suc k) not rest = rw is (rest k (λ e. not (rw is (ap (option_map (λ j. suc j)) e))))

at_other : (c : Content) (rs : List RuleView) (i : ℕ) → (first_met c rs ≡ Some i → ⊥) → slice_get (after c rs) i ≡ slice_get rs i
at_other c [] i not = refl
at_other c (x ∷ rs) i not = other_by c x rs (meets c x) refl i not (λ k others. at_other c rs k others)

-- a rule that is met may be used
live_by : (live others : Bool) → (live && others) ≡ true → live ≡ true
live_by true others e = refl
live_by false others e = e

both_live : (a b c : Bool) → (a && b && c) ≡ true → a ≡ true
both_live true b c e = refl
both_live false b c e = e

left_over : (n : ℕ) → nat_lt 0 n ≡ true → 0 < n
left_over zero e = absurd cc
left_over (suc n) e = omega arith

some_left : (c : Content) (r : RuleView) (n : ℕ) → meets c r ≡ true → r.left ≡ Some n → 0 < n
some_left c r n met left =
    let live : is_live r ≡ true = both_live (is_live r) _ _ met in
    left_over n (ap may_be_used (sym left) ∙ live)

index_is : (i : ℕ) (o : Option ℕ) → is_index i o ≡ true → o ≡ Some i
index_is i None e = absurd cc
index_is i (Some j) e = ap Some (omega (arith, sym_eq i j e))
  where
    sym_eq : (i j : ℕ) → (i == j) ≡ true → j ≡ i
    sym_eq i j e = grind arith

is_not : (i : ℕ) (o : Option ℕ) → is_index i o ≡ false → o ≡ Some i → ⊥
is_not i None e is = cc
is_not i (Some j) e is = other i j e cc
  where
    other : (i j : ℕ) → (i == j) ≡ false → j ≡ i → ⊥
    other i j e is = grind arith

one_fewer : (r : RuleView) (n : ℕ) → r.left ≡ Some n → (used r).left ≡ Some (n - 1)
one_fewer r n e = ap (option_map (λ k. k - 1)) e

found : (c : Content) (rs : List RuleView) (i : ℕ) (r : RuleView) → first_met c rs ≡ Some i → slice_get rs i ≡ Some r → meets c r ≡ true
found c rs i r e at =
    let first = is_first c rs i e in
    ap (meets c) (same_some r first.rule (sym at ∙ first.at)) ∙ first.is_met

used_by : (i n : ℕ) (r : RuleView) (c : Content) (cs : List Content) (rs : List RuleView) → slice_get rs i ≡ Some r → r.left ≡ Some n
    → (b : Bool) → is_index i (first_met c rs) ≡ b
    → ((m : ℕ) (x : RuleView) → slice_get (after c rs) i ≡ Some x → x.left ≡ Some m → uses i cs (after c rs) ≤ m) → uses i (c ∷ cs) rs ≤ n
used_by i n r c cs rs at left true is rest =
    let e = index_is i (first_met c rs) is in
    let some : 0 < n = some_left c r n (found c rs i r e at) left in
    let others : uses i cs (after c rs) ≤ n - 1 = rest (n - 1) (used r) (at_met c rs i r e at) (one_fewer r n left) in
    rw is (omega arith)
used_by i n r c cs rs at left false is rest =
    let others : uses i cs (after c rs) ≤ n = rest n r (at_other c rs i (is_not i (first_met c rs) is) ∙ at) left in
    rw is (omega arith)

pub used_at_most : (i n : ℕ) (r : RuleView) (cs : List Content) (rs : List RuleView) → slice_get rs i ≡ Some r → r.left ≡ Some n → uses i cs rs ≤ n
used_at_most i n r [] rs at left = omega arith
used_at_most i n r (c ∷ cs) rs at left =
    used_by i n r c cs rs at left (is_index i (first_met c rs)) refl (λ m x at' left'. used_at_most i m x cs (after c rs) at' left')

-- what is done with the request is what the rule does that stands there after it
pub action_met : (c : Content) (rs : List RuleView) → action_at (first_met c rs) (after c rs) ≡ met c rs
action_met c rs = by_index c rs (first_met c rs) refl
  where
    by_index : (c : Content) (rs : List RuleView) (found : Option ℕ) → first_met c rs ≡ found → action_at found (after c rs) ≡ met c rs
    by_index c rs None e = sym (does_nothing c rs e)
    by_index c rs (Some i) e =
        let first = is_first c rs i e in
        ap (option_map (λ (r : RuleView). r.action)) (at_met c rs i first.rule e first.at) ∙ sym (does_as c rs i first.rule e first.at)

pub action_is : (found : Option ℕ) (items : List RuleView) (c : Content) (rs : List RuleView) → items ≡ after c rs → found ≡ first_met c rs → action_at found items ≡ met c rs
action_is found items c rs is e = ap (λ (f : Option ℕ). action_at f items) e ∙ ap (λ (l : List RuleView). action_at (first_met c rs) l) is ∙ action_met c rs
