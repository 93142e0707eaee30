-- A list of numbers that are exactly the calls of a kind, each once.
use Rattle.std.proofs.Common.{◌≡◌, ℕ, List, [], ◌∷◌, ◌++◌, length, map, sym, ◌∙◌, ap, arith, Some, inl, inr}
use Rattle.std.specs.Prelude.{remove, slice_get, slice_set}
use Rattle.std.proofs.lemmas.Option.{same_Some, slice_get_within}
use Rattle.wire_model.specs.Machines.{Call, CallIs}
use Rattle.wire_model.proofs.Lists.{Has, Distinct, Has-push, Has-last, Has-push_cases, Distinct-push, Has-remove, Has-other, Has-removed, Distinct-remove, get-push_old, get-push_new, get-push_cases, get-set_same, get-set_other, same_or_not, get-map, get-map_back}

pub record Exact (Q : Call → Type 0) (calls : List Call) (is : List ℕ) : Type 0 where
  pub each : (i : ℕ) → Has i is → (x : Call) × CallIs calls i x × Q x
  pub all : (i : ℕ) (x : Call) → CallIs calls i x → Q x → Has i is
  pub apart : Distinct is

pub exact_none : (Q : Call → Type 0) (calls : List Call) → ((i : ℕ) (x : Call) → CallIs calls i x → Q x → ⊥) → Exact Q calls []
exact_none Q calls n = record { each = λ i h. absurd h; all = λ i x g q. absurd (n i x g q); apart = tt }

pub exact_kept : (Q : Call → Type 0) (calls calls' : List Call) (is : List ℕ)
    → ((i : ℕ) (x : Call) → CallIs calls i x → Q x → (y : Call) × CallIs calls' i y × Q y)
    → ((i : ℕ) (y : Call) → CallIs calls' i y → Q y → (x : Call) × CallIs calls i x × Q x)
    → Exact Q calls is → Exact Q calls' is
exact_kept Q calls calls' is there back e = record {
  each = λ i h. let p = e.each i h in there i p.0 p.1 p.2;
  all = λ i y g q. let p = back i y g q in e.all i p.0 p.1 p.2;
  apart = e.apart;
}

-- a new call that isn't of the kind
pub exact_push_other : (Q : Call → Type 0) (calls : List Call) (is : List ℕ) (y : Call) → (Q y → ⊥) → Exact Q calls is → Exact Q (calls ++ y ∷ []) is
exact_push_other Q calls is y n e = exact_kept Q calls (calls ++ y ∷ []) is
    (λ i x g q. (x, get-push_old calls i x y g, q))
    (λ i x g q. elim (get-push_cases calls i x y g) [ inl h ↦ (x, h, q) | inr h ↦ absurd (n (rw h.1 q)) ])
    e

-- a new call of the kind
pub exact_push : (Q : Call → Type 0) (calls : List Call) (is : List ℕ) (y : Call) → Q y → Exact Q calls is → Exact Q (calls ++ y ∷ []) (is ++ length calls ∷ [])
exact_push Q calls is y q e = record {
  each = λ i h. elim (Has-push_cases is i (length calls) h) [
    | inl h' ↦ let p = e.each i h' in (p.0, get-push_old calls i p.0 y p.1, p.2)
    | inr same ↦ (y, rw same (get-push_new calls y), q)
  ];
  all = λ i x g p. elim (get-push_cases calls i x y g) [
    | inl h ↦ Has-push is i (length calls) (e.all i x h p)
    | inr h ↦ rw h.0 (Has-last is (length calls))
  ];
  apart = Distinct-push is (length calls) e.apart (λ h. let p = e.each (length calls) h in let within = slice_get_within calls (length calls) p.0 p.1 in absurd (omega arith));
}

-- a write that doesn't change whether the call is of the kind
pub exact_set : (Q : Call → Type 0) (calls : List Call) (is : List ℕ) (i : ℕ) (x y : Call) → CallIs calls i x → (Q x → Q y) → (Q y → Q x) → Exact Q calls is → Exact Q (slice_set calls i y) is
exact_set Q calls is i x y at to from e = exact_kept Q calls (slice_set calls i y) is
    (λ j z g q. elim (same_or_not j i) [
      | inl s ↦ (y, rw s (get-set_same calls i x y at), to (let same : z ≡ x = same_Some z x (sym g ∙ ap (slice_get calls) s ∙ at) in rw (← same) q))
      | inr n ↦ (z, get-set_other calls i j y n ∙ g, q)
    ])
    (λ j z g q. elim (same_or_not j i) [
      | inl s ↦ (x, rw s at, from (let same : z ≡ y = same_Some z y (sym g ∙ ap (slice_get (slice_set calls i y)) s ∙ get-set_same calls i x y at) in rw (← same) q))
      | inr n ↦ (z, sym (get-set_other calls i j y n) ∙ g, q)
    ])
    e

-- a write after which the call is no longer of the kind
pub exact_out : (Q : Call → Type 0) (calls : List Call) (is : List ℕ) (i k : ℕ) (x y : Call) → CallIs calls i x → (Q y → ⊥) → slice_get is k ≡ Some i → Exact Q calls is → Exact Q (slice_set calls i y) (remove is k)
exact_out Q calls is i k x y at n place e = record {
  each = λ j h. elim (same_or_not j i) [
    | inl s ↦ absurd (Has-removed is k i e.apart place (rw (← s) h))
    | inr d ↦ let p = e.each j (Has-remove is k j h) in (p.0, get-set_other calls i j y d ∙ p.1, p.2)
  ];
  all = λ j z g q. elim (same_or_not j i) [
    | inl s ↦ absurd (n (let same : z ≡ y = same_Some z y (sym g ∙ ap (slice_get (slice_set calls i y)) s ∙ get-set_same calls i x y at) in rw (← same) q))
    | inr d ↦ Has-other is k j i place (e.all j z (sym (get-set_other calls i j y d) ∙ g) q) d
  ];
  apart = Distinct-remove is k e.apart;
}

-- a write after which the call is of the kind
pub exact_in : (Q : Call → Type 0) (calls : List Call) (is : List ℕ) (i : ℕ) (x y : Call) → CallIs calls i x → (Q x → ⊥) → Q y → Exact Q calls is → Exact Q (slice_set calls i y) (is ++ i ∷ [])
exact_in Q calls is i x y at n q e = record {
  each = λ j h. elim (same_or_not j i) [
    | inl s ↦ (y, rw s (get-set_same calls i x y at), q)
    | inr d ↦ elim (Has-push_cases is j i h) [
      | inl h' ↦ let p = e.each j h' in (p.0, get-set_other calls i j y d ∙ p.1, p.2)
      | inr s ↦ absurd (d s)
    ]
  ];
  all = λ j z g p. elim (same_or_not j i) [
    | inl s ↦ rw s (Has-last is i)
    | inr d ↦ Has-push is j i (e.all j z (sym (get-set_other calls i j y d) ∙ g) p)
  ];
  apart = Distinct-push is i e.apart (λ h. let p = e.each i h in n (let same : p.0 ≡ x = same_Some p.0 x (sym p.1 ∙ at) in rw same at p.2));
}

-- a change of every call that doesn't change whether one is of the kind
pub exact_map : (Q : Call → Type 0) (f : Call → Call) (calls : List Call) (is : List ℕ) → ((x : Call) → Q x → Q (f x)) → ((x : Call) → Q (f x) → Q x) → Exact Q calls is → Exact Q (map f calls) is
exact_map Q f calls is to from e = exact_kept Q calls (map f calls) is
    (λ i x g q. (f x, get-map f calls i x g, to x q))
    (λ i y g q. let p = get-map_back f calls i y g in (p.0, p.1, from p.0 (rw p.2 q)))
    e
