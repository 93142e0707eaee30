-- Marks of used ids: one more, and what all of them say.
use Rattle.std.proofs.Common.{◌≡◌, ◌≢◌, ◌⊎◌, inl, inr, ℕ, zero, suc, ◌+◌, ◌<◌, ◌≤◌, ℤ, pos, Bool, true, false, refl, sym, ap, ◌∙◌, List, [], ◌∷◌, Contains, count_by, get_or, set, length, replicate, cond, arith}
use Rattle.std.proofs.Math.Decide.{dec_lt}
use Rattle.std.proofs.lemmas.List.{get_or-set_same, get_or-set_other, get_or_default, get_or-replicate, length-replicate}
use Rattle.std.proofs.lemmas.Bool.{false≢true}
use Rattle.std.proofs.Math.ListN.{get_or-eq_default}
use Rattle.std.proofs.lemmas.List.Sums.{sum_by-cons, sum_by-set}
use Rattle.std.proofs.lemmas.Grind.{common_steps}
use Rattle.wire_peer.specs.FreeIds.{id_past, IsFirstFree}
use Rattle.wire_peer.specs.Marking.{Marks, IsMarkedAt, places}

-- two places are one, or aren't
pub same_or_not : (j k : ℕ) → (j ≡ k) ⊎ (j ≢ k)
same_or_not j k =
    elim (dec_lt j k) [
      | yes p ↦ inr (λ e. omega arith)
      | no p ↦ elim (dec_lt k j) [
        | yes q ↦ inr (λ e. omega arith)
        | no q ↦ inl (omega arith)
      ]
    ]

-- where all places are marked, as many are as there are
pub count_full : (marks : List Bool) → ((k : ℕ) → k < length marks → get_or marks k false ≡ true) → count_by (λ b. b) marks ≡ length marks
count_full [] all = refl
count_full (true ∷ bs) all =
    let here : count_by (λ (b : Bool). b) (true ∷ bs) ≡ 1 + count_by (λ (b : Bool). b) bs = sum_by-cons (λ b. cond b 1 0) true bs in
    let rest : count_by (λ (b : Bool). b) bs ≡ length bs = count_full bs (λ k lt. all (suc k) (omega arith)) in
    omega arith
count_full (false ∷ bs) all = absurd (false≢true (all 0 (omega arith)))

-- nothing more is marked
pub no_mark : (next id : ℤ) (marks : List Bool) → ((k : ℕ) → k < places → id ≡ id_past next k → ⊥) → Marks next id marks marks
no_mark next id marks none = record {
  room = refl;
  few = omega arith;
  kept = λ k m. m;
  marked = λ k lt e. absurd (none k lt e);
  no_other = λ k m. inl m;
}

-- one more is
pub one_mark : (next id : ℤ) (marks : List Bool) (place : ℕ) → place < length marks → id ≡ id_past next place
    → ((k : ℕ) → k < places → id ≡ id_past next k → place ≡ k) → Marks next id marks (set marks place true)
one_mark next id marks place lt is one = record {
  room = grind (arith, common_steps);
  few = grind (arith, sum_by-set (λ b. cond b 1 0) marks place true false lt);
  kept = λ k m. elim (same_or_not k place) [
    | inl e ↦ ap (λ j. get_or (set marks place true) j false) e ∙ get_or-set_same marks place true false lt
    | inr n ↦ get_or-set_other marks place k true false n ∙ m
  ];
  marked = λ k l e. ap (λ j. get_or (set marks place true) j false) (sym (one k l e)) ∙ get_or-set_same marks place true false lt;
  no_other = λ k m. elim (same_or_not k place) [
    | inl e ↦ inr (is ∙ ap (id_past next) (sym e))
    | inr n ↦ inl (sym (get_or-set_other marks place k true false n) ∙ m)
  ];
}

-- ---- all used ids

-- the places of the first so many of the used ids are marked, and no other ones
pub record AreMarked (next : ℤ) (used : List ℤ) (n : ℕ) (marks : List Bool) : Type 0 where
  pub room : length marks ≡ places
  pub few : count_by (λ b. b) marks ≤ n
  pub sound : (k : ℕ) → IsMarkedAt marks k → Contains used (id_past next k)
  pub all : (i k : ℕ) → i < n → k < places → get_or used i (pos 0) ≡ id_past next k → IsMarkedAt marks k

unmarked : (n k : ℕ) → get_or (replicate n false) k false ≡ true → ⊥
unmarked n k m =
    elim (dec_lt k n) [
      | yes p ↦ false≢true (sym (get_or-replicate n k false false p) ∙ m)
      | no p ↦ false≢true (sym (get_or-eq_default (replicate n false) false {n = k} (omega (arith, length-replicate n false))) ∙ m)
    ]

none_counted : (n : ℕ) → count_by (λ b. b) (replicate n false) ≡ 0
none_counted zero = refl
none_counted (suc n) = sum_by-cons (λ b. cond b 1 0) false (replicate n false) ∙ omega (arith, none_counted n)

pub none_marked : (next : ℤ) (used : List ℤ) → AreMarked next used 0 (replicate 1025 false)
none_marked next used = record {
  room = length-replicate 1025 false;
  few = omega (arith, none_counted 1025);
  sound = λ k m. absurd (unmarked 1025 k m);
  all = λ i k lt _ _. absurd (omega arith);
}

pub one_more : (next : ℤ) (used : List ℤ) (n : ℕ) (id : ℤ) (old new : List Bool) → n < length used → id ≡ get_or used n (pos 0)
    → AreMarked next used n old → Marks next id old new → AreMarked next used (n + 1) new
one_more next used n id old new lt is a m = record {
  room = m.room ∙ a.room;
  few = omega (arith, m.few, a.few);
  sound = λ k marked. elim (m.no_other k marked) [
    | inl before ↦ a.sound k before
    | inr now ↦ (n, lt, get_or_default used n (id_past next k) (pos 0) lt ∙ sym is ∙ now)
  ];
  all = λ i k less small e. elim (dec_lt i n) [
    | yes p ↦ m.kept k (a.all i k p small e)
    | no p ↦ m.marked k small (is ∙ ap (λ j. get_or used j (pos 0)) (omega arith) ∙ e)
  ];
}

-- the first place that isn't marked has the first free id
pub first_free : (next : ℤ) (used : List ℤ) (marks : List Bool) (place : ℕ) (id : ℤ) → AreMarked next used (length used) marks → place < length marks
    → get_or marks place false ≡ false → ((k : ℕ) → k < place → get_or marks k false ≡ true) → id ≡ id_past next place → IsFirstFree next used id
first_free next used marks place id a lt unmarked before is = record {
  places = place;
  is = is;
  free = λ c. false≢true (sym unmarked ∙ a.all c.0 place c.1 (omega (arith, a.room)) (get_or_default used c.0 (pos 0) id c.1 ∙ c.2 ∙ is));
  before = λ k less. a.sound k (before k less);
}
