-- Codes in a table.
use Rattle.std.proofs.Common.{cond, ◌*◌, ◌%◌, ◌^◌, ◌≡◌, ◌∙◌, ◌-◌, ◌<◌, ◌≤◌, ◌⊎◌, inl, inr, ℕ, Bool, true, false, ◌==◌, List, get_or, length, refl, sym, ap, subst, arith, ltb, ltb-true, ltb-false, eqb-true, eq-eqb, get_or-set_same, get_or-set_other, length-set}
use Rattle.std.specs.Prelude.{slice_set, IsTrue, bit_xor}
use Rattle.std.specs.Hash.FoldHasher.{finish, initial, write}
use Rattle.std.proofs.lemmas.Bool.Decides.{nat_tests}
use Rattle.std.specs.Bool.{MatchBool}
use Rattle.std.proofs.lemmas.Bool.{true≢false}
use Rattle.bson_json_read.specs.Seen.{Has, IsPacked, IsPutFrom, IsSeen, Keeps, StandsAt, code_of, first_place}

same_or : (k at : ℕ) → (k ≡ at) ⊎ (k ≡ at → ⊥)
same_or k at = decided (k == at) refl
  where
    decided : (b : Bool) → (k == at) ≡ b → (k ≡ at) ⊎ (k ≡ at → ⊥)
    decided true e = inl (eqb-true k at e)
    decided false e = inr (λ p. true≢false (sym (eq-eqb k at p) ∙ e))

-- what is not empty stays so
some : (xs : List ℕ) (at v k : ℕ) → at < length xs → 0 < v → 0 < get_or xs k 0 → 0 < get_or (slice_set xs at v) k 0
some xs at v k lt pos h =
    by_cases (same_or k at)
  where
    by_cases : (k ≡ at) ⊎ (k ≡ at → ⊥) → 0 < get_or (slice_set xs at v) k 0
    by_cases (inl e) = let is : get_or (slice_set xs at v) k 0 ≡ v = ap (λ (j : ℕ). get_or (slice_set xs at v) j 0) e ∙ get_or-set_same xs at v 0 lt in omega (arith, is)
    by_cases (inr n) = omega (arith, get_or-set_other xs at k v 0 n)

stands : (xs : List ℕ) (at v i c : ℕ) → at < length xs → 0 < v → StandsAt xs i c → StandsAt (slice_set xs at v) i c
stands xs at v i c lt pos s =
    let long : length (slice_set xs at v) ≡ length xs = length-set xs at v in
    let same : first_place (length (slice_set xs at v) - 64) c ≡ first_place (length xs - 64) c = ap (λ (n : ℕ). first_place (n - 64) c) long in
    record {
      first = omega (arith, same, s.first);
      between = λ k low high. some xs at v k lt pos (s.between k (omega (arith, same)) high);
    }

-- the new code stands behind places that are taken
new_stands : (first code : ℕ) (old new : List ℕ) (p : IsPutFrom first code old new) → 0 < code → first ≡ first_place (length old - 64) code → StandsAt old p.at code
new_stands first code old new p pos is = record {
  first = omega (arith, p.low);
  between = λ k low high. (p.taken k (omega arith) high).0;
}

put_packed : (first code : ℕ) (old new : List ℕ) → IsPutFrom first code old new → 0 < code → first ≡ first_place (length old - 64) code → IsPacked old → IsPacked new
put_packed first code old new p pos is packed = subst IsPacked (sym p.put) (λ i h. by_cases i h (same_or i p.at))
  where
    by_cases : (i : ℕ) → 0 < get_or (slice_set old p.at code) i 0 → (i ≡ p.at) ⊎ (i ≡ p.at → ⊥) → StandsAt (slice_set old p.at code) i (get_or (slice_set old p.at code) i 0)
    by_cases i h (inl e) =
        let there : code ≡ get_or (slice_set old p.at code) i 0 = sym (ap (λ (j : ℕ). get_or (slice_set old p.at code) j 0) e ∙ get_or-set_same old p.at code 0 p.high) in
        subst (λ (c : ℕ). StandsAt (slice_set old p.at code) i c) there
        (subst (λ (j : ℕ). StandsAt (slice_set old p.at code) j code) (sym e) (stands old p.at code p.at code p.high pos (new_stands first code old new p pos is)))
    by_cases i h (inr n) =
        let kept : get_or (slice_set old p.at code) i 0 ≡ get_or old i 0 = get_or-set_other old p.at i code 0 n in
        subst (λ (c : ℕ). StandsAt (slice_set old p.at code) i c) (sym kept) (stands old p.at code i (get_or old i 0) p.high pos (packed i (omega (arith, kept))))

pub is_packed : (b : Bool) (first code : ℕ) (old new : List ℕ) → MatchBool b (IsPutFrom first code old new) (new ≡ old) → 0 < code → first ≡ first_place (length old - 64) code → IsPacked old → IsPacked new
is_packed true first code old new p pos is packed = put_packed first code old new p pos is packed
is_packed false first code old new e pos is packed = subst IsPacked (sym e) packed

below_or : (i at : ℕ) → (i < at) ⊎ (at ≤ i)
below_or i at = decided (ltb i at) refl
  where
    decided : (b : Bool) → ltb i at ≡ b → (i < at) ⊎ (at ≤ i)
    decided true e = inl (ltb-true i at e)
    decided false e = inr (ltb-false i at e)

-- a code that stands nowhere from its first place on to an empty one isn't there
absent : (first code : ℕ) (old new : List ℕ) → IsPutFrom first code old new → 0 < code → first ≡ first_place (length old - 64) code → IsPacked old → Has old code → ⊥
absent first code old new p pos is packed (i, e) = placed (subst (λ (c : ℕ). StandsAt old i c) e (packed i (omega arith))) (below_or i p.at) (same_or i p.at)
  where
    placed : StandsAt old i code → (i < p.at) ⊎ (p.at ≤ i) → (i ≡ p.at) ⊎ (i ≡ p.at → ⊥) → ⊥
    placed s (inl lt) same = (p.taken i (omega (arith, s.first)) lt).1 e
    placed s (inr le) (inl same) = omega (arith, ap (λ (j : ℕ). get_or old j 0) same, p.empty)
    placed s (inr le) (inr other) =
        let behind : p.at < i = omega (arith, other) in
        omega (arith, s.between p.at (omega (arith, p.low)) behind, p.empty)

-- a code that is there stays so
stays : (first code : ℕ) (old new : List ℕ) → IsPutFrom first code old new → Keeps old new
stays first code old new p c pos (i, e) = placed (same_or i p.at)
  where
    placed : (i ≡ p.at) ⊎ (i ≡ p.at → ⊥) → Has new c
    placed (inl same) = absurd (omega (arith, ap (λ (j : ℕ). get_or old j 0) same, p.empty))
    placed (inr other) = (i, ap (λ (l : List ℕ). get_or l i 0) p.put ∙ get_or-set_other old p.at i code 0 other ∙ e)

pub is_seen : (b : Bool) (first code : ℕ) (old new : List ℕ) → IsTrue b → MatchBool b (IsPutFrom first code old new) (new ≡ old) → 0 < code → first ≡ first_place (length old - 64) code → IsPacked old
    → IsSeen old new code
is_seen true first code old new t p pos is packed = record {
  absent = absent first code old new p pos is packed;
  there = (p.at, ap (λ (l : List ℕ). get_or l p.at 0) p.put ∙ get_or-set_same old p.at code 0 p.high);
  kept = stays first code old new p;
}
is_seen false first code old new t e pos is packed = absurd (true≢false (sym t))

-- no code is 0
pub some_code : (offset : ℕ) (name : List ℕ) → 0 < code_of offset name
unfolding code_of
some_code offset name = above (bit_xor (finish (write initial name)) ((offset * 0x9e37_79b9_7f4a_7c15) % 2 ^ 64))
  where
    above : (code : ℕ) → 0 < cond (code == 0) 1 code
    above code = grind (arith, nat_tests)

-- a code that was put stands there still
pub seen_on : (old mid new : List ℕ) (code : ℕ) → IsSeen old mid code → 0 < code → Keeps mid new → IsSeen old new code
seen_on old mid new code seen some kept = record {
  absent = seen.absent;
  there = kept code some seen.there;
  kept = λ c pos has. kept c pos (seen.kept c pos has);
}
