-- Paths that are sorted by their steps: where two of them overlap, two neighbours do.
use Rattle.std.proofs.Common.{◌≡◌, ℕ, ◌+◌, ◌<◌, Bool, true, false, not, ◌&&◌, List, [], ◌∷◌, length, map, inl, inr, refl, sym, ap, subst, ◌∙◌, arith, true≢false}
use Rattle.std.specs.Prelude.{if◌then◌else◌, slice_index_or}
use Rattle.std.specs.Borrow.{Bor}
use Rattle.std.specs.Cmp.{IsStrictWeakOrder, IsTotalOrder}
use Rattle.std.specs.Cmp.Lexicographic.{lists_total, nat_list_cmp_total, nat_list_eq_equiv, slice_cmp, texts_ties}
use Rattle.std.specs.declared.cmp.Ordering.{Ordering}
use Rattle.std.specs.declared.cmp.Ordering.TheVariants.{Less, Equal, Greater}
use Rattle.std.specs.List.{AllByRecursion, IsAllAdjacentAnswer, IsDistinct}
use Rattle.std.specs.List.Sorted.{IsPermutation, IsSortedByKey}
use Rattle.std.specs.Ordering.{is_eq, is_lt, nat_cmp, ordering_reverse, ordering_then}
use Rattle.std.specs.Str.{bytes_eq}
use Rattle.std.proofs.lemmas.Bool.{cases_Bool}
use Rattle.std.proofs.lemmas.List.Sorted.{IsPermutation-sym, ranks_by, sorted_far}
use Rattle.std.proofs.lemmas.Map.Keys.{IsDistinct-from_apart, IsDistinct-IsPermutation, apart_from_distinct}
use Rattle.std.proofs.lemmas.Slice.Eq.{bytes_eq-Decides}
use Rattle.doc_query.specs.{steps}
use Rattle.doc_update.specs.Paths.{overlap, overlap_within, overlaps_one}

-- ---- two paths

abbrev pub by_steps : List (List ℕ) → List (List ℕ) → Ordering
by_steps = slice_cmp (slice_cmp nat_cmp)

pub steps_total : IsTotalOrder by_steps
steps_total = lists_total nat_list_cmp_total

overlap_symm : (a b : List (List ℕ)) → overlap a b ≡ overlap b a
overlap_symm [] [] = refl
overlap_symm [] (r ∷ rs) = refl
overlap_symm (s ∷ ss) [] = refl
overlap_symm (s ∷ ss) (r ∷ rs) = λ i. nat_list_eq_equiv.symm s r i && overlap_symm ss rs i

first_so : (p q : Bool) → p && q ≡ true → p ≡ true
first_so true q e = refl
first_so false q e = absurd (true≢false (sym e))

second_so : (p q : Bool) → p && q ≡ true → q ≡ true
second_so true q e = e
second_so false q e = absurd (true≢false (sym e))

-- what stands between two that overlap overlaps the first
between : (a b c : List (List ℕ)) → is_lt (by_steps b a) ≡ false → is_lt (by_steps c b) ≡ false → overlap a c ≡ true → overlap a b ≡ true
between [] b c p q o = refl
between (s ∷ ss) [] c p q o = refl
between (s ∷ ss) (r ∷ rs) [] p q o = absurd (true≢false q)
between (s ∷ ss) (r ∷ rs) (t ∷ ts) p q o =
    let same : s ≡ t = (bytes_eq-Decides s t).0 (first_so (bytes_eq s t) (overlap ss ts) o) in
    go (slice_cmp nat_cmp r s) refl p
    (subst (λ (x : List ℕ). is_lt (ordering_then (slice_cmp nat_cmp x r) (by_steps ts rs)) ≡ false) (sym same) q)
    (λ down up. between ss rs ts down up (second_so (bytes_eq s t) (overlap ss ts) o))
  where
    go : (order : Ordering) → slice_cmp nat_cmp r s ≡ order → is_lt (ordering_then order (by_steps rs ss)) ≡ false
        → is_lt (ordering_then (slice_cmp nat_cmp s r) (by_steps ts rs)) ≡ false
        → (is_lt (by_steps rs ss) ≡ false → is_lt (by_steps ts rs) ≡ false → overlap ss rs ≡ true) → overlap (s ∷ ss) (r ∷ rs) ≡ true
    go Less e down up more = absurd (true≢false down)
    go Greater e down up more =
        absurd (true≢false (subst (λ (x : Ordering). is_lt (ordering_then x (by_steps ts rs)) ≡ false) (nat_list_cmp_total.antisymm s r ∙ ap ordering_reverse e) up))
    go Equal e down up more =
        let level : slice_cmp nat_cmp s r ≡ Equal = nat_list_cmp_total.antisymm s r ∙ ap ordering_reverse e in
        let first : bytes_eq s r ≡ true = texts_ties s r ∙ ap is_eq level in
        let others = more down (subst (λ (x : Ordering). is_lt (ordering_then x (by_steps ts rs)) ≡ false) level up) in
        λ i. first i && others i

-- ---- all paths

abbrev pub meet : Bor (List ℕ) → Bor (List ℕ) → Bool
meet p q = overlap (steps p.now) (steps q.now)

abbrev pub below : Bor (List ℕ) → Bor (List ℕ) → Bool
below p q = is_lt (by_steps (steps p.now) (steps q.now))

pub below_order : IsStrictWeakOrder below
below_order = ranks_by steps_total (λ (p : Bor (List ℕ)). steps p.now)

meet_symm : (p q : Bor (List ℕ)) → meet p q ≡ meet q p
meet_symm p q = overlap_symm (steps p.now) (steps q.now)

alone : (p : Bor (List ℕ)) (ps : List (Bor (List ℕ))) → AllByRecursion (λ q. meet p q ≡ false) ps → overlaps_one p.now (map (λ p. p.now) ps) ≡ false
alone p [] all = refl
alone p (q ∷ qs) all = rw all.0 (alone p qs all.1)

apart_within : (ps : List (Bor (List ℕ))) → IsDistinct meet ps → overlap_within (map (λ p. p.now) ps) ≡ false
unfolding IsDistinct
apart_within [] d = refl
apart_within (p ∷ ps) d = rw (alone p ps d.0) (apart_within ps d.1)

either : (p q : Bool) → (if p then true else q) ≡ false → (p ≡ false) × (q ≡ false)
either true q e = absurd (true≢false e)
either false q e = (refl, e)

all_alone : (p : Bor (List ℕ)) (ps : List (Bor (List ℕ))) → overlaps_one p.now (map (λ p. p.now) ps) ≡ false → AllByRecursion (λ q. meet p q ≡ false) ps
all_alone p [] e = tt
all_alone p (q ∷ qs) e =
    let both = either (meet p q) (overlaps_one p.now (map (λ p. p.now) qs)) e in
    (both.0, all_alone p qs both.1)

within_apart : (ps : List (Bor (List ℕ))) → overlap_within (map (λ p. p.now) ps) ≡ false → IsDistinct meet ps
unfolding IsDistinct
within_apart [] e = tt
within_apart (p ∷ ps) e =
    let both = either (overlaps_one p.now (map (λ p. p.now) ps)) (overlap_within (map (λ p. p.now) ps)) e in
    (all_alone p ps both.0, within_apart ps both.1)

-- ---- sorted paths

abbrev AreSorted : List (Bor (List ℕ)) → Type 0
AreSorted = IsSortedByKey (λ p. steps p.now) by_steps

far_apart : (ps : List (Bor (List ℕ))) → AreSorted ps → ((k : ℕ) (d : Bor (List ℕ)) → k + 1 < length ps → true ≡ not (meet (slice_index_or ps k d) (slice_index_or ps (k + 1) d)))
    → (i j : ℕ) (d : Bor (List ℕ)) → i < j → j < length ps → meet (slice_index_or ps i d) (slice_index_or ps j d) ≡ false
far_apart ps sorted near i j d lt room =
    let x = slice_index_or ps i d in
    let y = slice_index_or ps (i + 1) d in
    let z = slice_index_or ps j d in
    elim (cases_Bool (meet x z)) [
      | inl met ↦ absurd (
          let up : below y x ≡ false = sorted i d (omega arith) (omega (arith, lt, room)) in
          let further : below z y ≡ false = sorted_far below below_order ps sorted (i + 1) j d (omega (arith, lt)) room in
          let next : meet x y ≡ true = between (steps x.now) (steps y.now) (steps z.now) up further met in
          true≢false (near i d (omega (arith, lt, room)) ∙ ap not next))
      | inr apart ↦ apart
    ]

not_false : (b : Bool) → (b ≡ false → ⊥) → true ≡ b
not_false true h = refl
not_false false h = absurd (h refl)

-- what the test of neighbours answers
pub neighbours : (olds news : List (Bor (List ℕ))) (r : Bool) → IsPermutation olds news → AreSorted news → IsAllAdjacentAnswer (λ p q is. is ≡ not (meet p q)) news r → not r ≡ overlap_within (map (λ p. p.now) olds)
neighbours olds news true moved sorted near =
    let d = IsDistinct-from_apart meet news (far_apart news sorted near) in
    sym (apart_within olds (IsDistinct-IsPermutation meet meet_symm news olds (IsPermutation-sym olds news moved) d))
neighbours olds news false moved sorted met =
    not_false (overlap_within (map (λ p. p.now) olds)) (λ none.
    let k = met.0 in
    let room : k + 1 < length news = met.1 in
    let d = IsDistinct-IsPermutation meet meet_symm olds news moved (within_apart olds none) in
    let e = one_of news k (omega (arith, room)) in
    let apart : meet (slice_index_or news k e) (slice_index_or news (k + 1) e) ≡ false = apart_from_distinct meet news k (k + 1) e d (omega arith) room in
    true≢false (sym (met.2 e ∙ ap not apart)))
  where
    one_of : (ps : List (Bor (List ℕ))) (i : ℕ) → i < length ps → Bor (List ℕ)
    one_of [] i lt = absurd (omega (arith, lt))
    one_of (p ∷ ps) i lt = p
