-- The top-level names of a body, sorted.
use Rattle.std.proofs.Common.{◌≡◌, ℕ, ◌+◌, ◌<◌, Bool, true, false, not, ◌||◌, List, [], ◌∷◌, ◌++◌, length, map, Option, Some, None, Result, Ok, Err, inl, inr, refl, sym, ap, subst, ◌∙◌, append_assoc, arith}
use Rattle.std.specs.Prelude.{is_some, is_ok, slice_index_or}
use Rattle.std.specs.Borrow.{Bor}
use Rattle.std.specs.Cmp.{IsStrictWeakOrder}
use Rattle.std.specs.Cmp.Lexicographic.{slice_cmp, nat_list_cmp_total, nat_list_eq_equiv, texts_ties}
use Rattle.std.specs.declared.cmp.Ordering.{Ordering}
use Rattle.std.specs.declared.cmp.Ordering.TheVariants.{Less, Equal, Greater}
use Rattle.std.specs.List.{AllByRecursion, IsAllAdjacentAnswer, IsDistinct, list_any}
use Rattle.std.specs.List.Sorted.{IsBinarySearchResult, IsPermutation, IsSearchInRange}
use Rattle.std.specs.Map.Iter.{deref}
use Rattle.std.specs.Ordering.{is_eq, is_lt, nat_cmp, ordering_reverse}
use Rattle.std.specs.Str.{bytes_eq}
use Rattle.std.proofs.lemmas.Bool.{cases_Bool, cases_lt}
use Rattle.std.proofs.lemmas.List.{append-nil}
use Rattle.std.proofs.lemmas.List.Folds.{list_any_at, list_any_none}
use Rattle.std.proofs.lemmas.List.Sorted.{IsPermutation-map, IsPermutation-middle, IsPermutation-sym, list_any-IsPermutation, ranks_by, searchable_from_sorted, sorted_far}
use Rattle.std.proofs.lemmas.Map.Keys.{IsDistinct-from_apart, IsDistinct-head, IsDistinct-IsPermutation, IsDistinct-push, apart_from_distinct}
use Rattle.std.proofs.lemmas.Slice.Eq.{bytes_eq-Decides}
use Rattle.bson_elem.specs.Trees.{Tree, no_pairs, leaf_pair, inner_pair}
use Rattle.bson_raw.specs.Pairs.{TreeValue, leaf_value, document_value, with_first, names_of, is_among, first_repeated}
use Rattle.wire_msg.specs.Fields.{AreSorted}
use Rattle.wire_msg.specs.Messages.{is_field}

-- ---- the names that were gone through

pub first_name : (name : List ℕ) (v : TreeValue) (others : Tree) → names_of (with_first name v others) ≡ name ∷ names_of others
first_name name (leaf_value k v) others = refl
first_name name (document_value k b inner) others = refl

-- all pairs were gone through, and then the names were sorted
pub all_sorted : (t : Tree) (names news : List (Bor (List ℕ))) (rest : Tree) → names_of t ≡ map deref names ++ names_of rest → rest ≡ no_pairs → IsPermutation names news → IsPermutation (names_of t) (map deref news)
all_sorted t names news rest so_far none p =
    let all : map deref names ≡ names_of t = sym (so_far ∙ ap (λ (r : Tree). map deref names ++ names_of r) none ∙ append-nil (map deref names)) in
    subst (λ (x : List (List ℕ)). IsPermutation x (map deref news)) all (IsPermutation-map deref names news p)

-- ---- names of which each stands once

among_any : (name : List ℕ) (names : List (List ℕ)) → list_any (bytes_eq name) names ≡ is_among name names
among_any name [] = refl
among_any name (n ∷ ns) = λ i. nat_list_eq_equiv.symm name n i || among_any name ns i

none_among : (name : List ℕ) (seen rest : List (List ℕ)) → AllByRecursion (λ n. bytes_eq name n ≡ false) (seen ++ rest) → is_among name seen ≡ false
none_among name [] rest none = refl
none_among name (n ∷ ns) rest none =
    let other : bytes_eq n name ≡ false = nat_list_eq_equiv.symm n name ∙ none.0 in
    rw other (none_among name ns rest none.1)

once_seen : (seen : List (List ℕ)) (name : List ℕ) (rest : List (List ℕ)) → IsDistinct bytes_eq (seen ++ name ∷ rest) → is_among name seen ≡ false
once_seen seen name rest d =
    let first = IsDistinct-IsPermutation bytes_eq nat_list_eq_equiv.symm (seen ++ name ∷ rest) (name ∷ (seen ++ rest)) (IsPermutation-middle seen name rest) d in
    none_among name seen rest (IsDistinct-head bytes_eq name (seen ++ rest) first)

passed : (seen : List (List ℕ)) (name : List ℕ) (rest : List (List ℕ)) → IsDistinct bytes_eq (seen ++ name ∷ rest) → IsDistinct bytes_eq ((seen ++ name ∷ []) ++ rest)
passed seen name rest d = subst (IsDistinct bytes_eq) (sym (append_assoc seen (name ∷ []) rest)) d

distinct_once : (seen : List (List ℕ)) (t : Tree) → IsDistinct bytes_eq (seen ++ names_of t) → first_repeated seen t ≡ None
distinct_once seen no_pairs d = refl
distinct_once seen (leaf_pair n k v ps) d = rw (once_seen seen n (names_of ps) d) (distinct_once (seen ++ n ∷ []) ps (passed seen n (names_of ps) d))
distinct_once seen (inner_pair n k b inner ps) d = rw (once_seen seen n (names_of ps) d) (distinct_once (seen ++ n ∷ []) ps (passed seen n (names_of ps) d))

once_distinct : (seen : List (List ℕ)) (t : Tree) → IsDistinct bytes_eq seen → first_repeated seen t ≡ None → IsDistinct bytes_eq (seen ++ names_of t)
once_distinct seen no_pairs d e = subst (IsDistinct bytes_eq) (sym (append-nil seen)) d
once_distinct seen (leaf_pair n k v ps) d e =
    elim (cases_Bool (is_among n seen)) [
      | inl found ↦ absurd (let some : Some n ≡ None = rw found at e in cc)
      | inr absent ↦ subst (IsDistinct bytes_eq) (append_assoc seen (n ∷ []) (names_of ps)) (once_distinct (seen ++ n ∷ []) ps (IsDistinct-push nat_list_eq_equiv seen n d (among_any n seen ∙ absent)) (rw absent at e))
    ]
once_distinct seen (inner_pair n k b inner ps) d e =
    elim (cases_Bool (is_among n seen)) [
      | inl found ↦ absurd (let some : Some n ≡ None = rw found at e in cc)
      | inr absent ↦ subst (IsDistinct bytes_eq) (append_assoc seen (n ∷ []) (names_of ps)) (once_distinct (seen ++ n ∷ []) ps (IsDistinct-push nat_list_eq_equiv seen n d (among_any n seen ∙ absent)) (rw absent at e))
    ]

-- ---- borrowed names and their bytes

abbrev pub is_same : Bor (List ℕ) → Bor (List ℕ) → Bool
is_same a b = bytes_eq a.now b.now

all_bytes : (P : List ℕ → Type 0) (names : List (Bor (List ℕ))) → AllByRecursion (λ b. P b.now) names → AllByRecursion P (map deref names)
all_bytes P [] all = tt
all_bytes P (b ∷ bs) all = (all.0, all_bytes P bs all.1)

all_borrowed : (P : List ℕ → Type 0) (names : List (Bor (List ℕ))) → AllByRecursion P (map deref names) → AllByRecursion (λ b. P b.now) names
all_borrowed P [] all = tt
all_borrowed P (b ∷ bs) all = (all.0, all_borrowed P bs all.1)

distinct_bytes : (names : List (Bor (List ℕ))) → IsDistinct is_same names → IsDistinct bytes_eq (map deref names)
unfolding IsDistinct
distinct_bytes [] d = tt
distinct_bytes (b ∷ bs) d = (all_bytes (λ n. bytes_eq b.now n ≡ false) bs d.0, distinct_bytes bs d.1)

distinct_borrowed : (names : List (Bor (List ℕ))) → IsDistinct bytes_eq (map deref names) → IsDistinct is_same names
unfolding IsDistinct
distinct_borrowed [] d = tt
distinct_borrowed (b ∷ bs) d = (all_borrowed (λ n. bytes_eq b.now n ≡ false) bs d.0, distinct_borrowed bs d.1)

any_bytes : (name : List ℕ) (names : List (Bor (List ℕ))) → list_any (λ (b : Bor (List ℕ)). bytes_eq b.now name) names ≡ is_among name (map deref names)
any_bytes name [] = refl
any_bytes name (b ∷ bs) = ap (λ found. bytes_eq b.now name || found) (any_bytes name bs)

-- one of the names, where there are some
one_of : (names : List (Bor (List ℕ))) (i : ℕ) → i < length names → Bor (List ℕ)
one_of [] i lt = absurd (omega (arith, lt))
one_of (b ∷ bs) i lt = b

-- ---- neighbours

abbrev pub is_below : Bor (List ℕ) → Bor (List ℕ) → Bool
is_below a b = is_lt (slice_cmp nat_cmp a.now b.now)

order : IsStrictWeakOrder is_below
order = ranks_by nat_list_cmp_total deref

rising_apart : (t : Tree) (names : List (Bor (List ℕ))) → AreSorted names t → ((k : ℕ) (d : Bor (List ℕ)) → k + 1 < length names → true ≡ is_below (slice_index_or names k d) (slice_index_or names (k + 1) d))
    → (i j : ℕ) (d : Bor (List ℕ)) → i < j → j < length names → is_same (slice_index_or names i d) (slice_index_or names j d) ≡ false
rising_apart t names s rising i j d lt room =
    let x = slice_index_or names i d in
    let y = slice_index_or names j d in
    let z = slice_index_or names (i + 1) d in
    elim (cases_Bool (is_same x y)) [
      | inl same ↦ absurd (
          let is : x.now ≡ y.now = (bytes_eq-Decides x.now y.now).0 same in
          let up : true ≡ is_below x z = rising i d (omega (arith, lt, room)) in
          let down : is_below y z ≡ false = sorted_far is_below order names s.ascending (i + 1) j d (omega (arith, lt)) room in
          let never : true ≡ false = up ∙ ap (λ (n : List ℕ). is_lt (slice_cmp nat_cmp n z.now)) is ∙ down in
          cc)
      | inr other ↦ other
    ]

tied : (o p : Ordering) → o ≡ ordering_reverse p → false ≡ is_lt o → is_lt p ≡ false → is_eq o ≡ true
tied Less p e a b = absurd cc
tied Equal p e a b = refl
tied Greater Less e a b = absurd cc
tied Greater Equal e a b = absurd cc
tied Greater Greater e a b = absurd cc

some_or : (r : Option (List ℕ)) → (r ≡ None → ⊥) → is_some r ≡ true
some_or None none = absurd (none refl)
some_or (Some name) none = refl

none_distinct : IsDistinct bytes_eq []
unfolding IsDistinct
none_distinct = tt

-- where each name is below the next, each stands once, and else one stands twice
pub rising_once : (t : Tree) (names : List (Bor (List ℕ))) → AreSorted names t → ((k : ℕ) (d : Bor (List ℕ)) → k + 1 < length names → true ≡ is_below (slice_index_or names k d) (slice_index_or names (k + 1) d)) → first_repeated [] t ≡ None
rising_once t names s rising =
    let d = distinct_bytes names (IsDistinct-from_apart is_same names (rising_apart t names s rising)) in
    distinct_once [] t (IsDistinct-IsPermutation bytes_eq nat_list_eq_equiv.symm (map deref names) (names_of t) (IsPermutation-sym (names_of t) (map deref names) s.same) d)

pub level_twice : (t : Tree) (names : List (Bor (List ℕ))) (k : ℕ) → AreSorted names t → k + 1 < length names → ((d : Bor (List ℕ)) → false ≡ is_below (slice_index_or names k d) (slice_index_or names (k + 1) d)) → is_some (first_repeated [] t) ≡ true
level_twice t names k s room level = some_or (first_repeated [] t) (λ once.
    let d = one_of names (k + 1) room in
    let x = slice_index_or names k d in
    let y = slice_index_or names (k + 1) d in
    let distinct = distinct_borrowed names (IsDistinct-IsPermutation bytes_eq nat_list_eq_equiv.symm (names_of t) (map deref names) s.same (once_distinct [] t none_distinct once)) in
    let apart : is_same x y ≡ false = apart_from_distinct is_same names k (k + 1) d distinct (omega arith) room in
    let same : is_same x y ≡ true = texts_ties x.now y.now ∙ tied (slice_cmp nat_cmp x.now y.now) (slice_cmp nat_cmp y.now x.now) (nat_list_cmp_total.antisymm x.now y.now) (level d) (s.ascending k d (omega arith) room) in
    let never : true ≡ false = sym same ∙ apart in
    cc)

-- what the test of neighbours answers
pub neighbours : (t : Tree) (names : List (Bor (List ℕ))) (r : Bool) → AreSorted names t → IsAllAdjacentAnswer (λ a b is. is ≡ is_below a b) names r → not r ≡ is_some (first_repeated [] t)
neighbours t names true s rising = sym (ap is_some (rising_once t names s rising))
neighbours t names false s level = sym (level_twice t names level.0 s level.1 level.2)

-- ---- one name

-- what the search for a name answers
pub searched : (name : List ℕ) (t : Tree) (names : List (Bor (List ℕ))) (r : Result ℕ ℕ) → AreSorted names t → IsSearchInRange r (length names) → IsBinarySearchResult (λ (b : Bor (List ℕ)). slice_cmp nat_cmp b.now name) names r → is_ok r ≡ is_field name t
searched name t names r s range result = answered r range result ∙ any_bytes name names ∙ sym (list_any-IsPermutation (λ n. bytes_eq n name) (names_of t) (map deref names) s.same)
  where
    answered : (r : Result ℕ ℕ) → IsSearchInRange r (length names) → IsBinarySearchResult (λ (b : Bor (List ℕ)). slice_cmp nat_cmp b.now name) names r → is_ok r ≡ list_any (λ (b : Bor (List ℕ)). bytes_eq b.now name) names
    answered (Ok i) room found =
        let d = one_of names i room in
        sym (list_any_at (λ (b : Bor (List ℕ)). bytes_eq b.now name) names i d room (texts_ties (slice_index_or names i d).now name ∙ ap is_eq (found d)))
    answered (Err i) room split =
        let parts = split (searchable_from_sorted nat_list_cmp_total deref names name s.ascending) in
        sym (list_any_none (λ (b : Bor (List ℕ)). bytes_eq b.now name) names (λ k d lt.
        texts_ties (slice_index_or names k d).now name ∙ elim (cases_lt k i) [
          | inl below ↦ ap is_eq (parts.0 k d (omega arith) below)
          | inr above ↦ ap is_eq (parts.1 k d above lt)
        ]))
