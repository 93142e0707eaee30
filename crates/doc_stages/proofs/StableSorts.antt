-- A stable sort by a total order is the insertion sort.
use Rattle.std.proofs.Common.{◌≡◌, suc, Bool, true, false, cond, not, ◌&&◌, List, [], ◌∷◌, map, filter, Ordering, Less, Equal, Greater, is_lt, is_gt, is_eq, refl, sym, ap, ap₂, ◌∙◌, subst, arith, add-one, true≢false}
use Rattle.std.specs.Cmp.{IsTotalOrder}
use Rattle.std.specs.Ordering.{ordering_reverse, on}
use Rattle.std.specs.List.Sorted.{IsSorted, IsStable, ties}
use Rattle.std.proofs.lemmas.Cmp.{tied_itself, tied_back, upto}
use Rattle.doc_stages.specs.Sorting.{insert_sorted, sorted}

head_or : {X : Type 0} → X → List X → X
head_or d [] = d
head_or d (x ∷ xs) = x

rest : {X : Type 0} → List X → List X
rest [] = []
rest (x ∷ xs) = xs

is_empty : {X : Type 0} → List X → Bool
is_empty [] = true
is_empty (x ∷ xs) = false

same_head : {X : Type 0} (x y : X) (xs ys : List X) → x ∷ xs ≡ y ∷ ys → x ≡ y
unfolding head_or
same_head x y xs ys e = ap (head_or x) e

same_rest : {X : Type 0} (x y : X) (xs ys : List X) → x ∷ xs ≡ y ∷ ys → xs ≡ ys
unfolding rest
same_rest x y xs ys e = ap rest e

not_empty : {X : Type 0} (x : X) (xs : List X) → x ∷ xs ≡ [] → ⊥
unfolding is_empty
not_empty x xs e = true≢false (sym (ap is_empty e))

module _ {X : Type 0} (cmp : X → X → Ordering) (total : IsTotalOrder cmp) where
  abbrev AtMost : X → X → Type 0
  AtMost x y = is_gt (cmp x y) ≡ false

  abbrev Below : X → List X → Type 0
  Below x [] = Unit {0}
  Below x (y ∷ ys) = AtMost x y × Below x ys

  abbrev Up : List X → Type 0
  Up [] = Unit {0}
  Up (x ∷ xs) = Below x xs × Up xs

  -- what ties with z
  abbrev alike : X → X → Bool
  alike z w = is_eq (cmp z w)

  -- ---- the tests

  neither : (o : Ordering) → not (is_lt o) && not (is_lt (ordering_reverse o)) ≡ is_eq o
  neither Less = refl
  neither Equal = refl
  neither Greater = refl

  ties_alike : (z w : X) → ties (λ x y. is_lt (cmp x y)) z w ≡ alike z w
  ties_alike z w = ap (λ o. not (is_lt (cmp z w)) && not (is_lt o)) (total.antisymm w z) ∙ neither (cmp z w)

  alike_equal : (o : Ordering) → is_eq o ≡ true → o ≡ Equal
  alike_equal Less e = absurd (true≢false (sym e))
  alike_equal Equal e = refl
  alike_equal Greater e = absurd (true≢false (sym e))

  turned_at_most : (o : Ordering) → is_gt o ≡ true → is_gt (ordering_reverse o) ≡ false
  turned_at_most Less e = absurd (true≢false (sym e))
  turned_at_most Equal e = refl
  turned_at_most Greater e = refl

  not_less : (o : Ordering) → is_lt o ≡ false → is_gt (ordering_reverse o) ≡ false
  not_less Less e = absurd (true≢false e)
  not_less Equal e = refl
  not_less Greater e = refl

  itself : (z : X) → alike z z ≡ true
  itself z = ap is_eq (tied_itself total z)

  -- two that tie with z tie with each other
  both_alike : (z v w : X) → alike z v ≡ true → alike z w ≡ true → is_gt (cmp v w) ≡ false
  both_alike z v w p q =
      ap is_gt (total.congr v z w (tied_back total z v (alike_equal (cmp z v) p)) ∙ alike_equal (cmp z w) q)

  -- ---- what is sorted is in order from each element on

  below_further : (x y : X) (ys : List X) → AtMost x y → Below y ys → Below x ys
  below_further x y [] h b = tt
  below_further x y (w ∷ ws) h b = (upto total x y w h b.0, below_further x y ws h b.1)

  below_all : (x : X) (ys : List X) → IsSorted cmp (x ∷ ys) → Up ys → Below x ys
  below_all x [] s up = tt
  below_all x (y ∷ ys) s up =
      let first : AtMost x y = ap is_gt (total.antisymm x y) ∙ not_less (cmp y x) (s 0 x (omega arith) (omega arith)) in
      (first, below_further x y ys first up.0)

  up_from_sorted : (xs : List X) → IsSorted cmp xs → Up xs
  up_from_sorted [] s = tt
  up_from_sorted (x ∷ xs) s =
      let tail : IsSorted cmp xs = λ k d p q. rw add-one (rw add-one at (s (suc k) d (omega arith) (omega arith))) in
      let up = up_from_sorted xs tail in
      (below_all x xs s up, up)

  -- ---- the insertion sort is in order

  below_insert : (x v : X) (ws : List X) → AtMost x v → Below x ws → Below x (insert_sorted cmp v ws)
  below_insert x v [] h b = (h, tt)
  below_insert x v (w ∷ ws) h b = go (is_gt (cmp v w)) (below_insert x v ws h b.1)
    where
      go : (t : Bool) → Below x (insert_sorted cmp v ws) → Below x (cond t (w ∷ insert_sorted cmp v ws) (v ∷ w ∷ ws))
      go true more = (b.0, more)
      go false more = (h, b)

  up_insert : (v : X) (ws : List X) → Up ws → Up (insert_sorted cmp v ws)
  up_insert v [] up = (tt, tt)
  up_insert v (w ∷ ws) up = go (is_gt (cmp v w)) refl (up_insert v ws up.1)
    where
      go : (t : Bool) → is_gt (cmp v w) ≡ t → Up (insert_sorted cmp v ws) → Up (cond t (w ∷ insert_sorted cmp v ws) (v ∷ w ∷ ws))
      go true e more = (below_insert w v ws (ap is_gt (total.antisymm w v) ∙ turned_at_most (cmp v w) e) up.0, more)
      go false e more = ((e, below_further v w ws e up.0), up)

  up_sorted : (xs : List X) → Up (sorted cmp xs)
  up_sorted [] = tt
  up_sorted (x ∷ xs) = up_insert x (sorted cmp xs) (up_sorted xs)

  -- ---- it keeps those that tie in their order

  apart : (v w : X) (l : List X) (s t : Bool) → (s ≡ true → t ≡ true → ⊥)
      → cond t (w ∷ cond s (v ∷ l) l) (cond s (v ∷ l) l) ≡ cond s (v ∷ cond t (w ∷ l) l) (cond t (w ∷ l) l)
  apart v w l true true h = absurd (h refl refl)
  apart v w l true false h = refl
  apart v w l false true h = refl
  apart v w l false false h = refl

  kept_insert : (z v : X) (ws : List X) → filter (alike z) (insert_sorted cmp v ws) ≡ filter (alike z) (v ∷ ws)
  kept_insert z v [] = refl
  kept_insert z v (w ∷ ws) = go (is_gt (cmp v w)) refl (kept_insert z v ws)
    where
      go : (t : Bool) → is_gt (cmp v w) ≡ t → filter (alike z) (insert_sorted cmp v ws) ≡ filter (alike z) (v ∷ ws)
          → filter (alike z) (cond t (w ∷ insert_sorted cmp v ws) (v ∷ w ∷ ws)) ≡ filter (alike z) (v ∷ w ∷ ws)
      go true e more =
          ap (λ (l : List X). cond (alike z w) (w ∷ l) l) more
          ∙ apart v w (filter (alike z) ws) (alike z v) (alike z w) (λ p q. true≢false (sym e ∙ both_alike z v w p q))
      go false e more = refl

  kept_sorted : (z : X) (xs : List X) → filter (alike z) (sorted cmp xs) ≡ filter (alike z) xs
  kept_sorted z [] = refl
  kept_sorted z (x ∷ xs) =
      kept_insert z x (sorted cmp xs) ∙ ap (λ (l : List X). cond (alike z x) (x ∷ l) l) (kept_sorted z xs)

  -- ---- and so is each other list that does both

  beyond : (x y w : X) → cmp x y ≡ Less → AtMost y w → alike x w ≡ false
  beyond x y w less most = go (cmp x w) refl
    where
      go : (o : Ordering) → cmp x w ≡ o → is_eq o ≡ false
      go Less e = refl
      go Equal e = absurd (true≢false (sym (ap is_gt (total.antisymm y x ∙ ap ordering_reverse less)) ∙ upto total y w x most (ap is_gt (tied_back total x w e))))
      go Greater e = refl

  none_alike : (x y : X) (ws : List X) → cmp x y ≡ Less → Below y ws → filter (alike x) ws ≡ []
  none_alike x y [] less b = refl
  none_alike x y (w ∷ ws) less b =
      ap (λ (t : Bool). cond t (w ∷ filter (alike x) ws) (filter (alike x) ws)) (beyond x y w less b.0) ∙ none_alike x y ws less b.1

  -- a list with x does not keep the same as one that is all above x
  no_less : (x y : X) (xs ys : List X) → cmp x y ≡ Less → Below y ys → filter (alike x) (x ∷ xs) ≡ filter (alike x) (y ∷ ys) → ⊥
  no_less x y xs ys less b same =
      not_empty x (filter (alike x) xs)
      (sym (ap (λ (t : Bool). cond t (x ∷ filter (alike x) xs) (filter (alike x) xs)) (itself x)) ∙ same
      ∙ none_alike x y (y ∷ ys) less (ap is_gt (tied_itself total y), b))

  kept_rest : (t : Bool) (x : X) (us vs : List X) → cond t (x ∷ us) us ≡ cond t (x ∷ vs) vs → us ≡ vs
  kept_rest true x us vs e = same_rest x x us vs e
  kept_rest false x us vs e = e

  one_order : (xs ys : List X) → Up xs → Up ys → ((z : X) → filter (alike z) xs ≡ filter (alike z) ys) → xs ≡ ys
  one_order [] [] a b same = refl
  one_order [] (y ∷ ys) a b same =
      absurd (not_empty y (filter (alike y) ys) (sym (ap (λ (t : Bool). cond t (y ∷ filter (alike y) ys) (filter (alike y) ys)) (itself y)) ∙ sym (same y)))
  one_order (x ∷ xs) [] a b same =
      absurd (not_empty x (filter (alike x) xs) (sym (ap (λ (t : Bool). cond t (x ∷ filter (alike x) xs) (filter (alike x) xs)) (itself x)) ∙ same x))
  one_order (x ∷ xs) (y ∷ ys) a b same = go (cmp x y) refl (one_order xs ys a.1 b.1)
    where
      go : (o : Ordering) → cmp x y ≡ o → (((z : X) → filter (alike z) xs ≡ filter (alike z) ys) → xs ≡ ys) → x ∷ xs ≡ y ∷ ys
      go Less e more = absurd (no_less x y xs ys e b.0 (same x))
      go Greater e more = absurd (no_less y x ys xs (total.antisymm y x ∙ ap ordering_reverse e) a.0 (sym (same y)))
      go Equal e more =
          let head : x ≡ y =
          same_head x y (filter (alike x) xs) (filter (alike x) ys)
          (sym (ap (λ (t : Bool). cond t (x ∷ filter (alike x) xs) (filter (alike x) xs)) (itself x)) ∙ same x
          ∙ ap (λ (t : Bool). cond t (y ∷ filter (alike x) ys) (filter (alike x) ys)) (ap is_eq e)) in
          ap₂ ◌∷◌ head
          (more (λ z. kept_rest (alike z x) x (filter (alike z) xs) (filter (alike z) ys)
          (same z ∙ ap (λ (u : X). cond (alike z u) (u ∷ filter (alike z) ys) (filter (alike z) ys)) (sym head))))

  kept_alike : (xs ys : List X) → IsStable cmp xs ys → (z : X) → filter (alike z) ys ≡ filter (alike z) xs
  kept_alike xs ys stable z =
      subst (λ (p : X → Bool). filter p ys ≡ filter p xs) (λ i w. ties_alike z w i) (stable z)

  pub sorted_is : (xs ys : List X) → IsSorted cmp ys → IsStable cmp xs ys → ys ≡ sorted cmp xs
  sorted_is xs ys s stable =
      one_order ys (sorted cmp xs) (up_from_sorted ys s) (up_sorted xs) (λ z. kept_alike xs ys stable z ∙ sym (kept_sorted z xs))

insert_sorted-map : {A B : Type 0} (cmp : B → B → Ordering) (f : A → B) (v : A) (ws : List A) → insert_sorted cmp (f v) (map f ws) ≡ map f (insert_sorted (on f cmp) v ws)
insert_sorted-map cmp f v [] = refl
insert_sorted-map cmp f v (w ∷ ws) = go (is_gt (cmp (f v) (f w))) (insert_sorted-map cmp f v ws)
  where
    go : (t : Bool) → insert_sorted cmp (f v) (map f ws) ≡ map f (insert_sorted (on f cmp) v ws)
        → cond t (f w ∷ insert_sorted cmp (f v) (map f ws)) (f v ∷ f w ∷ map f ws) ≡ map f (cond t (w ∷ insert_sorted (on f cmp) v ws) (v ∷ w ∷ ws))
    go true more = ap (λ l. f w ∷ l) more
    go false more = refl

pub sorted-map : {A B : Type 0} (cmp : B → B → Ordering) (f : A → B) (xs : List A) → sorted cmp (map f xs) ≡ map f (sorted (on f cmp) xs)
sorted-map cmp f [] = refl
sorted-map cmp f (x ∷ xs) = ap (insert_sorted cmp (f x)) (sorted-map cmp f xs) ∙ insert_sorted-map cmp f x (sorted (on f cmp) xs)
