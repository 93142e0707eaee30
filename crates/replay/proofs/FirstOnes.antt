-- The first element that passes a test: where it is, and the list without it.
use Rattle.std.proofs.Common.{◌≡◌, ℕ, ◌+◌, ◌<◌, Bool, true, false, not, cond, if◌then◌else◌, nat_lt, List, [], ◌∷◌, ◌++◌, length, get_or, Option, Some, None, IfSome, IsSome, OnSome, MatchOption, option_to_list, ◌↔◌, refl, sym, ap, ◌∙◌, arith, suc}
use Rattle.std.specs.Prelude.{find, position, remove, is_some, slice_get}
use Rattle.std.specs.List.{position_or_len}
use Rattle.std.proofs.lemmas.Bool.{ltb-false, ltb-true, le-ltb}
use Rattle.std.proofs.lemmas.List.Folds.{find_at}
use Rattle.std.proofs.lemmas.Option.{slice_get-get_or}
use Rattle.replay.specs.Firsts.{has, without_first}

module _ {X : Type 0} (p : X → Bool) where
  -- what `position` says where it finds one, and where it finds none
  placed : (b : Bool) (n i : ℕ) → cond b (Some n) None ≡ Some i → (b ≡ true) × (n ≡ i)
  placed true n i e = (refl, cc)
  placed false n i e = absurd cc

  nowhere : (b : Bool) (n : ℕ) → cond b (Some n) None ≡ None → b ≡ false
  nowhere true n e = absurd cc
  nowhere false n e = refl

  pub place : (xs : List X) (i : ℕ) → position p xs ≡ Some i → (position_or_len p xs < length xs) × (position_or_len p xs ≡ i)
  place xs i e =
      let at = placed (nat_lt (position_or_len p xs) (length xs)) (position_or_len p xs) i e in
      (ltb-true _ _ at.0, at.1)

  rest_at : (xs : List X) → position_or_len p xs < length xs → remove xs (position_or_len p xs) ≡ without_first p xs
  rest_at [] h = absurd (omega arith)
  rest_at (x ∷ xs) h = by (p x) h (rest_at xs)
    where
      by : (b : Bool) → cond (not b) (1 + position_or_len p xs) 0 < length (x ∷ xs) → (position_or_len p xs < length xs → remove xs (position_or_len p xs) ≡ without_first p xs)
          → remove (x ∷ xs) (cond (not b) (1 + position_or_len p xs) 0) ≡ (if b then xs else x ∷ without_first p xs)
      by true h k = refl
      by false h k =
          let e : 1 + position_or_len p xs ≡ suc (position_or_len p xs) = omega arith in
          let within : position_or_len p xs < length xs = omega arith in
          rw e (ap (λ (l : List X). x ∷ l) (k within))

  pub taken_rest : (xs : List X) (i : ℕ) → position p xs ≡ Some i → remove xs i ≡ without_first p xs
  taken_rest xs i e = let at = place xs i e in ap (remove xs) (sym at.1) ∙ rest_at xs at.0

  got : (xs : List X) (i len : ℕ) (r : Option X) → i < length xs → len ≡ length xs → (IsSome r ↔ (i < len)) → IfSome r (λ y. y ≡ get_or xs i y) → r ≡ slice_get xs i
  got xs i len None h e v s = absurd (let within : i < len = omega arith in let t = v.1 within in cc)
  got xs i len (Some y) h e v s = ap Some s ∙ sym (slice_get-get_or xs i y h)

  -- what a queue's `remove` gives there, and what it leaves
  pub taken_found : (xs : List X) (i len : ℕ) (r : Option X) → position p xs ≡ Some i → len ≡ length xs → (IsSome r ↔ (i < len)) → IfSome r (λ y. y ≡ get_or xs i y) → r ≡ find p xs
  taken_found xs i len r e l v s =
      let at = place xs i e in
      let within : i < length xs = omega (arith, at.0, at.1) in
      got xs i len r within l v s ∙ ap (slice_get xs) (sym at.1) ∙ sym (find_at p xs)

  pub taken_left : (xs new : List X) (i len : ℕ) (r : Option X) → position p xs ≡ Some i → len ≡ length xs → (IsSome r ↔ (i < len)) → OnSome r (new ≡ remove xs i) → new ≡ without_first p xs
  taken_left xs new i len None e l v s =
      let at = place xs i e in
      let within : i < len = omega (arith, at.0, at.1) in
      absurd (let t = v.1 within in cc)
  taken_left xs new i len (Some y) e l v s = s ∙ taken_rest xs i e

  none_at : (xs : List X) → nat_lt (position_or_len p xs) (length xs) ≡ false → (find p xs ≡ None) × (without_first p xs ≡ xs)
  none_at [] e = (refl, refl)
  none_at (x ∷ xs) e = by (p x) e (none_at xs)
    where
      by : (b : Bool) → nat_lt (cond (not b) (1 + position_or_len p xs) 0) (length (x ∷ xs)) ≡ false
          → (nat_lt (position_or_len p xs) (length xs) ≡ false → (find p xs ≡ None) × (without_first p xs ≡ xs))
          → (cond b (Some x) (find p xs) ≡ None) × ((if b then xs else x ∷ without_first p xs) ≡ x ∷ xs)
      by true e k = let h = ltb-false _ _ e in absurd (omega (arith, h))
      by false e k =
          let h = ltb-false _ _ e in
          let beyond : nat_lt (position_or_len p xs) (length xs) ≡ false = le-ltb (position_or_len p xs) (length xs) (omega (arith, h)) in
          let there = k beyond in
          (there.0, ap (λ (l : List X). x ∷ l) there.1)

  pub none_found : (xs : List X) → position p xs ≡ None → None ≡ find p xs
  none_found xs e = sym (none_at xs (nowhere (nat_lt (position_or_len p xs) (length xs)) (position_or_len p xs) e)).0

  pub none_rest : (xs : List X) → position p xs ≡ None → xs ≡ without_first p xs
  none_rest xs e = sym (none_at xs (nowhere (nat_lt (position_or_len p xs) (length xs)) (position_or_len p xs) e)).1

  has_within : (xs : List X) → position_or_len p xs < length xs → has p xs ≡ true
  has_within [] h = absurd (omega arith)
  has_within (x ∷ xs) h = by (p x) h (has_within xs)
    where
      by : (b : Bool) → cond (not b) (1 + position_or_len p xs) 0 < length (x ∷ xs) → (position_or_len p xs < length xs → has p xs ≡ true)
          → is_some (cond b (Some x) (find p xs)) ≡ true
      by true h k = refl
      by false h k = let within : position_or_len p xs < length xs = omega arith in k within

  -- whether one passes, by where
  pub placed_has : (xs : List X) (r : Option ℕ) → r ≡ position p xs → is_some r ≡ has p xs
  placed_has xs None e = ap (λ (o : Option X). is_some o) (none_found xs (sym e))
  placed_has xs (Some i) e = sym (has_within xs (place xs i (sym e)).0)

  -- where none passes, all stay
  pub untouched : (xs : List X) → find p xs ≡ None → without_first p xs ≡ xs
  untouched [] e = refl
  untouched (x ∷ xs) e = by (p x) e (untouched xs)
    where
      by : (b : Bool) → cond b (Some x) (find p xs) ≡ None → (find p xs ≡ None → without_first p xs ≡ xs) → (if b then xs else x ∷ without_first p xs) ≡ x ∷ xs
      by true e k = absurd cc
      by false e k = ap (λ (l : List X). x ∷ l) (k e)

  none_has : (o : Option X) → is_some o ≡ false → o ≡ None
  none_has None e = refl
  none_has (Some x) e = absurd cc

  pub untouched_where_none : (xs : List X) → has p xs ≡ false → without_first p xs ≡ xs
  untouched_where_none xs e = untouched xs (none_has (find p xs) e)

-- what `pop_front` gives
pub popped : {X : Type 0} (old new : List X) (len : ℕ) (r : Option X) → old ≡ option_to_list r ++ new → len ≡ length old → (IsSome r ↔ (0 < len))
    → MatchOption r (old ≡ []) (λ x. old ≡ x ∷ new)
popped [] new len None e l v = refl
popped (x ∷ xs) new len None e l v = absurd (let some : 0 < len = omega arith in let t = v.1 some in cc)
popped old new len (Some y) e l v = e
