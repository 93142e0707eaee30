-- The laws of matching, by induction on what happens.
use Rattle.std.proofs.Common.{◌≡◌, ◌⊎◌, inl, inr, ◌++◌, ◌∙◌, ℕ, Bool, true, false, cond, if◌then◌else◌, List, [], ◌∷◌, Option, Some, None, map, refl, sym, ap, subst, append-nil, append_assoc}
use Rattle.std.specs.Prelude.{nat_le}
use Rattle.std.proofs.lemmas.Bool.{both_ways, eqb-false, eqb-true}
use Rattle.replay.specs.declared.answers.Answer.{Answer}
use Rattle.replay.specs.declared.finding.Finding.{Finding}
use Rattle.replay.specs.declared.finding.Finding.TheVariants as found
use Rattle.replay.specs.Matchings.{Seen, beyond, count_of, first_to, has_id, is_to, left_by, matched, not_past, nothing, open_behind, paired, past, stays, within, without_first_to, without_id}
use Rattle.replay.specs.MatchingRuns.{Act, IsOneSided, after_acts, bytes_to, found_by, read_by, read_in, recorded_by, recorded_in, step}
use Rattle.replay.specs.MatchingRuns as runs

-- ---- lists

bytes_to-append : (r : ℕ) (xs ys : List Answer) → bytes_to r (xs ++ ys) ≡ bytes_to r xs ++ bytes_to r ys
bytes_to-append r [] ys = refl
bytes_to-append r (x ∷ xs) ys = by (is_to r x) (bytes_to-append r xs ys)
  where
    by : (b : Bool) → bytes_to r (xs ++ ys) ≡ bytes_to r xs ++ bytes_to r ys
        → (if b then x.bytes.items ∷ bytes_to r (xs ++ ys) else bytes_to r (xs ++ ys)) ≡ (if b then x.bytes.items ∷ bytes_to r xs else bytes_to r xs) ++ bytes_to r ys
    by true e = ap (λ (l : List (List ℕ)). x.bytes.items ∷ l) e
    by false e = e

recorded_by-append : (xs ys : List Finding) → recorded_by (xs ++ ys) ≡ recorded_by xs ++ recorded_by ys
recorded_by-append [] ys = refl
recorded_by-append (x ∷ xs) ys = ap (λ (l : List Answer). recorded_in x ++ l) (recorded_by-append xs ys) ∙ sym (append_assoc (recorded_in x) (recorded_by xs) (recorded_by ys))

none_behind : (xs ys : List (List ℕ)) → xs ++ ys ≡ [] → ys ≡ []
none_behind [] ys e = e
none_behind (x ∷ xs) ys e = absurd cc

-- ---- the first answer to a request

is_first : (q : ℕ) (zs : List Answer) (a : Answer) → first_to q zs ≡ Some a → is_to q a ≡ true
is_first q [] a e = absurd cc
is_first q (x ∷ xs) a e = by (is_to q x) refl e (is_first q xs a)
  where
    by : (b : Bool) → is_to q x ≡ b → cond b (Some x) (first_to q xs) ≡ Some a → (first_to q xs ≡ Some a → is_to q a ≡ true) → is_to q a ≡ true
    by true t e k = let same : x ≡ a = cc in subst (λ (y : Answer). is_to q y ≡ true) same t
    by false t e k = k e

-- an answer to one request is to no other
apart : (q r : ℕ) (x a : Answer) → is_to q x ≡ false → is_to r x ≡ true → is_to q a ≡ true → is_to r a ≡ false
apart q r x a e f g = by (is_to r a) refl
  where
    by : (b : Bool) → is_to r a ≡ b → b ≡ false
    by true h =
        let xr : x.request ≡ r = eqb-true x.request r f in
        let aq : a.request ≡ q = eqb-true a.request q g in
        let ar : a.request ≡ r = eqb-true a.request r h in
        absurd (eqb-false x.request q e (xr ∙ sym ar ∙ aq))
    by false h = refl

same_request : (r : ℕ) (a : Answer) → is_to r a ≡ true → a.request ≡ r
same_request r a e = eqb-true a.request r e

-- the first answer to a request, and then the others
first_one : (q r : ℕ) (zs : List Answer) (a : Answer) → first_to q zs ≡ Some a → bytes_to r (a ∷ []) ++ bytes_to r (without_first_to q zs) ≡ bytes_to r zs
first_one q r [] a e = absurd cc
first_one q r (x ∷ xs) a e = by (is_to q x) refl e (first_one q r xs a)
  where
    at_first : (b : Bool) → (if b then x.bytes.items ∷ [] else []) ++ bytes_to r xs ≡ (if b then x.bytes.items ∷ bytes_to r xs else bytes_to r xs)
    at_first true = refl
    at_first false = refl

    behind : (c d : Bool) → is_to r x ≡ c → is_to r a ≡ d → is_to q x ≡ false → first_to q xs ≡ Some a
        → (if d then a.bytes.items ∷ [] else []) ++ bytes_to r (without_first_to q xs) ≡ bytes_to r xs
        → (if d then a.bytes.items ∷ [] else []) ++ (if c then x.bytes.items ∷ bytes_to r (without_first_to q xs) else bytes_to r (without_first_to q xs))
        ≡ (if c then x.bytes.items ∷ bytes_to r xs else bytes_to r xs)
    behind false d f g t e k = k
    behind true false f g t e k = ap (λ (l : List (List ℕ)). x.bytes.items ∷ l) k
    behind true true f g t e k = absurd (both_ways (is_to r a) (apart q r x a t f (is_first q xs a e)) g)

    by : (b : Bool) → is_to q x ≡ b → cond b (Some x) (first_to q xs) ≡ Some a
        → (first_to q xs ≡ Some a → bytes_to r (a ∷ []) ++ bytes_to r (without_first_to q xs) ≡ bytes_to r xs)
        → bytes_to r (a ∷ []) ++ bytes_to r (if b then xs else x ∷ without_first_to q xs) ≡ bytes_to r (x ∷ xs)
    by true t e k = let same : x ≡ a = cc in subst (λ (y : Answer). bytes_to r (y ∷ []) ++ bytes_to r xs ≡ bytes_to r (x ∷ xs)) same (at_first (is_to r x))
    by false t e k = behind (is_to r x) (is_to r a) refl refl t e (k e)

none_to : (q : ℕ) (zs : List Answer) → first_to q zs ≡ None → bytes_to q zs ≡ []
none_to q [] e = refl
none_to q (x ∷ xs) e = by (is_to q x) e (none_to q xs)
  where
    by : (b : Bool) → cond b (Some x) (first_to q xs) ≡ None → (first_to q xs ≡ None → bytes_to q xs ≡ []) → (if b then x.bytes.items ∷ bytes_to q xs else bytes_to q xs) ≡ []
    by true e k = absurd cc
    by false e k = k e

-- where there is a first one, there is one
some_to : (q : ℕ) (zs : List Answer) (a : Answer) → first_to q zs ≡ Some a → bytes_to q zs ≡ [] → ⊥
some_to q zs a e n = by (is_to q a) (is_first q zs a e) (first_one q q zs a e ∙ n)
  where
    by : (b : Bool) → b ≡ true → (if b then a.bytes.items ∷ [] else []) ++ bytes_to q (without_first_to q zs) ≡ [] → ⊥
    by true t h = absurd cc
    by false t h = absurd cc

-- ---- the answers that stay

within_none : (n q r : ℕ) (zs : List Answer) → bytes_to r zs ≡ [] → bytes_to r (within n q zs) ≡ []
within_none n q r [] e = refl
within_none n q r (x ∷ xs) e = by (is_to r x) (stays n q x) refl e (within_none (left_by q x n) q r xs)
  where
    by : (b c : Bool) → is_to r x ≡ b → (if b then x.bytes.items ∷ bytes_to r xs else bytes_to r xs) ≡ []
        → (bytes_to r xs ≡ [] → bytes_to r (within (left_by q x n) q xs) ≡ [])
        → bytes_to r ((if c then x ∷ [] else []) ++ within (left_by q x n) q xs) ≡ []
    by true c t e k = absurd cc
    by false true t e k = rw t (k e)
    by false false t e k = k e

-- ---- those that are given up

split : (now r : ℕ) (zs : List Answer) → bytes_to r (past now zs) ++ bytes_to r (not_past now zs) ≡ bytes_to r zs
split now r [] = refl
split now r (x ∷ xs) = by (nat_le x.due now) (is_to r x) (split now r xs)
  where
    by : (b c : Bool) → bytes_to r (past now xs) ++ bytes_to r (not_past now xs) ≡ bytes_to r xs
        → bytes_to r (if b then x ∷ past now xs else []) ++ bytes_to r (if b then not_past now xs else x ∷ xs) ≡ bytes_to r (x ∷ xs)
    by true c e = given (is_to r x) e
      where
        given : (d : Bool) → bytes_to r (past now xs) ++ bytes_to r (not_past now xs) ≡ bytes_to r xs
            → (if d then x.bytes.items ∷ bytes_to r (past now xs) else bytes_to r (past now xs)) ++ bytes_to r (not_past now xs)
            ≡ (if d then x.bytes.items ∷ bytes_to r xs else bytes_to r xs)
        given true e = ap (λ (l : List (List ℕ)). x.bytes.items ∷ l) e
        given false e = e
    by false c e = refl

none_recorded : (zs : List Answer) → recorded_by (map (λ (a : Answer). found.Unexpected a) zs) ≡ []
none_recorded [] = refl
none_recorded (a ∷ zs) = none_recorded zs

all_recorded : (zs : List Answer) → recorded_by (map (λ (a : Answer). found.Missing a) zs) ≡ zs
all_recorded [] = refl
all_recorded (a ∷ zs) = ap (λ (l : List Answer). a ∷ l) (all_recorded zs)

-- ---- no request has answers on both sides

abbrev Kept : List Answer → List Answer → Type 0
Kept awaited early = (r : ℕ) → (bytes_to r awaited ≡ []) ⊎ (bytes_to r early ≡ [])

push_one : (r : ℕ) (xs : List Answer) (y : Answer) → is_to r y ≡ false → bytes_to r (xs ++ y ∷ []) ≡ bytes_to r xs
push_one r xs y e = bytes_to-append r xs (y ∷ []) ∙ rw e (append-nil (bytes_to r xs))

kept_ask : (n q : ℕ) (awaited early : List Answer) → Kept awaited early → Kept awaited (within n q early)
kept_ask n q awaited early k r = by (k r)
  where
    by : (bytes_to r awaited ≡ []) ⊎ (bytes_to r early ≡ []) → (bytes_to r awaited ≡ []) ⊎ (bytes_to r (within n q early) ≡ [])
    by (inl x) = inl x
    by (inr y) = inr (within_none n q r early y)

-- an answer joins one side, if the other has none to its request
kept_pushed : (xs ys : List Answer) (a : Answer) → bytes_to a.request ys ≡ [] → Kept xs ys → Kept (xs ++ a ∷ []) ys
kept_pushed xs ys a n k r = by (is_to r a) refl (k r)
  where
    by : (b : Bool) → is_to r a ≡ b → (bytes_to r xs ≡ []) ⊎ (bytes_to r ys ≡ []) → (bytes_to r (xs ++ a ∷ []) ≡ []) ⊎ (bytes_to r ys ≡ [])
    by true t o = inr (subst (λ (q : ℕ). bytes_to q ys ≡ []) (same_request r a t) n)
    by false t (inl x) = inl (push_one r xs a t ∙ x)
    by false t (inr y) = inr y

-- the first one to a request leaves one side
kept_taken : (q : ℕ) (xs ys : List Answer) (a : Answer) → first_to q xs ≡ Some a → Kept xs ys → Kept (without_first_to q xs) ys
kept_taken q xs ys a e k r = by (k r)
  where
    by : (bytes_to r xs ≡ []) ⊎ (bytes_to r ys ≡ []) → (bytes_to r (without_first_to q xs) ≡ []) ⊎ (bytes_to r ys ≡ [])
    by (inl x) = inl (none_behind (bytes_to r (a ∷ [])) (bytes_to r (without_first_to q xs)) (first_one q r xs a e ∙ x))
    by (inr y) = inr y

turned : (xs ys : List Answer) → Kept xs ys → Kept ys xs
turned xs ys k r = by (k r)
  where
    by : (bytes_to r xs ≡ []) ⊎ (bytes_to r ys ≡ []) → (bytes_to r ys ≡ []) ⊎ (bytes_to r xs ≡ [])
    by (inl x) = inr x
    by (inr y) = inl y

kept_expect : (a : Answer) (s : Seen) (o : Option Answer) → first_to a.request s.early ≡ o → IsOneSided s → IsOneSided (paired a s o).0
kept_expect a s None e k = kept_pushed s.awaited s.early _ (none_to a.request s.early e) k
kept_expect a s (Some b) e k = turned _ _ (kept_taken a.request s.early s.awaited b e (turned _ _ k))

kept_matched : (b : Answer) (s : Seen) (o : Option Answer) → first_to b.request s.awaited ≡ o → IsOneSided s → IsOneSided (matched b s o).0
kept_matched b s None e k = turned _ _ (kept_pushed s.early s.awaited b (none_to b.request s.awaited e) (turned _ _ k))
kept_matched b s (Some a) e k = kept_taken b.request s.awaited s.early a e k

kept_met : (b : Answer) (s : Seen) (c : Bool) → IsOneSided s
    → IsOneSided ((if c then (record s { given_up_ids = without_id b.request s.given_up_ids }, found.Late b ∷ []) else matched b s (first_to b.request s.awaited)).0)
kept_met b s true k = k
kept_met b s false k = kept_matched b s (first_to b.request s.awaited) refl k

kept_given_up : (now : ℕ) (awaited early : List Answer) → Kept awaited early → Kept (not_past now awaited) early
kept_given_up now awaited early k r = by (k r)
  where
    by : (bytes_to r awaited ≡ []) ⊎ (bytes_to r early ≡ []) → (bytes_to r (not_past now awaited) ≡ []) ⊎ (bytes_to r early ≡ [])
    by (inl x) = inl (none_behind (bytes_to r (past now awaited)) (bytes_to r (not_past now awaited)) (split now r awaited ∙ x))
    by (inr y) = inr y

kept_step : (s : Seen) (act : Act) → IsOneSided s → IsOneSided (step s act).0
kept_step s (runs.ask id) k = kept_ask (count_of id s.open_ids) id s.awaited s.early k
kept_step s (runs.expect a) k = kept_expect a (record s { open_ids = open_behind a s.open_ids }) (first_to a.request s.early) refl k
kept_step s (runs.meet b) k = kept_met b s (has_id b.request s.given_up_ids) k
kept_step s (runs.give_up now) k = kept_given_up now s.awaited s.early k
kept_step s (runs.fail broken) k = k

kept_acts : (s : Seen) (acts : List Act) → IsOneSided s → IsOneSided (after_acts s acts)
kept_acts s [] k = k
kept_acts s (act ∷ acts) k = kept_acts (step s act).0 acts (kept_step s act k)

pub one_sided : (acts : List Act) → IsOneSided (after_acts nothing acts)
one_sided acts = kept_acts nothing acts (λ r. inl refl)

-- ---- the recorded answers to a request, in order

told_asked : (r : ℕ) (awaited xs : List Answer) → bytes_to r (recorded_by (map (λ (a : Answer). found.Unexpected a) xs)) ++ bytes_to r awaited ≡ bytes_to r awaited ++ []
told_asked r awaited xs = ap (λ (l : List Answer). bytes_to r l ++ bytes_to r awaited) (none_recorded xs) ∙ sym (append-nil (bytes_to r awaited))

told_expect : (r : ℕ) (a : Answer) (s : Seen) (o : Option Answer) → first_to a.request s.early ≡ o → IsOneSided s
    → bytes_to r (recorded_by (paired a s o).1) ++ bytes_to r (paired a s o).0.awaited ≡ bytes_to r s.awaited ++ bytes_to r (a ∷ [])
told_expect r a s None e k = bytes_to-append r s.awaited _
told_expect r a s (Some b) e k = by (is_to r a) refl (k r)
  where
    by : (c : Bool) → is_to r a ≡ c → (bytes_to r s.awaited ≡ []) ⊎ (bytes_to r s.early ≡ [])
        → (if c then a.bytes.items ∷ [] else []) ++ bytes_to r s.awaited ≡ bytes_to r s.awaited ++ (if c then a.bytes.items ∷ [] else [])
    by true t (inl x) = rw x refl
    by true t (inr y) = absurd (some_to a.request s.early b e (subst (λ (q : ℕ). bytes_to q s.early ≡ []) (sym (same_request r a t)) y))
    by false t o = sym (append-nil (bytes_to r s.awaited))

told_matched : (r : ℕ) (b : Answer) (s : Seen) (o : Option Answer) → first_to b.request s.awaited ≡ o
    → bytes_to r (recorded_by (matched b s o).1) ++ bytes_to r (matched b s o).0.awaited ≡ bytes_to r s.awaited ++ []
told_matched r b s None e = sym (append-nil (bytes_to r s.awaited))
told_matched r b s (Some a) e = first_one b.request r s.awaited a e ∙ sym (append-nil (bytes_to r s.awaited))

told_met : (r : ℕ) (b : Answer) (s : Seen) (c : Bool)
    → let t : Seen × List Finding = if c then (record s { given_up_ids = without_id b.request s.given_up_ids }, found.Late b ∷ []) else matched b s (first_to b.request s.awaited) in
    bytes_to r (recorded_by t.1) ++ bytes_to r t.0.awaited ≡ bytes_to r s.awaited ++ []
told_met r b s true = sym (append-nil (bytes_to r s.awaited))
told_met r b s false = told_matched r b s (first_to b.request s.awaited) refl

told_given_up : (r now : ℕ) (awaited : List Answer)
    → bytes_to r (recorded_by (map (λ (a : Answer). found.Missing a) (past now awaited))) ++ bytes_to r (not_past now awaited) ≡ bytes_to r awaited ++ []
told_given_up r now awaited =
    ap (λ (l : List Answer). bytes_to r l ++ bytes_to r (not_past now awaited)) (all_recorded (past now awaited)) ∙ split now r awaited ∙ sym (append-nil (bytes_to r awaited))

told_step : (r : ℕ) (s : Seen) (act : Act) → IsOneSided s → bytes_to r (recorded_by (step s act).1) ++ bytes_to r (step s act).0.awaited ≡ bytes_to r s.awaited ++ bytes_to r (read_in act)
told_step r s (runs.ask id) k = told_asked r s.awaited (beyond (count_of id s.open_ids) id s.early)
told_step r s (runs.expect a) k = told_expect r a (record s { open_ids = open_behind a s.open_ids }) (first_to a.request s.early) refl k
told_step r s (runs.meet b) k = told_met r b s (has_id b.request s.given_up_ids)
told_step r s (runs.give_up now) k = told_given_up r now s.awaited
told_step r s (runs.fail broken) k = sym (append-nil (bytes_to r s.awaited))

in_order : (r : ℕ) (s : Seen) (acts : List Act) → IsOneSided s → bytes_to r (recorded_by (found_by s acts)) ++ bytes_to r (after_acts s acts).awaited ≡ bytes_to r s.awaited ++ bytes_to r (read_by acts)
in_order r s [] k = sym (append-nil (bytes_to r s.awaited))
in_order r s (act ∷ acts) k =
    let t : Seen × List Finding = step s act in
    let told : List (List ℕ) = bytes_to r (recorded_by t.1) in
    let later : List (List ℕ) = bytes_to r (recorded_by (found_by t.0 acts)) in
    let left : List (List ℕ) = bytes_to r (after_acts t.0 acts).awaited in
    let read : List (List ℕ) = bytes_to r (read_by acts) in
    ap (λ (l : List Answer). bytes_to r l ++ left) (recorded_by-append t.1 (found_by t.0 acts))
    ∙ ap (λ (l : List (List ℕ)). l ++ left) (bytes_to-append r (recorded_by t.1) (recorded_by (found_by t.0 acts)))
    ∙ append_assoc told later left
    ∙ ap (λ (l : List (List ℕ)). told ++ l) (in_order r t.0 acts (kept_step s act k))
    ∙ sym (append_assoc told (bytes_to r t.0.awaited) read)
    ∙ ap (λ (l : List (List ℕ)). l ++ read) (told_step r s act k)
    ∙ append_assoc (bytes_to r s.awaited) (bytes_to r (read_in act)) read
    ∙ ap (λ (l : List (List ℕ)). bytes_to r s.awaited ++ l) (sym (bytes_to-append r (read_in act) (read_by acts)))

pub recorded_in_order : (r : ℕ) (acts : List Act) → bytes_to r (recorded_by (found_by nothing acts)) ++ bytes_to r (after_acts nothing acts).awaited ≡ bytes_to r (read_by acts)
recorded_in_order r acts = in_order r nothing acts (λ q. inl refl)
