-- The numbers of the calls: their indexes among the records, where there are no strangers.
use Rattle.std.proofs.Common.{◌≡◌, ℕ, zero, suc, Bool, true, false, eqb, List, [], ◌∷◌, ◌++◌, length, map, refl, sym, ◌∙◌, ap, Some}
use Rattle.std.specs.Prelude.{slice_get, slice_set, if◌then◌else◌, ◌==◌}
use Rattle.std.proofs.lemmas.Option.{none-some, same_Some}
use Rattle.wire_model.specs.Machines.{Call, CallIs, State, Pending, Done, Sent, Lost, Foreign, is_ours, lost_state, lost, never}
use Rattle.wire_model.specs.Conns.{Record}
use Rattle.wire_model.specs.Shown.{shown, shown_calls}

abbrev pub more_by : Bool → ℕ → ℕ
more_by true n = suc n
more_by false n = n

-- how many calls of ours are before
abbrev pub rank : List Call → ℕ → ℕ
rank [] i = zero
rank (x ∷ xs) zero = zero
rank (x ∷ xs) (suc i) = more_by (is_ours x.state) (rank xs i)

abbrev pub ours : Call → Bool
ours x = is_ours x.state

pub rank-push : (calls : List Call) (i : ℕ) (x y : Call) → CallIs calls i x → rank (calls ++ y ∷ []) i ≡ rank calls i
rank-push [] i x y g = absurd (none-some x g)
rank-push (a ∷ calls) zero x y g = refl
rank-push (a ∷ calls) (suc i) x y g = ap (more_by (ours a)) (rank-push calls i x y g)

pub rank-set : (calls : List Call) (i : ℕ) (x y : Call) → CallIs calls i x → ours y ≡ ours x → (j : ℕ) → rank (slice_set calls i y) j ≡ rank calls j
rank-set [] i x y g e j = refl
rank-set (a ∷ calls) zero x y g e zero = refl
rank-set (a ∷ calls) zero x y g e (suc j) = ap (λ b. more_by b (rank calls j)) (e ∙ ap ours (sym (same_Some a x g)))
rank-set (a ∷ calls) (suc i) x y g e zero = refl
rank-set (a ∷ calls) (suc i) x y g e (suc j) = ap (more_by (ours a)) (rank-set calls i x y g e j)

pub rank-map : (f : Call → Call) → ((x : Call) → ours (f x) ≡ ours x) → (calls : List Call) (j : ℕ) → rank (map f calls) j ≡ rank calls j
rank-map f e [] j = refl
rank-map f e (a ∷ calls) zero = refl
rank-map f e (a ∷ calls) (suc j) = ap (λ b. more_by b (rank (map f calls) j)) (e a) ∙ ap (more_by (ours a)) (rank-map f e calls j)

pub rank-end : (calls : List Call) (y : Call) → rank (calls ++ y ∷ []) (length calls) ≡ length (shown_calls calls)
rank-end [] y = refl
rank-end (a ∷ calls) y = elim (ours a) as (λ b. more_by b (rank (calls ++ y ∷ []) (length calls)) ≡ length (if b then shown a ∷ shown_calls calls else shown_calls calls)) [
  | true ↦ ap suc (rank-end calls y)
  | false ↦ rank-end calls y
]

-- two calls of ours have two numbers
pub rank_apart : (calls : List Call) (i j : ℕ) (x y : Call) → CallIs calls i x → CallIs calls j y → ours x ≡ true → ours y ≡ true → rank calls i ≡ rank calls j → i ≡ j
rank_apart [] i j x y g h ox oy e = absurd (none-some x g)
rank_apart (a ∷ calls) zero zero x y g h ox oy e = refl
rank_apart (a ∷ calls) zero (suc j) x y g h ox oy e =
    let is : ours a ≡ true = ap ours (same_Some a x g) ∙ ox in
    absurd (let no : zero ≡ suc (rank calls j) = e ∙ ap (λ b. more_by b (rank calls j)) is in cc)
rank_apart (a ∷ calls) (suc i) zero x y g h ox oy e =
    let is : ours a ≡ true = ap ours (same_Some a y h) ∙ oy in
    absurd (let no : suc (rank calls i) ≡ zero = sym (ap (λ b. more_by b (rank calls i)) is) ∙ e in cc)
rank_apart (a ∷ calls) (suc i) (suc j) x y g h ox oy e = ap suc (rank_apart calls i j x y g h ox oy (same (ours a) e))
  where
    same : (b : Bool) → more_by b (rank calls i) ≡ more_by b (rank calls j) → rank calls i ≡ rank calls j
    same true e = cc
    same false e = e

pub shows-push_ours : (calls : List Call) (y : Call) → ours y ≡ true → shown_calls (calls ++ y ∷ []) ≡ shown_calls calls ++ shown y ∷ []
shows-push_ours [] y e = ap (λ b. if b then shown y ∷ [] else []) e
shows-push_ours (a ∷ calls) y e = elim (ours a) as (λ b. (if b then shown a ∷ shown_calls (calls ++ y ∷ []) else shown_calls (calls ++ y ∷ [])) ≡ (if b then shown a ∷ shown_calls calls else shown_calls calls) ++ shown y ∷ []) [
  | true ↦ ap (λ rs. shown a ∷ rs) (shows-push_ours calls y e)
  | false ↦ shows-push_ours calls y e
]

pub shows-push_other : (calls : List Call) (y : Call) → ours y ≡ false → shown_calls (calls ++ y ∷ []) ≡ shown_calls calls
shows-push_other [] y e = ap (λ b. if b then shown y ∷ [] else []) e
shows-push_other (a ∷ calls) y e = elim (ours a) as (λ b. (if b then shown a ∷ shown_calls (calls ++ y ∷ []) else shown_calls (calls ++ y ∷ [])) ≡ (if b then shown a ∷ shown_calls calls else shown_calls calls)) [
  | true ↦ ap (λ rs. shown a ∷ rs) (shows-push_other calls y e)
  | false ↦ shows-push_other calls y e
]

abbrev shows_by : Bool → Record → List Record → List Record
shows_by b r rs = if b then r ∷ rs else rs

-- a write that doesn't change the record
pub shows-set_same : (calls : List Call) (i : ℕ) (x y : Call) → CallIs calls i x → shown y ≡ shown x → shown_calls (slice_set calls i y) ≡ shown_calls calls
shows-set_same [] i x y g e = refl
shows-set_same (a ∷ calls) zero x y g e =
    let same : shown y ≡ shown a = e ∙ ap shown (sym (same_Some a x g)) in
    ap (λ (r : Record). shows_by (is_ours r.state) r (shown_calls calls)) same
shows-set_same (a ∷ calls) (suc i) x y g e = ap (shows_by (ours a) (shown a)) (shows-set_same calls i x y g e)

-- a write at a call of ours
pub shows-set : (calls : List Call) (i : ℕ) (x y : Call) → CallIs calls i x → ours x ≡ true → ours y ≡ true → shown_calls (slice_set calls i y) ≡ slice_set (shown_calls calls) (rank calls i) (shown y)
shows-set [] i x y g ox oy = refl
shows-set (a ∷ calls) zero x y g ox oy =
    let is : ours a ≡ true = ap ours (same_Some a x g) ∙ ox in
    ap (λ b. shows_by b (shown y) (shown_calls calls)) oy ∙ sym (ap (λ b. slice_set (shows_by b (shown a) (shown_calls calls)) zero (shown y)) is)
shows-set (a ∷ calls) (suc i) x y g ox oy = elim (ours a) as (λ b. shows_by b (shown a) (shown_calls (slice_set calls i y)) ≡ slice_set (shows_by b (shown a) (shown_calls calls)) (more_by b (rank calls i)) (shown y)) [
  | true ↦ ap (λ rs. shown a ∷ rs) (shows-set calls i x y g ox oy)
  | false ↦ shows-set calls i x y g ox oy
]

pub shows-get : (calls : List Call) (i : ℕ) (x : Call) → CallIs calls i x → ours x ≡ true → slice_get (shown_calls calls) (rank calls i) ≡ Some (shown x)
shows-get [] i x g ox = absurd (none-some x g)
shows-get (a ∷ calls) zero x g ox =
    let same : a ≡ x = same_Some a x g in
    ap (λ b. slice_get (shows_by b (shown a) (shown_calls calls)) zero) (ap ours same ∙ ox) ∙ ap (λ z. Some (shown z)) same
shows-get (a ∷ calls) (suc i) x g ox = elim (ours a) as (λ b. slice_get (shows_by b (shown a) (shown_calls calls)) (more_by b (rank calls i)) ≡ Some (shown x)) [
  | true ↦ shows-get calls i x g ox
  | false ↦ shows-get calls i x g ox
]

-- what is shown is a call of ours, by its number
abbrev pub ShownAt : List Call → ℕ → Record → Type 0
ShownAt calls i r = (j : ℕ) × (x : Call) × CallIs calls j x × (shown x ≡ r) × (ours x ≡ true) × (rank calls j ≡ i)

pub shows-get_back : (calls : List Call) (i : ℕ) (r : Record) → slice_get (shown_calls calls) i ≡ Some r → ShownAt calls i r
shows-get_back [] i r g = absurd (none-some r g)
shows-get_back (a ∷ calls) i r g = by (ours a) refl i g (λ k h. shows-get_back calls k r h)
  where
    by : (b : Bool) → ours a ≡ b → (k : ℕ) → slice_get (shows_by b (shown a) (shown_calls calls)) k ≡ Some r
        → ((k : ℕ) → slice_get (shown_calls calls) k ≡ Some r → ShownAt calls k r) → ShownAt (a ∷ calls) k r
    by true e zero g back = (zero, a, refl, same_Some (shown a) r g, e, refl)
    by true e (suc k) g back =
        let p = back k g in
        (suc p.0, p.1, p.2, p.3, p.4, ap (λ b. more_by b (rank calls p.0)) e ∙ ap suc p.5)
    by false e k g back =
        let p = back k g in
        (suc p.0, p.1, p.2, p.3, p.4, ap (λ b. more_by b (rank calls p.0)) e ∙ p.5)

pub shows-map : (f : Call → Call) (r : Record → Record) → ((x : Call) → shown (f x) ≡ r (shown x)) → ((x : Call) → ours (f x) ≡ ours x) → (calls : List Call) → shown_calls (map f calls) ≡ map r (shown_calls calls)
shows-map f r e o [] = refl
shows-map f r e o (a ∷ calls) = ap (λ b. shows_by b (shown (f a)) (shown_calls (map f calls))) (o a) ∙ (elim (ours a) as (λ b. shows_by b (shown (f a)) (shown_calls (map f calls)) ≡ map r (shows_by b (shown a) (shown_calls calls))) [
  | true ↦ (λ i. e a i ∷ shows-map f r e o calls i)
  | false ↦ shows-map f r e o calls
])

pub ours-lost : (c : ℕ) (x : Call) → ours (lost c x) ≡ ours x
ours-lost c x = by (eqb x.connection c) x.state
  where
    by : (b : Bool) (s : State) → is_ours (if b then lost_state s else s) ≡ is_ours s
    by true Pending = refl
    by true Done = refl
    by true Sent = refl
    by true Lost = refl
    by true Foreign = refl
    by false s = refl

pub shows_never : (c : ℕ) (calls : List Call) → shown_calls (map (never c) calls) ≡ shown_calls calls
shows_never c calls = shows-map (never c) (λ r. r) (λ x. refl) (λ x. refl) calls ∙ map_id (shown_calls calls)
  where
    map_id : (rs : List Record) → map (λ r. r) rs ≡ rs
    map_id [] = refl
    map_id (r ∷ rs) = ap (λ xs. r ∷ xs) (map_id rs)

-- the record of a call whose client is lost
abbrev pub lost_at : ℕ → Record → Record
lost_at c r = record { connection = r.connection; asked = r.asked; parts = r.parts; state = if r.connection == c then lost_state r.state else r.state }
