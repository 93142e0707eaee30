-- The calls and the entries of one connection, among all calls and the whole log.
use Rattle.std.proofs.Common.{◌≡◌, ℕ, zero, suc, Bool, true, false, List, [], ◌∷◌, ◌++◌, length, map, refl, sym, ◌∙◌, ap, arith, Some}
use Rattle.std.specs.Prelude.{◌==◌, if◌then◌else◌, slice_get, slice_set, take}
use Rattle.std.proofs.lemmas.Option.{none-some, same_Some}
use Rattle.std.proofs.lemmas.Bool.Decides.{nat_tests}
use Rattle.wire_peer.specs.{LogEntry}
use Rattle.wire_model.specs.Machines.{Call, CallIs}
use Rattle.wire_model.specs.Hostile.{calls_of, entries_of}

-- how many calls of the connection are before call i
abbrev pub calls_before : ℕ → List Call → ℕ → ℕ
calls_before c calls i = length (calls_of c (take i calls))

-- how many entries of the connection are before entry e
abbrev pub entries_before : ℕ → List LogEntry → ℕ → ℕ
entries_before c log e = length (entries_of c (take e log))

abbrev kept_if : {A : Type 0} → Bool → A → List A → List A
kept_if b x rest = if b then x ∷ rest else rest

pub is_here : (c d : ℕ) → d ≡ c → (d == c) ≡ true
is_here c d e = grind (arith, nat_tests)

pub is_elsewhere : (c d : ℕ) → (d ≡ c → ⊥) → (d == c) ≡ false
is_elsewhere c d n = grind (arith, nat_tests)

pub here_is : (c d : ℕ) → (d == c) ≡ true → d ≡ c
here_is c d e = grind (arith, nat_tests)

-- ---- a call is added

pub calls-push_here : (c : ℕ) (calls : List Call) (y : Call) → y.connection ≡ c → calls_of c (calls ++ y ∷ []) ≡ calls_of c calls ++ y ∷ []
calls-push_here c [] y e = ap (λ b. kept_if b y []) (is_here c y.connection e)
calls-push_here c (x ∷ xs) y e = elim (x.connection == c) as (λ b. kept_if b x (calls_of c (xs ++ y ∷ [])) ≡ kept_if b x (calls_of c xs) ++ y ∷ []) [
  | true ↦ ap (λ z. x ∷ z) (calls-push_here c xs y e)
  | false ↦ calls-push_here c xs y e
]

pub calls-push_other : (c : ℕ) (calls : List Call) (y : Call) → (y.connection ≡ c → ⊥) → calls_of c (calls ++ y ∷ []) ≡ calls_of c calls
calls-push_other c [] y n = ap (λ b. kept_if b y []) (is_elsewhere c y.connection n)
calls-push_other c (x ∷ xs) y n = ap (kept_if (x.connection == c) x) (calls-push_other c xs y n)

-- a new call at the end doesn't change how many calls are before an old one
pub before-push : (c : ℕ) (calls : List Call) (i : ℕ) (x y : Call) → CallIs calls i x → calls_before c (calls ++ y ∷ []) i ≡ calls_before c calls i
before-push c [] i x y g = absurd (none-some x g)
before-push c (a ∷ calls) zero x y g = refl
before-push c (a ∷ calls) (suc i) x y g = elim (a.connection == c) as (λ b. length (kept_if b a (calls_of c (take i (calls ++ y ∷ [])))) ≡ length (kept_if b a (calls_of c (take i calls)))) [
  | true ↦ ap suc (before-push c calls i x y g)
  | false ↦ before-push c calls i x y g
]

-- all calls of the connection are before the new one
pub before-last : (c : ℕ) (calls : List Call) (y : Call) → calls_before c (calls ++ y ∷ []) (length calls) ≡ length (calls_of c calls)
before-last c [] y = refl
before-last c (a ∷ calls) y = elim (a.connection == c) as (λ b. length (kept_if b a (calls_of c (take (length calls) (calls ++ y ∷ [])))) ≡ length (kept_if b a (calls_of c calls))) [
  | true ↦ ap suc (before-last c calls y)
  | false ↦ before-last c calls y
]

-- ---- a call is changed

pub calls-set_here : (c : ℕ) (calls : List Call) (i : ℕ) (x y : Call) → CallIs calls i x → x.connection ≡ c → y.connection ≡ c → calls_of c (slice_set calls i y) ≡ slice_set (calls_of c calls) (calls_before c calls i) y
calls-set_here c [] i x y g e f = absurd (none-some x g)
calls-set_here c (a ∷ calls) zero x y g e f =
    let here : (a.connection == c) ≡ true = is_here c a.connection (ap (λ (z : Call). z.connection) (same_Some a x g) ∙ e) in
    ap (λ b. kept_if b y (calls_of c calls)) (is_here c y.connection f) ∙ ap (λ b. slice_set (kept_if b a (calls_of c calls)) zero y) (sym here)
calls-set_here c (a ∷ calls) (suc i) x y g e f = elim (a.connection == c) as (λ b. kept_if b a (calls_of c (slice_set calls i y)) ≡ slice_set (kept_if b a (calls_of c calls)) (length (kept_if b a (calls_of c (take i calls)))) y) [
  | true ↦ ap (λ z. a ∷ z) (calls-set_here c calls i x y g e f)
  | false ↦ calls-set_here c calls i x y g e f
]

pub calls-set_other : (c : ℕ) (calls : List Call) (i : ℕ) (x y : Call) → CallIs calls i x → (x.connection ≡ c → ⊥) → (y.connection ≡ c → ⊥) → calls_of c (slice_set calls i y) ≡ calls_of c calls
calls-set_other c [] i x y g n o = refl
calls-set_other c (a ∷ calls) zero x y g n o =
    let there : (a.connection == c) ≡ false = is_elsewhere c a.connection (λ e. n (sym (ap (λ (z : Call). z.connection) (same_Some a x g)) ∙ e)) in
    ap (λ b. kept_if b y (calls_of c calls)) (is_elsewhere c y.connection o) ∙ ap (λ b. kept_if b a (calls_of c calls)) (sym there)
calls-set_other c (a ∷ calls) (suc i) x y g n o = ap (kept_if (a.connection == c) a) (calls-set_other c calls i x y g n o)

-- a change of a call that keeps its connection doesn't change how many calls are before another
pub before-set : (c : ℕ) (calls : List Call) (i j : ℕ) (x y : Call) → CallIs calls i x → y.connection ≡ x.connection → calls_before c (slice_set calls i y) j ≡ calls_before c calls j
before-set c [] i j x y g e = refl
before-set c (a ∷ calls) i zero x y g e = by i
  where
    by : (k : ℕ) → calls_before c (slice_set (a ∷ calls) k y) zero ≡ zero
    by zero = refl
    by (suc k) = refl
before-set c (a ∷ calls) zero (suc j) x y g e =
    let same : y.connection ≡ a.connection = e ∙ ap (λ (z : Call). z.connection) (sym (same_Some a x g)) in
    ap (λ d. length (kept_if (d == c) y (calls_of c (take j calls)))) same
    ∙ (elim (a.connection == c) as (λ b. length (kept_if b y (calls_of c (take j calls))) ≡ length (kept_if b a (calls_of c (take j calls)))) [ true ↦ refl | false ↦ refl ])
before-set c (a ∷ calls) (suc i) (suc j) x y g e = elim (a.connection == c) as (λ b. length (kept_if b a (calls_of c (take j (slice_set calls i y)))) ≡ length (kept_if b a (calls_of c (take j calls)))) [
  | true ↦ ap suc (before-set c calls i j x y g e)
  | false ↦ before-set c calls i j x y g e
]

-- ---- all calls are changed

pub calls-map : (c : ℕ) (f : Call → Call) (calls : List Call) → ((x : Call) → (f x).connection ≡ x.connection) → calls_of c (map f calls) ≡ map f (calls_of c calls)
calls-map c f [] e = refl
calls-map c f (x ∷ calls) e = ap (λ d. kept_if (d == c) (f x) (calls_of c (map f calls))) (e x)
    ∙ (elim (x.connection == c) as (λ b. kept_if b (f x) (calls_of c (map f calls)) ≡ map f (kept_if b x (calls_of c calls))) [
      | true ↦ ap (λ z. f x ∷ z) (calls-map c f calls e)
      | false ↦ calls-map c f calls e
    ])

-- a change of all calls that keeps each one's connection and the calls of this one
pub calls-map_other : (c : ℕ) (f : Call → Call) (calls : List Call) → ((x : Call) → (f x).connection ≡ x.connection) → ((x : Call) → x.connection ≡ c → f x ≡ x) → calls_of c (map f calls) ≡ calls_of c calls
calls-map_other c f [] e s = refl
calls-map_other c f (x ∷ calls) e s = ap (λ d. kept_if (d == c) (f x) (calls_of c (map f calls))) (e x) ∙ by (x.connection == c) refl (calls-map_other c f calls e s)
  where
    by : (b : Bool) → (x.connection == c) ≡ b → calls_of c (map f calls) ≡ calls_of c calls → kept_if b (f x) (calls_of c (map f calls)) ≡ kept_if b x (calls_of c calls)
    by true is rest = λ i. s x (here_is c x.connection is) i ∷ rest i
    by false is rest = rest

pub before-map : (c : ℕ) (f : Call → Call) (calls : List Call) (i : ℕ) → ((x : Call) → (f x).connection ≡ x.connection) → calls_before c (map f calls) i ≡ calls_before c calls i
before-map c f [] i e = refl
before-map c f (x ∷ calls) zero e = refl
before-map c f (x ∷ calls) (suc i) e = ap (λ d. length (kept_if (d == c) (f x) (calls_of c (take i (map f calls))))) (e x)
    ∙ (elim (x.connection == c) as (λ b. length (kept_if b (f x) (calls_of c (take i (map f calls)))) ≡ length (kept_if b x (calls_of c (take i calls)))) [
      | true ↦ ap suc (before-map c f calls i e)
      | false ↦ before-map c f calls i e
    ])

-- ---- calls, told apart by how many are before them

pub call_by_before : (c : ℕ) (calls : List Call) (i : ℕ) (x : Call) → CallIs calls i x → x.connection ≡ c → slice_get (calls_of c calls) (calls_before c calls i) ≡ Some x
call_by_before c [] i x g e = absurd (none-some x g)
call_by_before c (a ∷ calls) zero x g e =
    ap (λ b. slice_get (kept_if b a (calls_of c calls)) zero) (is_here c a.connection (ap (λ (z : Call). z.connection) (same_Some a x g) ∙ e)) ∙ g
call_by_before c (a ∷ calls) (suc i) x g e = elim (a.connection == c) as (λ b. slice_get (kept_if b a (calls_of c calls)) (length (kept_if b a (calls_of c (take i calls)))) ≡ Some x) [
  | true ↦ call_by_before c calls i x g e
  | false ↦ call_by_before c calls i x g e
]

-- two calls of the connection with as many before them are the same call
pub before_once : (c : ℕ) (calls : List Call) (i j : ℕ) (x y : Call) → CallIs calls i x → CallIs calls j y → x.connection ≡ c → y.connection ≡ c → calls_before c calls i ≡ calls_before c calls j → i ≡ j
before_once c [] i j x y g h e f s = absurd (none-some x g)
before_once c (a ∷ calls) zero zero x y g h e f s = refl
before_once c (a ∷ calls) zero (suc j) x y g h e f s =
    let here = is_here c a.connection (ap (λ (z : Call). z.connection) (same_Some a x g) ∙ e) in
    absurd (let no : zero ≡ suc (calls_before c calls j) = s ∙ ap (λ b. length (kept_if b a (calls_of c (take j calls)))) here in cc)
before_once c (a ∷ calls) (suc i) zero x y g h e f s =
    let here = is_here c a.connection (ap (λ (z : Call). z.connection) (same_Some a y h) ∙ f) in
    absurd (let no : zero ≡ suc (calls_before c calls i) = sym s ∙ ap (λ b. length (kept_if b a (calls_of c (take i calls)))) here in cc)
before_once c (a ∷ calls) (suc i) (suc j) x y g h e f s = ap suc (before_once c calls i j x y g h e f (by (a.connection == c) s))
  where
    by : (b : Bool) → length (kept_if b a (calls_of c (take i calls))) ≡ length (kept_if b a (calls_of c (take j calls))) → calls_before c calls i ≡ calls_before c calls j
    by true t = omega (arith, t)
    by false t = t

pub calls_none : (c : ℕ) (calls : List Call) → ((i : ℕ) (x : Call) → CallIs calls i x → x.connection ≡ c → ⊥) → calls_of c calls ≡ []
calls_none c [] n = refl
calls_none c (x ∷ calls) n = ap (λ b. kept_if b x (calls_of c calls)) (is_elsewhere c x.connection (n 0 x refl)) ∙ calls_none c calls (λ i y g. n (suc i) y g)

-- ---- entries

pub entries-push_here : (c : ℕ) (log : List LogEntry) (en : LogEntry) → en.connection ≡ c → entries_of c (log ++ en ∷ []) ≡ entries_of c log ++ en ∷ []
entries-push_here c [] en e = ap (λ b. kept_if b en []) (is_here c en.connection e)
entries-push_here c (a ∷ log) en e = elim (a.connection == c) as (λ b. kept_if b a (entries_of c (log ++ en ∷ [])) ≡ kept_if b a (entries_of c log) ++ en ∷ []) [
  | true ↦ ap (λ z. a ∷ z) (entries-push_here c log en e)
  | false ↦ entries-push_here c log en e
]

pub entries-push_other : (c : ℕ) (log : List LogEntry) (en : LogEntry) → (en.connection ≡ c → ⊥) → entries_of c (log ++ en ∷ []) ≡ entries_of c log
entries-push_other c [] en n = ap (λ b. kept_if b en []) (is_elsewhere c en.connection n)
entries-push_other c (a ∷ log) en n = ap (kept_if (a.connection == c) a) (entries-push_other c log en n)

-- new entries at the end don't change how many entries are before an old one
pub entries_before-more : (c : ℕ) (log more : List LogEntry) (e : ℕ) (en : LogEntry) → slice_get log e ≡ Some en → entries_before c (log ++ more) e ≡ entries_before c log e
entries_before-more c [] more e en g = absurd (none-some en g)
entries_before-more c (a ∷ log) more zero en g = refl
entries_before-more c (a ∷ log) more (suc e) en g = elim (a.connection == c) as (λ b. length (kept_if b a (entries_of c (take e (log ++ more)))) ≡ length (kept_if b a (entries_of c (take e log)))) [
  | true ↦ ap suc (entries_before-more c log more e en g)
  | false ↦ entries_before-more c log more e en g
]

pub entries_before-last : (c : ℕ) (log : List LogEntry) (en : LogEntry) → entries_before c (log ++ en ∷ []) (length log) ≡ length (entries_of c log)
entries_before-last c [] en = refl
entries_before-last c (a ∷ log) en = elim (a.connection == c) as (λ b. length (kept_if b a (entries_of c (take (length log) (log ++ en ∷ [])))) ≡ length (kept_if b a (entries_of c log))) [
  | true ↦ ap suc (entries_before-last c log en)
  | false ↦ entries_before-last c log en
]

pub get-more : {A : Type 0} (xs ys : List A) (i : ℕ) (x : A) → slice_get xs i ≡ Some x → slice_get (xs ++ ys) i ≡ Some x
get-more [] ys i x g = absurd (none-some x g)
get-more (a ∷ xs) ys zero x g = g
get-more (a ∷ xs) ys (suc i) x g = get-more xs ys i x g

pub entries_none : (c : ℕ) (log : List LogEntry) → ((e : ℕ) (en : LogEntry) → slice_get log e ≡ Some en → en.connection ≡ c → ⊥) → entries_of c log ≡ []
entries_none c [] n = refl
entries_none c (a ∷ log) n = ap (λ b. kept_if b a (entries_of c log)) (is_elsewhere c a.connection (n 0 a refl)) ∙ entries_none c log (λ e en g. n (suc e) en g)

-- ---- the calls of a connection are calls of it

pub call_of : (c : ℕ) (calls : List Call) (i : ℕ) (x : Call) → slice_get (calls_of c calls) i ≡ Some x → (j : ℕ) × CallIs calls j x × (x.connection ≡ c)
call_of c [] i x g = absurd (none-some x g)
call_of c (y ∷ ys) i x g = by (y.connection == c) refl i g (λ k h. call_of c ys k x h)
  where
    by : (b : Bool) → (y.connection == c) ≡ b → (k : ℕ) → slice_get (if b then y ∷ calls_of c ys else calls_of c ys) k ≡ Some x
        → ((n : ℕ) → slice_get (calls_of c ys) n ≡ Some x → (j : ℕ) × CallIs ys j x × (x.connection ≡ c)) → (j : ℕ) × CallIs (y ∷ ys) j x × (x.connection ≡ c)
    by true e zero h later = (zero, h, ap (λ (z : Call). z.connection) (sym (same_Some y x h)) ∙ here_is c y.connection e)
    by true e (suc k) h later = let p = later k h in (suc p.0, p.1, p.2)
    by false e k h later = let p = later k h in (suc p.0, p.1, p.2)
