-- Elements of arrays that are made, replaced and left by an index, and the steps that are one.
use Rattle.std.proofs.Common.{◌≡◌, ℕ, zero, suc, ◌<◌, ◌≤◌, ◌^◌, List, [], ◌∷◌, ◌++◌, Option, Some, None, Result, Ok, Err, Bool, true, false, ◌&&◌, length, map, refl, sym, ap, ◌∙◌, slice_set, get_or, arith}
use Rattle.std.specs.Prelude.{if◌then◌else◌, nat_lt, option_map, slice_get, unwrap_or}
use Rattle.std.specs.Fmt.{decimal}
use Rattle.std.specs.Str.{bytes_eq}
use Rattle.std.specs.Str.Parse.{ParsesUnsigned, digits_value}
use Rattle.std.proofs.lemmas.Bool.Decides.{nat_tests}
use Rattle.std.proofs.lemmas.List.{length-map, map-append, map-set}
use Rattle.std.proofs.lemmas.Option.{slice_get-map}
use Rattle.std.proofs.lemmas.Fmt.{decimal_is_IsNumeral, parse-decimal}
use Rattle.std.proofs.lemmas.Slice.Eq.{bytes_eq-Decides}
use Rattle.bson_raw.specs.{TreeValue}
use Rattle.bson_doc.specs.declared.bson_values.Bson.{Bson}
use Rattle.bson_doc.specs.declared.bson_values.Bson.TheVariants as values
use Rattle.bson_doc.specs.Bson.{value_of}
use Rattle.doc_query.specs.{null}
use Rattle.doc_update.specs.Elements.{index_of, put_at, writes}
use Rattle.doc_update.specs.Removing.{Leaving, left_at}

-- ---- elements

-- one more null behind the end, where an element is made further on
pub put_past : (i : ℕ) (v : TreeValue) (vs : List TreeValue) → length vs ≤ i → put_at i v (vs ++ null ∷ []) ≡ put_at i v vs
put_past zero v [] h = refl
put_past (suc i) v [] h = refl
put_past zero v (w ∷ vs) h = absurd (omega arith)
put_past (suc i) v (w ∷ vs) h = ap (λ (l : List TreeValue). w ∷ l) (put_past i v vs (omega arith))

-- values to which a null is pushed
pub put_pushed : (i : ℕ) (v : TreeValue) (old new : List Bson) (vs : List TreeValue) → new ≡ old ++ values.Null ∷ [] → length old ≤ i → put_at i v (map value_of old) ≡ vs → put_at i v (map value_of new) ≡ vs
put_pushed i v old new vs is h e =
    let few : length (map value_of old) ≤ i = simp length-map h in
    ap (λ (l : List Bson). put_at i v (map value_of l)) is ∙ ap (put_at i v) (map-append value_of old (values.Null ∷ [])) ∙ put_past i v (map value_of old) few ∙ e

pub put_within : (i : ℕ) (v : TreeValue) (vs : List TreeValue) → i < length vs → slice_set vs i v ≡ put_at i v vs
put_within i v [] h = absurd (omega arith)
put_within zero v (w ∷ vs) h = refl
put_within (suc i) v (w ∷ vs) h = ap (λ (l : List TreeValue). w ∷ l) (put_within i v vs (omega arith))

pub left_within : (leave : Leaving) (i : ℕ) (v : TreeValue) (vs : List TreeValue) → slice_get vs i ≡ Some v → slice_set vs i (unwrap_or (leave (Some v)) null) ≡ left_at leave i vs
left_within leave i v [] h = absurd cc
left_within leave zero v (w ∷ vs) h = let same : v ≡ w = cc in ap (λ (x : TreeValue). unwrap_or (leave (Some x)) null ∷ vs) same
left_within leave (suc i) v (w ∷ vs) h = ap (λ (l : List TreeValue). w ∷ l) (left_within leave i v vs h)

pub left_past : (leave : Leaving) (i : ℕ) (vs : List TreeValue) → slice_get vs i ≡ None → vs ≡ left_at leave i vs
left_past leave i [] h = refl
left_past leave zero (w ∷ vs) h = absurd cc
left_past leave (suc i) (w ∷ vs) h = ap (λ (l : List TreeValue). w ∷ l) (left_past leave i vs h)

-- what is left of an element, which is null where that is nothing
left_value : (left : Option Bson) (o : Option TreeValue) → option_map value_of left ≡ o → value_of (unwrap_or left values.Null) ≡ unwrap_or o null
left_value None o e = ap (λ (p : Option TreeValue). unwrap_or p null) e
left_value (Some b) o e = ap (λ (p : Option TreeValue). unwrap_or p null) e

pub got_at : (xs : List Bson) (i : ℕ) (x : Bson) → i < length xs → x ≡ get_or xs i x → slice_get xs i ≡ Some x
got_at [] i x h e = absurd (omega arith)
got_at (y ∷ ys) zero x h e = ap Some (sym e)
got_at (y ∷ ys) (suc i) x h e = got_at ys i x (omega arith) e

pub got_none : (xs : List Bson) (i : ℕ) → length xs ≤ i → slice_get xs i ≡ None
got_none [] i h = refl
got_none (y ∷ ys) zero h = absurd (omega arith)
got_none (y ∷ ys) (suc i) h = got_none ys i (omega arith)

-- copies of elements, of which one is set to what is left of it
pub left_set : (leave : Leaving) (i : ℕ) (copies elements : List Bson) (v : Bson) (left : Option Bson) → map value_of copies ≡ map value_of elements → slice_get elements i ≡ Some v
    → option_map value_of left ≡ leave (Some (value_of v)) → map value_of (slice_set copies i (unwrap_or left values.Null)) ≡ left_at leave i (map value_of elements)
left_set leave i copies elements v left same got is =
    let there : slice_get (map value_of elements) i ≡ Some (value_of v) = slice_get-map value_of elements i ∙ ap (option_map value_of) got in
    map-set value_of copies i _
    ∙ ap (slice_set (map value_of copies) i) (left_value left _ is)
    ∙ ap (λ (l : List TreeValue). slice_set l i (unwrap_or (leave (Some (value_of v))) null)) same
    ∙ left_within leave i (value_of v) (map value_of elements) there

-- copies of elements, of which none has this index
pub left_same : (leave : Leaving) (i : ℕ) (copies elements : List Bson) → map value_of copies ≡ map value_of elements → slice_get elements i ≡ None → map value_of copies ≡ left_at leave i (map value_of elements)
left_same leave i copies elements same got =
    same ∙ left_past leave i (map value_of elements) (slice_get-map value_of elements i ∙ ap (option_map value_of) got)

-- ---- indexes

-- the index of a step, by what is parsed of it
abbrev pub index_by : {E : Type 0} → List ℕ → Result ℕ E → Option ℕ
index_by s (Ok n) = if bytes_eq s (decimal n) then Some n else None
index_by s (Err e) = None

pub if_true : (b : Bool) (n : ℕ) → b ≡ true → (if b then Some n else None) ≡ Some n
if_true b n e = rw e refl

pub if_not : (b : Bool) (n : ℕ) → (b ≡ true → ⊥) → (if b then Some n else None) ≡ None
if_not true n h = absurd (h refl)
if_not false n h = refl

both : (p q : Bool) → p ≡ true → q ≡ true → (p && q) ≡ true
both p q e f = rw (e, f) refl

parts : (p q : Bool) → (p && q) ≡ true → (p ≡ true) × (q ≡ true)
parts true q e = (refl, e)
parts false q e = absurd cc

-- what a step writes is what is parsed of it
parsed : {E : Type 0} (s : List ℕ) (n : ℕ) (r : Result ℕ E) → ParsesUnsigned 32 10 s r → writes s n ≡ true → (r ≡ Ok n) × (s ≡ decimal n)
parsed s n r h w =
    let p = parts (nat_lt n (2 ^ 32)) (bytes_eq s (decimal n)) w in
    let small : n < 2 ^ 32 = grind (arith, nat_tests) in
    let is : s ≡ decimal n = (bytes_eq-Decides s (decimal n)).0 p.1 in (parse-decimal 32 n s r small (omega arith) is h, is)

index_when : {E : Type 0} (s : List ℕ) (m : ℕ) (r : Result ℕ E) → r ≡ Ok m → m < 2 ^ 32 → ParsesUnsigned 32 10 s r → (b : Bool) → bytes_eq s (decimal m) ≡ b → index_of s ≡ (if b then Some m else None)
index_when s m r is small h true e =
    let same : s ≡ decimal m = (bytes_eq-Decides s (decimal m)).0 e in
    let value : digits_value 10 s ≡ m = ap (digits_value 10) same ∙ (decimal_is_IsNumeral m (omega arith)).1 in
    let less : nat_lt m (2 ^ 32) ≡ true = grind (arith, nat_tests) in
    let w : writes s m ≡ true = both (nat_lt m (2 ^ 32)) (bytes_eq s (decimal m)) less e in
    if_true (writes s (digits_value 10 s)) (digits_value 10 s) (ap (writes s) value ∙ w) ∙ ap Some value
index_when s m r is small h false e =
    let n = digits_value 10 s in
    if_not (writes s n) n (λ w.
    let q = parsed s n r h w in
    let same : m ≡ n = cc in
    let yes : bytes_eq s (decimal m) ≡ true = ap (λ (k : ℕ). bytes_eq s (decimal k)) same ∙ (bytes_eq-Decides s (decimal n)).1 q.1 in absurd (cc (yes, e)))

pub index_read : {E : Type 0} (s : List ℕ) (r : Result ℕ E) → ParsesUnsigned 32 10 s r → index_of s ≡ index_by s r
index_read {E} s (Ok m) h =
    let small : m < 2 ^ 32 = omega (arith, h.0.1, h.1) in index_when {E = E} s m (Ok m) refl small h (bytes_eq s (decimal m)) refl
index_read s (Err e) h =
    let n = digits_value 10 s in
    if_not (writes s n) n (λ w. let q = parsed s n (Err e) h w in absurd (cc (q.0)))
