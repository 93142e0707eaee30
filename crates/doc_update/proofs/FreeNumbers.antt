-- The number of an `_id` that is made is that of no document: there are more numbers than documents, and a document has the `_id` of one number at most.
use Rattle.std.proofs.Common.{◌≡◌, ◌∙◌, ℕ, zero, suc, ◌+◌, ◌<◌, ◌≤◌, ◌^◌, Bool, true, false, ◌||◌, List, [], ◌∷◌, ◌++◌, length, length-append, drop, Option, Some, None, refl, ap, sym, true≢false, arith}
use Rattle.std.specs.Prelude.{if◌then◌else◌, pos}
use Rattle.std.specs.Cmp.Lexicographic.{slice_cmp}
use Rattle.std.specs.Int.{w64, from_be_bytes, to_be_bytes}
use Rattle.std.specs.Ordering.{int_cmp, is_eq, nat_cmp, ordering_then}
use Rattle.std.specs.declared.cmp.Ordering.{Ordering}
use Rattle.std.specs.declared.cmp.Ordering.TheVariants.{Less, Equal, Greater}
use Rattle.std.proofs.lemmas.Map.Text.{is_eq-slice_cmp}
use Rattle.std.proofs.lemmas.Nat.{from_be_bytes-to_be_bytes_8}
use Rattle.std.proofs.lemmas.Slice.Eq.{bytes_eq-Decides}
use Rattle.bson_raw.specs.{TreeValue, document_value, leaf_value}
use Rattle.doc_query.specs.Comparing.{PlaceView, lettered, place, place_order}
use Rattle.doc_query.specs.Equality.{equal_at}
use Rattle.doc_query.specs.{equal}
use Rattle.doc_update.specs.Identity.{free_from, free_number, id_in, is_same_id, is_taken, made_id}
use Rattle.doc_update.proofs.Numbering.{taken}

-- ---- a value is the `_id` of one number at most

abbrev id_bytes : ℕ → List ℕ
id_bytes n = 0 ∷ 0 ∷ 0 ∷ 0 ∷ to_be_bytes w64 n

last_ties : (o p : Ordering) → is_eq (ordering_then o p) ≡ true → is_eq p ≡ true
last_ties Less p e = absurd (true≢false (sym e))
last_ties Equal p e = e
last_ties Greater p e = absurd (true≢false (sym e))

its_bytes : (p : PlaceView) (bytes : List ℕ) → is_eq (place_order p (lettered 5 bytes)) ≡ true → p.bytes ≡ bytes
its_bytes p bytes e =
    let rest = last_ties (nat_cmp p.bracket 5) (ordering_then (int_cmp p.number (pos 0)) (slice_cmp nat_cmp p.bytes bytes)) e in
    (bytes_eq-Decides p.bytes bytes).0 (sym (is_eq-slice_cmp p.bytes bytes) ∙ last_ties (int_cmp p.number (pos 0)) (slice_cmp nat_cmp p.bytes bytes) rest)

by_place : (v : TreeValue) (o : Option PlaceView) (a b : ℕ) → equal_at v (made_id a) o (Some (lettered 5 (id_bytes a))) ≡ true → equal_at v (made_id b) o (Some (lettered 5 (id_bytes b))) ≡ true
    → id_bytes a ≡ id_bytes b
by_place v None a b e f = absurd (true≢false (sym e))
by_place v (Some p) a b e f = sym (its_bytes p (id_bytes a) e) ∙ its_bytes p (id_bytes b) f

same_bytes : (v : TreeValue) (a b : ℕ) → equal v (made_id a) ≡ true → equal v (made_id b) ≡ true → id_bytes a ≡ id_bytes b
same_bytes (leaf_value k x) a b e f = by_place (leaf_value k x) (place (leaf_value k x)) a b e f
same_bytes (document_value k c t) a b e f = by_place (document_value k c t) (place (document_value k c t)) a b e f

one_number : (a b : ℕ) → a < 2 ^ 64 → b < 2 ^ 64 → id_bytes a ≡ id_bytes b → a ≡ b
one_number a b la lb e = sym (from_be_bytes-to_be_bytes_8 a la) ∙ ap (λ (bs : List ℕ). from_be_bytes w64 (drop 4 bs)) e ∙ from_be_bytes-to_be_bytes_8 b lb

has_one : (o : Option TreeValue) (a b : ℕ) → a < 2 ^ 64 → b < 2 ^ 64 → is_same_id o (Some (made_id a)) ≡ true → is_same_id o (Some (made_id b)) ≡ true → a ≡ b
has_one None a b la lb e f = absurd (true≢false (sym e))
has_one (Some v) a b la lb e f = one_number a b la lb (same_bytes v a b e f)

-- ---- documents without the first one that has the `_id` of a number

abbrev has : ℕ → TreeValue → Bool
has n v = is_same_id (id_in v) (Some (made_id n))

abbrev has_in : List TreeValue → ℕ → Bool
has_in vs n = is_taken (Some (made_id n)) vs

abbrev without : ℕ → List TreeValue → List TreeValue
without n [] = []
without n (v ∷ vs) = if has n v then vs else v ∷ without n vs

shorter : (n : ℕ) (vs : List TreeValue) → has_in vs n ≡ true → suc (length (without n vs)) ≡ length vs
shorter n [] e = absurd (true≢false (sym e))
shorter n (v ∷ vs) e = go (has n v) e (shorter n vs)
  where
    go : (b : Bool) → (if b then true else has_in vs n) ≡ true → (has_in vs n ≡ true → suc (length (without n vs)) ≡ length vs) → suc (length (if b then vs else v ∷ without n vs)) ≡ suc (length vs)
    go true is rest = refl
    go false is rest = ap suc (rest is)

others : (n m : ℕ) (vs : List TreeValue) → n < 2 ^ 64 → m < 2 ^ 64 → (n ≡ m → ⊥) → has_in (without n vs) m ≡ has_in vs m
others n m [] ln lm apart = refl
others n m (v ∷ vs) ln lm apart = go (has n v) (has m v) refl refl (others n m vs ln lm apart)
  where
    go : (b c : Bool) → has n v ≡ b → has m v ≡ c → has_in (without n vs) m ≡ has_in vs m → has_in (if b then vs else v ∷ without n vs) m ≡ (if c then true else has_in vs m)
    go true true e f rest = absurd (apart (has_one (id_in v) n m ln lm e f))
    go true false e f rest = refl
    go false c e f rest = ap (λ (x : Bool). if x then true else has_in (without n vs) m) f ∙ ap (λ (x : Bool). if c then true else x) rest

-- ---- the first number without a property, of so many, or the one behind them

abbrev first : ℕ → ℕ → (ℕ → Bool) → ℕ
first zero n p = n
first (suc k) n p = if p n then first k (n + 1) p else n

first_same : (k n : ℕ) (p q : ℕ → Bool) → ((m : ℕ) → n ≤ m → m < n + k → p m ≡ q m) → first k n p ≡ first k n q
first_same zero n p q h = refl
first_same (suc k) n p q h =
    ap (λ (b : Bool). if b then first k (n + 1) p else n) (h n (omega arith) (omega arith))
    ∙ ap (λ (x : ℕ). if q n then x else n) (first_same k (n + 1) p q (λ m le lt. h m (omega (arith, le)) (omega (arith, lt))))

in_range : (k n : ℕ) (p : ℕ → Bool) → (n ≤ first k n p) × (first k n p ≤ n + k)
in_range zero n p = (omega arith, omega arith)
in_range (suc k) n p = go (p n) (in_range k (n + 1) p)
  where
    go : (b : Bool) → (n + 1 ≤ first k (n + 1) p) × (first k (n + 1) p ≤ n + 1 + k) → (n ≤ (if b then first k (n + 1) p else n)) × ((if b then first k (n + 1) p else n) ≤ n + suc k)
    go true r = (omega (arith, r.0), omega (arith, r.1))
    go false r = (omega arith, omega arith)

-- of more numbers than documents one is free
free : (k n : ℕ) (vs : List TreeValue) → length vs ≤ k → n + k < 2 ^ 64 → has_in vs (first k n (has_in vs)) ≡ false
free zero n [] le fits = refl
free zero n (v ∷ vs) le fits = absurd (omega (arith, le))
free (suc k) n vs le fits = go (has_in vs n) refl (free k (n + 1) (without n vs))
  where
    go : (b : Bool) → has_in vs n ≡ b → (length (without n vs) ≤ k → n + 1 + k < 2 ^ 64 → has_in (without n vs) (first k (n + 1) (has_in (without n vs))) ≡ false)
        → has_in vs (if b then first k (n + 1) (has_in vs) else n) ≡ false
    go false e rest = e
    go true e rest =
        let less = without n vs in
        let size = shorter n vs e in
        let m = first k (n + 1) (has_in less) in
        let range = in_range k (n + 1) (has_in less) in
        let same = first_same k (n + 1) (has_in vs) (has_in less) (λ i above below. sym (others n i vs (omega (arith, fits)) (omega (arith, fits, below)) (λ is. omega (arith, is, above)))) in
        ap (has_in vs) same ∙ sym (others n m vs (omega (arith, fits)) (omega (arith, fits, range.1)) (λ is. omega (arith, is, range.0)))
        ∙ rest (omega (arith, le, size)) (omega (arith, fits))

-- ---- two lists of documents

in_both : (m : ℕ) (vs ws : List TreeValue) → has_in (vs ++ ws) m ≡ taken m vs ws
in_both m [] ws = refl
in_both m (v ∷ vs) ws = go (has m v) (in_both m vs ws)
  where
    go : (b : Bool) → has_in (vs ++ ws) m ≡ taken m vs ws → (if b then true else has_in (vs ++ ws) m) ≡ ((if b then true else has_in vs m) || has_in ws m)
    go true e = refl
    go false e = e

is_first : (k n : ℕ) (vs ws : List TreeValue) → free_from k n vs ws ≡ first k n (has_in (vs ++ ws))
is_first zero n vs ws = refl
is_first (suc k) n vs ws =
    ap (λ (b : Bool). if b then free_from k (n + 1) vs ws else n) (sym (in_both n vs ws))
    ∙ ap (λ (x : ℕ). if has_in (vs ++ ws) n then x else n) (is_first k (n + 1) vs ws)

in_neither : (a b : Bool) → (a || b) ≡ false → (a ≡ false) × (b ≡ false)
in_neither true b e = absurd (true≢false e)
in_neither false b e = (refl, e)

pub made_is_free : (vs ws : List TreeValue) → length vs + length ws < 2 ^ 63
    → (is_taken (Some (made_id (free_number vs ws))) vs ≡ false) × (is_taken (Some (made_id (free_number vs ws))) ws ≡ false)
made_is_free vs ws fits =
    let count = length vs + length ws in
    let all = length-append vs ws in
    in_neither (has_in vs (free_number vs ws)) (has_in ws (free_number vs ws))
    (sym (in_both (free_number vs ws) vs ws) ∙ ap (has_in (vs ++ ws)) (is_first count count vs ws) ∙ free count count (vs ++ ws) (omega (arith, all)) (omega (arith, fits)))
