-- The index of a name in a list, as names are appended and removed.
use Rattle.std.proofs.Common.{◌≡◌, ℕ, zero, suc, zero-add, ◌+◌, ◌-◌, ◌<◌, ◌≤◌, Bool, true, false, cond, ◌||◌, List, [], ◌∷◌, ◌++◌, Option, Some, None, length, map, take, get_or, refl, sym, ap, ◌∙◌, arith, nat_lt, String, string_bytes, option_map}
use Rattle.std.specs.Prelude.{is_some, IfSome, remove}
use Rattle.std.specs.declared.alloc.Global.{Global}
use Rattle.std.specs.BTreeMap.{BTreeMap, Updates, UpdatesBy}
use Rattle.std.specs.Cmp.Lexicographic.{slice_cmp}
use Rattle.std.specs.List.{AllByRecursion, AllZip, IsDistinct, list_any, position_from}
use Rattle.std.specs.Map.{lookup}
use Rattle.std.specs.Option.{option_or}
use Rattle.std.specs.Str.{bytes_eq}
use Rattle.std.specs.Ordering.{is_eq, nat_cmp}
use Rattle.std.specs.String.{string_cmp, string_eq}
use Rattle.std.proofs.lemmas.Grind.{common_steps}
use Rattle.std.proofs.lemmas.Iterator.Adapters.{position_from-zero}
use Rattle.std.proofs.lemmas.Map.Made.{lookup-map_values}
use Rattle.std.proofs.lemmas.Map.Text.{btree_map_updates_text}
use Rattle.std.proofs.lemmas.Slice.Eq.{bytes_eq-Decides}
use Rattle.bson_doc.specs.NameList.{IsIndex, index_of}
use Rattle.bson_doc.proofs.Names.{bytes_eq-sym}

abbrev Names : Type 0
Names = List (String Global)

-- whether these bytes are those of the name
abbrev pub is : List ℕ → String Global → Bool
is q k = bytes_eq q (string_bytes k)

-- the index of the name with these bytes, counted from j
abbrev at : List ℕ → ℕ → Names → Option ℕ
at q j ks = position_from (is q) j ks

from_zero : (q : List ℕ) (ks : Names) → index_of q ks ≡ at q 0 ks
from_zero q ks = position_from-zero (is q) ks

-- ---- whether a name is there

any_at : (q : List ℕ) (j : ℕ) (ks : Names) → is_some (at q j ks) ≡ list_any (is q) ks
any_at q j [] = refl
any_at q j (k ∷ ks) = elim (is q k) as (λ b. is_some (cond b (Some j) (at q (j + 1) ks)) ≡ (b || list_any (is q) ks)) [ true ↦ refl | false ↦ any_at q (j + 1) ks ]

pub any_found : (q : List ℕ) (ks : Names) → is_some (index_of q ks) ≡ list_any (is q) ks
any_found q ks = ap is_some (from_zero q ks) ∙ any_at q 0 ks

pub within : (q : List ℕ) (ks : Names) → IfSome (index_of q ks) (λ i. i < length ks)
within q ks = grind (arith, common_steps)

none_there : (o : Option ℕ) → is_some o ≡ false → o ≡ None
none_there None e = refl
none_there (Some i) e = absurd cc

absent_at : (q : List ℕ) (j : ℕ) (ks : Names) → list_any (is q) ks ≡ false → at q j ks ≡ None
absent_at q j ks absent = none_there (at q j ks) (any_at q j ks ∙ absent)

-- ---- a name that is appended

at-push : (q : List ℕ) (j : ℕ) (ks : Names) (k : String Global) → at q j (ks ++ k ∷ []) ≡ option_or (at q j ks) (cond (is q k) (Some (j + length ks)) None)
at-push q j [] k = let e : j + 0 ≡ j = omega arith in rw e refl
at-push q j (m ∷ ks) k =
    let e : j + 1 + length ks ≡ j + suc (length ks) = omega arith in
    elim (is q m) as (λ b. cond b (Some j) (at q (j + 1) (ks ++ k ∷ [])) ≡ option_or (cond b (Some j) (at q (j + 1) ks)) (cond (is q k) (Some (j + suc (length ks))) None))
    [ true ↦ refl | false ↦ at-push q (j + 1) ks k ∙ ap (λ n. option_or (at q (j + 1) ks) (cond (is q k) (Some n) None)) e ]

first_or_last : (b : Bool) (o : Option ℕ) (n : ℕ) → (b ≡ true → o ≡ None) → cond b (Some n) o ≡ option_or o (cond b (Some n) None)
first_or_last true o n h = rw (h refl) refl
first_or_last false None n h = refl
first_or_last false (Some i) n h = refl

-- the index of a name behind those that were there
pub pushed : (q : List ℕ) (ks : Names) (k : String Global) → list_any (is (string_bytes k)) ks ≡ false → cond (bytes_eq (string_bytes k) q) (Some (length ks)) (index_of q ks) ≡ index_of q (ks ++ k ∷ [])
pushed q ks k absent =
    rw (from_zero q ks, from_zero q (ks ++ k ∷ []), at-push q 0 ks k, zero-add, bytes_eq-sym (string_bytes k) q)
    (first_or_last (is q k) (at q 0 ks) (length ks) (λ e. absent_at q 0 ks (rw ((bytes_eq-Decides q (string_bytes k)).0 e) absent)))

-- ---- names that are all different

differs : (k : String Global) (ms : Names) (i : ℕ) (m : String Global) → AllByRecursion (λ y. string_eq k y ≡ false) ms → i < length ms → get_or ms i m ≡ m → string_eq k m ≡ false
differs k [] i m a lt e = absurd (omega arith)
differs k (n ∷ ms) zero m a lt e = rw (sym e) a.0
differs k (n ∷ ms) (suc i) m a lt e = differs k ms i m a.1 (omega arith) e

pub absent_before : (ks : Names) (i : ℕ) (k : String Global) → IsDistinct string_eq ks → i < length ks → get_or ks i k ≡ k → list_any (is (string_bytes k)) (take i ks) ≡ false
unfolding IsDistinct
absent_before [] i k d lt e = absurd (omega arith)
absent_before (m ∷ ks) zero k d lt e = refl
absent_before (m ∷ ks) (suc i) k d lt e = rw (bytes_eq-sym (string_bytes k) (string_bytes m), differs m ks i k d.0 (omega arith) e) (absent_before ks i k d.1 (omega arith) e)

-- ---- a name that is removed

all_without : (P : String Global → Type 0) (ks : Names) (i : ℕ) → AllByRecursion P ks → AllByRecursion P (remove ks i)
all_without P [] zero a = tt
all_without P [] (suc i) a = tt
all_without P (k ∷ ks) zero a = a.1
all_without P (k ∷ ks) (suc i) a = (a.0, all_without P ks i a.1)

pub still_distinct : (ks : Names) (i : ℕ) → IsDistinct string_eq ks → IsDistinct string_eq (remove ks i)
unfolding IsDistinct
still_distinct [] zero d = tt
still_distinct [] (suc i) d = tt
still_distinct (k ∷ ks) zero d = d.1
still_distinct (k ∷ ks) (suc i) d = (all_without (λ y. string_eq k y ≡ false) ks i d.0, still_distinct ks i d.1)

-- an index after the name at `gone` is removed
abbrev pub closed_up : ℕ → ℕ → ℕ
closed_up gone i = cond (nat_lt gone i) (i - 1) i

closes : (gone j : ℕ) → gone ≤ j → closed_up gone (j + 1) ≡ j
closes gone j le = grind (arith, common_steps)

stays : (gone j : ℕ) → j ≤ gone → closed_up gone j ≡ j
stays gone j le = grind (arith, common_steps)

all_close : (q : List ℕ) (ks : Names) (gone j : ℕ) → gone ≤ j → option_map (closed_up gone) (at q (j + 1) ks) ≡ at q j ks
all_close q [] gone j le = refl
all_close q (k ∷ ks) gone j le =
    elim (is q k) as (λ b. option_map (closed_up gone) (cond b (Some (j + 1)) (at q (j + 1 + 1) ks)) ≡ cond b (Some j) (at q (j + 1) ks))
    [ true ↦ ap Some (closes gone j le) | false ↦ all_close q ks gone (j + 1) (omega arith) ]

none_of : (k : String Global) (ms : Names) → AllByRecursion (λ y. string_eq k y ≡ false) ms → list_any (is (string_bytes k)) ms ≡ false
none_of k [] a = refl
none_of k (m ∷ ms) a = rw a.0 (none_of k ms a.1)

removed_at : (q : List ℕ) (j : ℕ) (ks : Names) (i : ℕ) (k : String Global) → IsDistinct string_eq ks → i < length ks → get_or ks i k ≡ k
    → option_map (closed_up (j + i)) (cond (bytes_eq (string_bytes k) q) None (at q j ks)) ≡ at q j (remove ks i)
unfolding IsDistinct
removed_at q j [] i k d lt e = absurd (omega arith)
removed_at q j (m ∷ ks) zero k d lt e =
    let here : j + 0 ≡ j = omega arith in
    rw (here, sym e, bytes_eq-sym (string_bytes m) q)
    ((elim (is q m) as (λ b. (b ≡ true → at q j ks ≡ None) → option_map (closed_up j) (cond b None (cond b (Some j) (at q (j + 1) ks))) ≡ at q j ks)
    [ true ↦ λ h. sym (h refl) | false ↦ λ h. all_close q ks j j (omega arith) ])
    (λ same. absent_at q j ks (rw ((bytes_eq-Decides q (string_bytes m)).0 same) (none_of m ks d.0))))
removed_at q j (m ∷ ks) (suc i) k d lt e =
    let there : j + suc i ≡ j + 1 + i = omega arith in
    let other : is q m ≡ true → bytes_eq (string_bytes k) q ≡ false = λ same. rw ((bytes_eq-Decides q (string_bytes m)).0 same, bytes_eq-sym (string_bytes k) (string_bytes m)) (differs m ks i k d.0 (omega arith) e) in
    (elim (is q m) as (λ b. (b ≡ true → bytes_eq (string_bytes k) q ≡ false) → option_map (closed_up (j + suc i)) (cond (bytes_eq (string_bytes k) q) None (cond b (Some j) (at q (j + 1) ks))) ≡ cond b (Some j) (at q (j + 1) (remove ks i))) [
      | true ↦ λ h. rw (h refl) (ap Some (stays (j + suc i) j (omega arith)))
      | false ↦ λ h. rw there (removed_at q (j + 1) ks i k d.1 (omega arith) e)
    ]) other

-- the index of a name after another one is removed
pub removed : (q : List ℕ) (ks : Names) (i : ℕ) (k : String Global) → IsDistinct string_eq ks → i < length ks → get_or ks i k ≡ k
    → option_map (closed_up i) (cond (bytes_eq (string_bytes k) q) None (index_of q ks)) ≡ index_of q (remove ks i)
removed q ks i k d lt e =
    let from : 0 + i ≡ i = omega arith in
    rw (from_zero q ks, from_zero q (remove ks i))
    (ap (λ n. option_map (closed_up n) (cond (bytes_eq (string_bytes k) q) None (at q 0 ks))) (sym from) ∙ removed_at q 0 ks i k d lt e)

-- ---- the tree of names

all_copied : (k k' : String Global) (ms copies : Names) → string_bytes k' ≡ string_bytes k → AllZip (λ s t. string_bytes t ≡ string_bytes s) ms copies
    → AllByRecursion (λ y. string_eq k y ≡ false) ms → AllByRecursion (λ y. string_eq k' y ≡ false) copies
all_copied k k' [] [] e h a = tt
all_copied k k' [] (m ∷ ms) e h a = absurd h
all_copied k k' (m ∷ ms) [] e h a = absurd h
all_copied k k' (m ∷ ms) (c ∷ cs) e h a = ((λ i. bytes_eq (e i) (h.0 i)) ∙ a.0, all_copied k k' ms cs e h.1 a.1)

-- copies of names that are all different are all different
pub distinct_copied : (ks copies : Names) → AllZip (λ s t. string_bytes t ≡ string_bytes s) ks copies → IsDistinct string_eq ks → IsDistinct string_eq copies
unfolding IsDistinct
distinct_copied [] [] h d = tt
distinct_copied [] (m ∷ ms) h d = absurd h
distinct_copied (k ∷ ks) [] h d = absurd h
distinct_copied (k ∷ ks) (c ∷ cs) h d = (all_copied k c ks cs h.0 h.1 d.0, distinct_copied ks cs h.1 d.1)

-- a tree that a copy of a new name is put into
pub tree_grows : (ks : Names) (k copy : String Global) (old new : BTreeMap (String Global) ℕ) (n : ℕ) → string_bytes copy ≡ string_bytes k → n ≡ length ks
    → list_any (is (string_bytes k)) ks ≡ false → IsIndex old ks → Updates string_cmp old new copy (Some n) → IsIndex new (ks ++ k ∷ [])
tree_grows ks k copy old new n same many absent before updates q =
    btree_map_updates_text (string_bytes copy) old new (Some n) updates q ∙ rw (before q, same, many) (pushed q ks k absent)

-- a tree from which a name is removed, and in which each index after it is one less
pub tree_shrinks : (ks : Names) (i : ℕ) (k : String Global) (query : List ℕ) (old without new : BTreeMap (String Global) ℕ) → query ≡ string_bytes k → IsDistinct string_eq ks → i < length ks → get_or ks i k ≡ k
    → IsIndex old ks → UpdatesBy string_cmp (λ m. slice_cmp nat_cmp query (string_bytes m)) old without None
    → new.entries ≡ map (λ e. (e.0, closed_up i e.1)) without.entries → IsIndex new (remove ks i)
tree_shrinks ks i k query old without new same d lt e before updates kept q =
    let found = btree_map_updates_text query old without None updates q in
    ap (lookup (λ m. is_eq (slice_cmp nat_cmp q (string_bytes m)))) kept ∙ lookup-map_values (closed_up i) (λ m. is_eq (slice_cmp nat_cmp q (string_bytes m))) without.entries
    ∙ ap (option_map (closed_up i)) (found ∙ rw (before q, same) refl) ∙ removed q ks i k d lt e

-- ---- a name whose index is known

differ_false : (q k : List ℕ) → (k ≡ q → ⊥) → bytes_eq q k ≡ false
differ_false q k other = go (bytes_eq q k) refl
  where
    go : (b : Bool) → bytes_eq q k ≡ b → bytes_eq q k ≡ false
    go true e = absurd (other (sym ((bytes_eq-Decides q k).0 e)))
    go false e = e

pub nowhere_any : (q : List ℕ) (ks : Names) → ((i : ℕ) → i < length ks → get_or (map string_bytes ks) i [] ≡ q → ⊥) → list_any (is q) ks ≡ false
nowhere_any q [] other = refl
nowhere_any q (k ∷ ks) other = rw (differ_false q (string_bytes k) (other 0 (omega arith)), nowhere_any q ks (λ i lt e. other (suc i) (omega (arith, lt)) e)) refl

pub absent_index : (q : List ℕ) (ks : Names) → list_any (is q) ks ≡ false → index_of q ks ≡ None
absent_index q ks absent = from_zero q ks ∙ absent_at q 0 ks absent

differs_bytes : (k : String Global) (ms : Names) (i : ℕ) → AllByRecursion (λ y. string_eq k y ≡ false) ms → i < length ms → bytes_eq (get_or (map string_bytes ms) i []) (string_bytes k) ≡ false
differs_bytes k [] i a lt = absurd (omega (arith, lt))
differs_bytes k (m ∷ ms) zero a lt = bytes_eq-sym (string_bytes m) (string_bytes k) ∙ a.0
differs_bytes k (m ∷ ms) (suc i) a lt = differs_bytes k ms i a.1 (omega (arith, lt))

found_from : (q : List ℕ) (j : ℕ) (ks : Names) (i : ℕ) → IsDistinct string_eq ks → i < length ks → get_or (map string_bytes ks) i [] ≡ q → at q j ks ≡ Some (j + i)
unfolding IsDistinct
found_from q j [] i d lt e = absurd (omega (arith, lt))
found_from q j (k ∷ ks) zero d lt e = let z : j + 0 ≡ j = omega arith in rw ((bytes_eq-Decides q (string_bytes k)).1 (sym e), z) refl
found_from q j (k ∷ ks) (suc i) d lt e =
    let other : is q k ≡ false = ap (λ (x : List ℕ). bytes_eq x (string_bytes k)) (sym e) ∙ differs_bytes k ks i d.0 (omega (arith, lt)) in
    let there : j + 1 + i ≡ j + suc i = omega arith in
    rw other (found_from q (j + 1) ks i d.1 (omega (arith, lt)) e ∙ ap Some there)

-- of names that are all different, the index of the one at `i` is `i`
pub found_at : (q : List ℕ) (ks : Names) (i : ℕ) → IsDistinct string_eq ks → i < length ks → get_or (map string_bytes ks) i [] ≡ q → index_of q ks ≡ Some i
found_at q ks i d lt e = let z : 0 + i ≡ i = omega arith in from_zero q ks ∙ found_from q 0 ks i d lt e ∙ ap Some z
