-- Paths, one step after another, and what they reach of the elements of an array.
use Rattle.std.proofs.Common.{◌≡◌, ◌≤◌, ℕ, ◌+◌, Bool, true, false, ◌&&◌, ◌||◌, List, [], ◌∷◌, Option, Some, None, length, refl, sym, ap, ◌∙◌, arith}
use Rattle.std.specs.Borrow.{Bor}
use Rattle.std.specs.Prelude.{MatchOption, ◌==◌, if◌then◌else◌, is_some}
use Rattle.std.specs.Fmt.{decimal}
use Rattle.std.specs.List.{list_any, position_or_len}
use Rattle.std.specs.Str.{bytes_eq}
use Rattle.std.proofs.lemmas.List.{length-append}
use Rattle.std.proofs.lemmas.List.Elements.{All-from_get_or}
use Rattle.std.proofs.lemmas.List.Folds.{list_any-append}
use Rattle.std.proofs.lemmas.List.Splits.{length-slice_split, slice_split_first, slice_split_none}
use Rattle.std.proofs.lemmas.List.Sums.{fails_before_first}
use Rattle.std.proofs.lemmas.Str.Pattern.{IsSplitOnceResult, split_once_first, split_parts}
use Rattle.bson_elem.specs.declared.kinds.Kind.TheVariants as kinds
use Rattle.bson_elem.specs.{no_code}
use Rattle.bson_raw.specs.{TreeValue, document_value}
use Rattle.bson_doc.specs.Array.{array_tree}
use Rattle.doc_query.specs.Paths.{Reached, by_index, by_name, in_each, in_element, in_one, is_container, reached, steps, steps_left}
use Rattle.doc_query.proofs.Owning.{values_of_array}

one_step : (path : List ℕ) → position_or_len (λ b. b == 46) path ≡ length path → steps path ≡ path ∷ []
one_step path e =
    slice_split_none (λ b. b == 46) path
    (All-from_get_or (λ b. (b == 46) ≡ false) path 0 (λ i inside. fails_before_first (λ b. b == 46) path i 0 (omega (arith, e, inside))))

-- a path is cut at its first dot
pub first_cut : (path : List ℕ) (r : Option (Bor (List ℕ) × Bor (List ℕ))) → IsSplitOnceResult 46 path r
    → MatchOption r (steps path ≡ path ∷ []) (λ x. (steps path ≡ x.0.now ∷ steps x.1.now) × (length x.1.now + 1 ≤ length path))
first_cut path None h = one_step path (split_once_first 46 path None h (omega arith))
first_cut path (Some x) h =
    let cut = split_once_first 46 path (Some x) h (omega arith) in
    let parts = split_parts 46 path (Some x) h (omega arith) in (
      slice_split_first (λ b. b == 46) path 0 cut.0 ∙ (λ i. sym cut.1 i ∷ steps (sym cut.2 i)),
      omega (arith, ap length parts.0, length-append x.0.now (46 ∷ x.1.now)),
    )

if_any : (test : Option TreeValue → Bool) (values : Reached) (b : Bool) → list_any test (if b then values else []) ≡ (b && list_any test values)
if_any test values true = refl
if_any test values false = refl

-- one of the values that are reached from an element passes a test
pub any_in_one : (test : Option TreeValue → Bool) (s : List ℕ) (ss : List (List ℕ)) (rest : Option TreeValue → Reached) (i : ℕ) (v : TreeValue)
    → list_any test (in_one s ss rest i v) ≡ (list_any test (by_name s rest v) || (bytes_eq s (decimal i) && list_any test (by_index ss rest v)))
any_in_one test s ss rest i v =
    list_any-append test (by_name s rest v) (if bytes_eq s (decimal i) then by_index ss rest v else [])
    ∙ ap (λ (b : Bool). list_any test (by_name s rest v) || b) (if_any test (by_index ss rest v) (bytes_eq s (decimal i)))

-- the first element reaches one, or those after it do
pub any_in_each : (test : Option TreeValue → Bool) (f : ℕ → TreeValue → Reached) (i : ℕ) (v : TreeValue) (vs : List TreeValue)
    → list_any test (in_each f i (v ∷ vs)) ≡ (list_any test (f i v) || list_any test (in_each f (i + 1) vs))
any_in_each test f i v vs = list_any-append test (f i v) (in_each f (i + 1) vs)

-- what is reached from an array is reached from its elements
pub reach_array : (test : Option TreeValue → Bool) (path s : List ℕ) (ss : List (List ℕ)) (elements vs : List TreeValue) → steps path ≡ s ∷ ss → elements ≡ vs
    → list_any test (in_each (in_element s ss) 0 elements) ≡ list_any test (reached (steps path) (Some (document_value kinds.Array no_code (array_tree 0 vs))))
reach_array test path s ss elements vs cut same =
    ap (λ (l : List TreeValue). list_any test (in_each (in_element s ss) 0 l)) (same ∙ sym (values_of_array 0 vs))
    ∙ ap (λ (l : List (List ℕ)). list_any test (reached l (Some (document_value kinds.Array no_code (array_tree 0 vs))))) (sym cut)

by_index_longer : (ss : List (List ℕ)) (n : ℕ) (rest : Option TreeValue → Reached) (v : TreeValue) → length ss ≡ n + 1 → by_index ss rest v ≡ (if is_container v then rest (Some v) else [])
by_index_longer [] n rest v e = absurd (omega arith)
by_index_longer (s ∷ ss) n rest v e = refl

-- a path that goes on has a step at least
pub by_index_more : (left : Option (Bor (List ℕ))) (rest : Option TreeValue → Reached) (v : TreeValue) → is_some left ≡ true → by_index (steps_left left) rest v ≡ (if is_container v then rest (Some v) else [])
by_index_more None rest v e = absurd cc
by_index_more (Some path) rest v e = by_index_longer (steps path.now) _ rest v (length-slice_split (λ b. b == 46) path.now)
