-- The index of the collection of a namespace, counted up to.
use Rattle.std.proofs.Common.{◌≡◌, ◌<◌, ℕ, zero, suc, ◌+◌, Bool, true, false, List, [], ◌∷◌, ◌++◌, Option, Some, None, length, map, drop, get_or, refl, sym, ap, ◌∙◌, add-one, arith}
use Rattle.std.specs.Prelude.{option_map, if◌then◌else◌, slice_set}
use Rattle.std.specs.List.{remove}
use Rattle.std.proofs.Math.Seq.{drop-cons}
use Rattle.bson_doc.specs.Bson.{value_of}
use Rattle.bson_raw.specs.{TreeValue}
use Rattle.test_store.specs.declared.store.Collection.{Collection}
use Rattle.test_store.specs.Indexes.{IndexView, index_view}
use Rattle.test_store.specs.Held.{CollectionView, NamespaceView, collection_index, collection_of, collection_with, documents_in, held_indexes, holding, is_same_namespace, namespace_buf, with_any, with_documents, with_indexes_of, with_replaced, without_collection}

-- an index counted from that one
abbrev pub counted_from : ℕ → Option ℕ → Option ℕ
counted_from i None = None
counted_from i (Some k) = Some (i + k)

pub from_zero : (o : Option ℕ) → o ≡ counted_from 0 o
from_zero None = refl
from_zero (Some k) = ap Some (omega arith)

from_next : (i : ℕ) (o : Option ℕ) → counted_from i (option_map (λ k. suc k) o) ≡ counted_from (i + 1) o
from_next i None = refl
from_next i (Some k) = ap Some (omega arith)

-- the index of a namespace, of a first collection and others
index_cons : (n : NamespaceView) (i : ℕ) (c : CollectionView) (cs : List CollectionView) (b : Bool) → is_same_namespace n c.namespace ≡ b
    → counted_from i (collection_index n (c ∷ cs)) ≡ (if b then Some i else counted_from (i + 1) (collection_index n cs))
index_cons n i c cs true e = rw e (ap Some (omega arith))
index_cons n i c cs false e = rw e (from_next i (collection_index n cs))

pub left_from : (cs : List Collection) (i : ℕ) (x : Collection) → i < length cs → x ≡ get_or cs i x → drop i cs ≡ x ∷ drop (i + 1) cs
left_from cs i x inside is = drop-cons cs i x inside ∙ ap (λ (y : Collection). y ∷ drop (suc i) cs) (sym is) ∙ ap (λ (j : ℕ). x ∷ drop j cs) (sym (add-one i))

-- what is left from an index on, counted from there, is what is left from the next on, or the index
pub step : (n : NamespaceView) (cs : List Collection) (i : ℕ) (x : Collection) (b : Bool) → i < length cs → x ≡ get_or cs i x → b ≡ is_same_namespace n (namespace_buf x.namespace)
    → counted_from i (collection_index n (map collection_of (drop i cs))) ≡ (if b then Some i else counted_from (i + 1) (collection_index n (map collection_of (drop (i + 1) cs))))
step n cs i x b inside is same =
    ap (λ (l : List Collection). counted_from i (collection_index n (map collection_of l))) (left_from cs i x inside is)
    ∙ index_cons n i (collection_of x) (map collection_of (drop (i + 1) cs)) b (sym same)

-- ---- what stands at the index

index_of_tail : (o : Option ℕ) (i : ℕ) → option_map (λ k. suc k) o ≡ Some i → (k : ℕ) × (i ≡ suc k) × (o ≡ Some k)
index_of_tail None i e = absurd cc
index_of_tail (Some k) i e = (k, cc, refl)

-- a namespace has an index in a first collection and others: it is that of the first, or has one in the others
abbrev Cases : NamespaceView → CollectionView → List CollectionView → ℕ → Type 0
Cases n c cs zero = is_same_namespace n c.namespace ≡ true
Cases n c cs (suc k) = (is_same_namespace n c.namespace ≡ false) × (collection_index n cs ≡ Some k)

cases : (n : NamespaceView) (c : CollectionView) (cs : List CollectionView) (i : ℕ) (b : Bool) → is_same_namespace n c.namespace ≡ b → collection_index n (c ∷ cs) ≡ Some i → Cases n c cs i
cases n c cs zero true e is = e
cases n c cs (suc k) true e is = absurd (let p : Some 0 ≡ Some (suc k) = rw e at is in cc)
cases n c cs zero false e is = absurd (let p : option_map (λ k. suc k) (collection_index n cs) ≡ Some 0 = rw e at is in let q = index_of_tail (collection_index n cs) 0 p in omega (arith, q.1))
cases n c cs (suc k) false e is =
    let p : option_map (λ j. suc j) (collection_index n cs) ≡ Some (suc k) = rw e at is in
    let q = index_of_tail (collection_index n cs) (suc k) p in
    (e, q.2 ∙ ap Some (omega (arith, q.1)))

pub inside : (n : NamespaceView) (cs : List Collection) (i : ℕ) → collection_index n (map collection_of cs) ≡ Some i → i < length cs
inside n [] i is = absurd cc
inside n (c ∷ cs) zero is = omega arith
inside n (c ∷ cs) (suc k) is =
    let p : Cases n (collection_of c) (map collection_of cs) (suc k) = cases n (collection_of c) (map collection_of cs) (suc k) _ refl is in
    let q : k < length cs = inside n cs k p.1 in
    omega (arith, q)

pub documents_at : (n : NamespaceView) (cs : List Collection) (i : ℕ) (x : Collection) → collection_index n (map collection_of cs) ≡ Some i → x ≡ get_or cs i x → documents_in n (map collection_of cs) ≡ map value_of x.documents.items
documents_at n [] i x is at = absurd cc
documents_at n (c ∷ cs) zero x is at =
    let p : is_same_namespace n (namespace_buf c.namespace) ≡ true = cases n (collection_of c) (map collection_of cs) zero _ refl is in
    rw p (ap (λ (y : Collection). map value_of y.documents.items) (sym at))
documents_at n (c ∷ cs) (suc k) x is at =
    let p : Cases n (collection_of c) (map collection_of cs) (suc k) = cases n (collection_of c) (map collection_of cs) (suc k) _ refl is in
    rw p.0 (documents_at n cs k x p.1 at)

fewer : (o : Option ℕ) → option_map (λ k. suc k) o ≡ None → o ≡ None
fewer None e = refl
fewer (Some k) e = absurd cc

-- none of the collections is of the namespace
abbrev pub Apart : NamespaceView → CollectionView → List CollectionView → Type 0
Apart n c cs = (is_same_namespace n c.namespace ≡ false) × (collection_index n cs ≡ None)

not_first : (n : NamespaceView) (c : CollectionView) (cs : List CollectionView) (b : Bool) → is_same_namespace n c.namespace ≡ b → collection_index n (c ∷ cs) ≡ None → Apart n c cs
not_first n c cs true e is = absurd (let none : Option ℕ = None in let p : Some 0 ≡ none = rw e at is in cc)
not_first n c cs false e is = (e, fewer (collection_index n cs) (rw e at is))

pub no_documents : (n : NamespaceView) (cs : List CollectionView) → collection_index n cs ≡ None → documents_in n cs ≡ []
no_documents n [] is = refl
no_documents n (c ∷ cs) is =
    let p : Apart n c cs = not_first n c cs _ refl is in
    rw p.0 (no_documents n cs p.1)

pub new_collection : (n : NamespaceView) (vs : List TreeValue) (cs : List CollectionView) → collection_index n cs ≡ None → with_documents n vs cs ≡ cs ++ collection_with n vs ∷ []
new_collection n vs [] is = refl
new_collection n vs (c ∷ cs) is =
    let p : Apart n c cs = not_first n c cs _ refl is in
    rw p.0 (ap (λ (l : List CollectionView). c ∷ l) (new_collection n vs cs p.1))

pub no_collection : (n : NamespaceView) (cs : List CollectionView) → collection_index n cs ≡ None → without_collection n cs ≡ None
no_collection n [] is = refl
no_collection n (c ∷ cs) is =
    let p : Apart n c cs = not_first n c cs _ refl is in
    rw p.0 (rw (no_collection n cs p.1) refl)

pub longer_collection : (n : NamespaceView) (vs : List TreeValue) (cs : List Collection) (i : ℕ) (x y : Collection) → collection_index n (map collection_of cs) ≡ Some i → x ≡ get_or cs i x
    → collection_of y ≡ holding (map value_of x.documents.items ++ vs) (collection_of x)
    → map collection_of (slice_set cs i y) ≡ with_documents n vs (map collection_of cs)
longer_collection n vs [] i x y is at new = absurd cc
longer_collection n vs (c ∷ cs) zero x y is at new =
    let p : is_same_namespace n (namespace_buf c.namespace) ≡ true = cases n (collection_of c) (map collection_of cs) zero _ refl is in
    rw p (ap (λ (z : CollectionView). z ∷ map collection_of cs) (new ∙ ap (λ (z : Collection). holding (map value_of z.documents.items ++ vs) (collection_of z)) at))
longer_collection n vs (c ∷ cs) (suc k) x y is at new =
    let p : Cases n (collection_of c) (map collection_of cs) (suc k) = cases n (collection_of c) (map collection_of cs) (suc k) _ refl is in
    rw p.0 (ap (λ (l : List CollectionView). collection_of c ∷ l) (longer_collection n vs cs k x y p.1 at new))

pub removed_collection : (n : NamespaceView) (cs : List Collection) (i : ℕ) → collection_index n (map collection_of cs) ≡ Some i → without_collection n (map collection_of cs) ≡ Some (map collection_of (remove cs i))
removed_collection n [] i is = absurd cc
removed_collection n (c ∷ cs) zero is =
    let p : is_same_namespace n (namespace_buf c.namespace) ≡ true = cases n (collection_of c) (map collection_of cs) zero _ refl is in
    rw p refl
removed_collection n (c ∷ cs) (suc k) is =
    let p : Cases n (collection_of c) (map collection_of cs) (suc k) = cases n (collection_of c) (map collection_of cs) (suc k) _ refl is in
    rw p.0 (rw (removed_collection n cs k p.1) refl)

pub replaced_collection : (n : NamespaceView) (vs : List TreeValue) (cs : List Collection) (i : ℕ) (x y : Collection) → collection_index n (map collection_of cs) ≡ Some i → x ≡ get_or cs i x
    → collection_of y ≡ holding vs (collection_of x)
    → map collection_of (slice_set cs i y) ≡ with_replaced n vs (map collection_of cs)
replaced_collection n vs [] i x y is at new = absurd cc
replaced_collection n vs (c ∷ cs) zero x y is at new =
    let p : is_same_namespace n (namespace_buf c.namespace) ≡ true = cases n (collection_of c) (map collection_of cs) zero _ refl is in
    rw p (ap (λ (z : CollectionView). z ∷ map collection_of cs) (new ∙ ap (λ (z : Collection). holding vs (collection_of z)) at))
replaced_collection n vs (c ∷ cs) (suc k) x y is at new =
    let p : Cases n (collection_of c) (map collection_of cs) (suc k) = cases n (collection_of c) (map collection_of cs) (suc k) _ refl is in
    rw p.0 (ap (λ (l : List CollectionView). collection_of c ∷ l) (replaced_collection n vs cs k x y p.1 at new))

pub none_replaced : (n : NamespaceView) (vs : List TreeValue) (cs : List CollectionView) → collection_index n cs ≡ None → with_replaced n vs cs ≡ with_any n vs cs
none_replaced n vs [] is = refl
none_replaced n [] (c ∷ cs) is =
    let p : Apart n c cs = not_first n c cs _ refl is in
    rw p.0 (ap (λ (l : List CollectionView). c ∷ l) (none_replaced n [] cs p.1))
none_replaced n (v ∷ vs) (c ∷ cs) is =
    let p : Apart n c cs = not_first n c cs _ refl is in
    rw p.0 (ap (λ (l : List CollectionView). c ∷ l) (none_replaced n (v ∷ vs) cs p.1))

pub indexes_at : (n : NamespaceView) (cs : List Collection) (i : ℕ) (x : Collection) → collection_index n (map collection_of cs) ≡ Some i → x ≡ get_or cs i x → held_indexes n (map collection_of cs) ≡ Some (map index_view x.indexes.items)
indexes_at n [] i x is at = absurd cc
indexes_at n (c ∷ cs) zero x is at =
    let p : is_same_namespace n (namespace_buf c.namespace) ≡ true = cases n (collection_of c) (map collection_of cs) zero _ refl is in
    rw p (ap (λ (y : Collection). Some (map index_view y.indexes.items)) (sym at))
indexes_at n (c ∷ cs) (suc k) x is at =
    let p : Cases n (collection_of c) (map collection_of cs) (suc k) = cases n (collection_of c) (map collection_of cs) (suc k) _ refl is in
    rw p.0 (indexes_at n cs k x p.1 at)

pub no_indexes : (n : NamespaceView) (cs : List CollectionView) → collection_index n cs ≡ None → held_indexes n cs ≡ None
no_indexes n [] is = refl
no_indexes n (c ∷ cs) is =
    let p : Apart n c cs = not_first n c cs _ refl is in
    rw p.0 (no_indexes n cs p.1)

pub indexed_collection : (n : NamespaceView) (js : List IndexView) (cs : List Collection) (i : ℕ) (x y : Collection) → collection_index n (map collection_of cs) ≡ Some i → x ≡ get_or cs i x
    → collection_of y ≡ record { namespace = namespace_buf x.namespace; indexes = js; documents = map value_of x.documents.items }
    → map collection_of (slice_set cs i y) ≡ with_indexes_of n js (map collection_of cs)
indexed_collection n js [] i x y is at new = absurd cc
indexed_collection n js (c ∷ cs) zero x y is at new =
    let p : is_same_namespace n (namespace_buf c.namespace) ≡ true = cases n (collection_of c) (map collection_of cs) zero _ refl is in
    rw p (ap (λ (z : CollectionView). z ∷ map collection_of cs) (new ∙ ap (λ (z : Collection). record { namespace = namespace_buf z.namespace; indexes = js; documents = map value_of z.documents.items }) at))
indexed_collection n js (c ∷ cs) (suc k) x y is at new =
    let p : Cases n (collection_of c) (map collection_of cs) (suc k) = cases n (collection_of c) (map collection_of cs) (suc k) _ refl is in
    rw p.0 (ap (λ (l : List CollectionView). collection_of c ∷ l) (indexed_collection n js cs k x y p.1 at new))

pub none_indexed : (n : NamespaceView) (js : List IndexView) (cs : List CollectionView) → collection_index n cs ≡ None → with_indexes_of n js cs ≡ cs ++ record { namespace = n; indexes = js; documents = [] } ∷ []
none_indexed n js [] is = refl
none_indexed n js (c ∷ cs) is =
    let p : Apart n c cs = not_first n c cs _ refl is in
    rw p.0 (ap (λ (l : List CollectionView). c ∷ l) (none_indexed n js cs p.1))

none_left : (o : Option (List CollectionView)) (c : CollectionView) → o ≡ None → option_map (λ l. c ∷ l) o ≡ None
none_left o c is = rw is refl

none_one : (n : NamespaceView) (c : CollectionView) (cs : List CollectionView) (b : Bool) → is_same_namespace n c.namespace ≡ b → held_indexes n (c ∷ cs) ≡ None → (held_indexes n cs ≡ None → without_collection n cs ≡ None) → without_collection n (c ∷ cs) ≡ None
none_one n c cs true e is others = absurd (let p : Some c.indexes ≡ None = rw e at is in cc)
none_one n c cs false e is others = rw e (none_left (without_collection n cs) c (others (rw e at is)))

-- what has no indexes is no collection
pub none_held : (n : NamespaceView) (cs : List CollectionView) → held_indexes n cs ≡ None → without_collection n cs ≡ None
none_held n [] is = refl
none_held n (c ∷ cs) is = none_one n c cs _ refl is (none_held n cs)
