-- The databases of collections.
use Rattle.std.proofs.Common.{◌≡◌, ◌<◌, ℕ, ◌+◌, Bool, true, false, List, [], ◌∷◌, ◌++◌, length, map, take, drop, get_or, refl, sym, ap, ◌∙◌, string_bytes}
use Rattle.std.specs.Prelude.{not, ◌||◌, if◌then◌else◌}
use Rattle.std.specs.List.{filter}
use Rattle.std.proofs.lemmas.List.{map_push, take_more}
use Rattle.std.proofs.lemmas.List.Folds.{list_any-append}
use Rattle.test_store.specs.declared.store.Collection.{Collection}
use Rattle.test_store.specs.Held.{CollectionView, collection_of, database_names, has_database, is_in_database}
use Rattle.test_store.proofs.Places.{left_from}

-- the names that are in none of these collections
abbrev pub others : List CollectionView → List (List ℕ) → List (List ℕ)
others before ns = filter (λ n. not (has_database n before)) ns

-- a name is in one collection more
one_more : (n : List ℕ) (before : List CollectionView) (c : CollectionView) (a b : Bool) → has_database n before ≡ a → is_in_database n c ≡ b → has_database n (before ++ c ∷ []) ≡ (a || b)
one_more n before c true b ea eb = list_any-append (is_in_database n) before (c ∷ []) ∙ rw ea refl
one_more n before c false true ea eb = list_any-append (is_in_database n) before (c ∷ []) ∙ rw ea (rw eb refl)
one_more n before c false false ea eb = list_any-append (is_in_database n) before (c ∷ []) ∙ rw ea (rw eb refl)

abbrev Same : List CollectionView → CollectionView → List (List ℕ) → Type 0
Same before c ns = others before (filter (λ n. not (is_in_database n c)) ns) ≡ others (before ++ c ∷ []) ns

same_one : (before : List CollectionView) (c : CollectionView) (n : List ℕ) (ns : List (List ℕ)) (a b : Bool) → has_database n before ≡ a → is_in_database n c ≡ b → Same before c ns → Same before c (n ∷ ns)
same_one before c n ns true true ea eb is = rw eb (rw (one_more n before c true true ea eb) is)
same_one before c n ns true false ea eb is = rw eb (rw ea (rw (one_more n before c true false ea eb) is))
same_one before c n ns false true ea eb is = rw eb (rw (one_more n before c false true ea eb) is)
same_one before c n ns false false ea eb is = rw eb (rw ea (rw (one_more n before c false false ea eb) (ap (λ (l : List (List ℕ)). n ∷ l) is)))

same_names : (before : List CollectionView) (c : CollectionView) (ns : List (List ℕ)) → Same before c ns
same_names before c [] = refl
same_names before c (n ∷ ns) = same_one before c n ns _ _ refl refl (same_names before c ns)

-- the databases of a collection and those behind it that are in none before
names_step : (before : List CollectionView) (c : CollectionView) (cs : List CollectionView) (b : Bool) → has_database c.namespace.database before ≡ b
    → others before (database_names (c ∷ cs)) ≡ (if b then others (before ++ c ∷ []) (database_names cs) else c.namespace.database ∷ others (before ++ c ∷ []) (database_names cs))
names_step before c cs true e = rw e (same_names before c (database_names cs))
names_step before c cs false e = rw e (ap (λ (l : List (List ℕ)). c.namespace.database ∷ l) (same_names before c (database_names cs)))

pub all_others : (ns : List (List ℕ)) → others [] ns ≡ ns
all_others [] = refl
all_others (n ∷ ns) = ap (λ (l : List (List ℕ)). n ∷ l) (all_others ns)

-- the names of the databases of the collections from an index on that none before has
abbrev pub left_names : List Collection → ℕ → List (List ℕ)
left_names cs i = others (map collection_of (take i cs)) (database_names (map collection_of (drop i cs)))

pub left_step : (cs : List Collection) (i : ℕ) (x : Collection) (b : Bool) → i < length cs → x ≡ get_or cs i x → has_database (string_bytes x.namespace.database) (map collection_of (take i cs)) ≡ b
    → left_names cs i ≡ (if b then left_names cs (i + 1) else string_bytes x.namespace.database ∷ left_names cs (i + 1))
left_step cs i x b short is e =
    let grown : map collection_of (take (i + 1) cs) ≡ map collection_of (take i cs) ++ collection_of x ∷ [] =
    ap (map collection_of) (take_more cs i x short ∙ ap (λ (y : Collection). take i cs ++ y ∷ []) (sym is)) ∙ map_push collection_of (take i cs) x in
    ap (λ (l : List Collection). others (map collection_of (take i cs)) (database_names (map collection_of l))) (left_from cs i x short is)
    ∙ names_step (map collection_of (take i cs)) (collection_of x) (map collection_of (drop (i + 1) cs)) b e
    ∙ ap (λ (l : List CollectionView). if b then others l (database_names (map collection_of (drop (i + 1) cs))) else string_bytes x.namespace.database ∷ others l (database_names (map collection_of (drop (i + 1) cs)))) (sym grown)
