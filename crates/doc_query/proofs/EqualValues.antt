-- Documents and arrays are equal by their names and by their values.
use Rattle.std.proofs.Common.{◌≡◌, ℕ, suc, ◌+◌, Bool, true, false, ◌&&◌, List, [], ◌∷◌, Option, Some, None, String, string_bytes, length, map, refl, sym, ap, ◌∙◌}
use lib.Pointwise.{pointwise}
use Rattle.std.specs.Fmt.{decimal}
use Rattle.std.specs.Str.{bytes_eq}
use Rattle.std.specs.String.{string_eq}
use Rattle.std.specs.declared.alloc.Global.{Global}
use Rattle.std.proofs.lemmas.Slice.Eq.{bytes_eq-Decides}
use Rattle.bson_elem.specs.declared.kinds.Kind.{Kind}
use Rattle.bson_elem.specs.declared.kinds.Kind.TheVariants as kinds
use Rattle.bson_elem.specs.{Beside, Leaf, Tree, no_pairs}
use Rattle.bson_raw.specs.{TreeValue, document_value, leaf_value, with_first}
use Rattle.bson_doc.specs.declared.bson_values.Bson.{Bson}
use Rattle.bson_doc.specs.Array.{array_tree}
use Rattle.bson_doc.specs.Bson.{value_of}
use Rattle.bson_doc.specs.Document.{tree_of}
use Rattle.doc_query.specs.Comparing.{PlaceView, place}
use Rattle.doc_query.specs.Equality.{equal, equal_alone, equal_at, equal_each, equal_pairs}

none_between : (b c : Bool) → false ≡ (b && false && c)
none_between true c = refl
none_between false c = refl

leaf_unlike : (k : Kind) (x : Leaf) (l : Kind) (b : Beside) (t : Tree) (o : Option PlaceView) → equal_at (leaf_value k x) (document_value l b t) o None ≡ false
leaf_unlike k x l b t None = refl
leaf_unlike k x l b t (Some p) = refl

inner_unlike : (k : Kind) (x : Leaf) (l : Kind) (b : Beside) (t : Tree) (o : Option PlaceView) → equal_at (document_value l b t) (leaf_value k x) None o ≡ false
inner_unlike k x l b t None = refl
inner_unlike k x l b t (Some p) = refl

-- the first pairs of two documents, and the others
pub equal_with_first : (n m : List ℕ) (v w : TreeValue) (ps qs : Tree) → equal_pairs (with_first n v ps) (with_first m w qs) ≡ (bytes_eq n m && equal v w && equal_pairs ps qs)
equal_with_first n m (leaf_value k x) (leaf_value l y) ps qs = refl
equal_with_first n m (document_value k b t) (document_value l c u) ps qs = refl
equal_with_first n m (leaf_value k x) (document_value l c u) ps qs =
    none_between (bytes_eq n m) (equal_pairs ps qs)
    ∙ ap (λ (e : Bool). bytes_eq n m && e && equal_pairs ps qs) (sym (leaf_unlike k x l c u (place (leaf_value k x))))
equal_with_first n m (document_value k b t) (leaf_value l y) ps qs =
    none_between (bytes_eq n m) (equal_pairs ps qs)
    ∙ ap (λ (e : Bool). bytes_eq n m && e && equal_pairs ps qs) (sym (inner_unlike l y k b t (place (leaf_value l y))))

none_then : (b : Bool) → (b && false) ≡ false
none_then true = refl
none_then false = refl

first_unlike : (n : List ℕ) (v : TreeValue) (ps : Tree) → equal_pairs (with_first n v ps) no_pairs ≡ false
first_unlike n (leaf_value k x) ps = refl
first_unlike n (document_value k b t) ps = refl

none_unlike : (n : List ℕ) (v : TreeValue) (ps : Tree) → equal_pairs no_pairs (with_first n v ps) ≡ false
none_unlike n (leaf_value k x) ps = refl
none_unlike n (document_value k b t) ps = refl

parted : (a b c d : Bool) → ((a && b) && (c && d)) ≡ ((a && c) && (b && d))
parted false b c d = refl
parted true true c d = refl
parted true false true d = refl
parted true false false d = refl

-- documents are equal by their names, and by their values
pub equal_trees : (ps qs : List (List ℕ × TreeValue)) → equal_pairs (tree_of ps) (tree_of qs)
    ≡ (pointwise bytes_eq (map (λ p. p.0) ps) (map (λ p. p.0) qs) && equal_each (map (λ p. p.1) ps) (map (λ p. p.1) qs))
equal_trees [] [] = refl
equal_trees [] (q ∷ qs) = none_unlike q.0 q.1 (tree_of qs)
equal_trees (p ∷ ps) [] = first_unlike p.0 p.1 (tree_of ps)
equal_trees (p ∷ ps) (q ∷ qs) =
    equal_with_first p.0 q.0 p.1 q.1 (tree_of ps) (tree_of qs)
    ∙ ap (λ (e : Bool). bytes_eq p.0 q.0 && equal p.1 q.1 && e) (equal_trees ps qs)
    ∙ parted (bytes_eq p.0 q.0) (equal p.1 q.1) (pointwise bytes_eq (map (λ p. p.0) ps) (map (λ p. p.0) qs)) (equal_each (map (λ p. p.1) ps) (map (λ p. p.1) qs))

-- arrays are equal by their values
pub equal_arrays : (i : ℕ) (vs ws : List TreeValue) → equal_pairs (array_tree i vs) (array_tree i ws) ≡ equal_each vs ws
equal_arrays i [] [] = refl
equal_arrays i [] (w ∷ ws) = none_unlike (decimal i) w (array_tree (i + 1) ws)
equal_arrays i (v ∷ vs) [] = first_unlike (decimal i) v (array_tree (i + 1) vs)
equal_arrays i (v ∷ vs) (w ∷ ws) =
    equal_with_first (decimal i) (decimal i) v w (array_tree (i + 1) vs) (array_tree (i + 1) ws)
    ∙ ap (λ (e : Bool). e && equal v w && equal_pairs (array_tree (i + 1) vs) (array_tree (i + 1) ws)) ((bytes_eq-Decides (decimal i) (decimal i)).1 refl)
    ∙ ap (λ (e : Bool). equal v w && e) (equal_arrays (i + 1) vs ws)

-- code with a scope is compared alone
pub scope_alone : (b : Beside) (t : Tree) (w : TreeValue) → equal (document_value kinds.CodeWithScope b t) w ≡ equal_alone (document_value kinds.CodeWithScope b t) w
scope_alone b t (leaf_value l y) = refl
scope_alone b t (document_value l c u) = refl

-- ---- the names of documents, and lists that are compared from an index on

pub names_test : (ks ms : List (String Global)) → pointwise string_eq ks ms ≡ pointwise bytes_eq (map string_bytes ks) (map string_bytes ms)
names_test [] [] = refl
names_test [] (m ∷ ms) = refl
names_test (k ∷ ks) [] = refl
names_test (k ∷ ks) (m ∷ ms) = ap (λ (e : Bool). string_eq k m && e) (names_test ks ms)

pub unlike_lengths : (vs ws : List Bson) → (length vs ≡ length ws → ⊥) → equal_each (map value_of vs) (map value_of ws) ≡ false
unlike_lengths [] [] n = absurd (n refl)
unlike_lengths [] (w ∷ ws) n = refl
unlike_lengths (v ∷ vs) [] n = refl
unlike_lengths (v ∷ vs) (w ∷ ws) n =
    ap (λ (e : Bool). equal (value_of v) (value_of w) && e) (unlike_lengths vs ws (λ e. n (ap suc e)))
    ∙ none_then (equal (value_of v) (value_of w))

-- documents are equal by their names, as the code compares them, and by their values
pub equal_named : (ps qs : List (List ℕ × TreeValue)) (ks ms : List (String Global)) → map string_bytes ks ≡ map (λ p. p.0) ps → map string_bytes ms ≡ map (λ p. p.0) qs
    → equal_pairs (tree_of ps) (tree_of qs) ≡ (pointwise string_eq ks ms && equal_each (map (λ p. p.1) ps) (map (λ p. p.1) qs))
equal_named ps qs ks ms named named' =
    equal_trees ps qs
    ∙ ap (λ (e : Bool). e && equal_each (map (λ p. p.1) ps) (map (λ p. p.1) qs))
    ((λ j. pointwise bytes_eq (sym named j) (sym named' j)) ∙ sym (names_test ks ms))
