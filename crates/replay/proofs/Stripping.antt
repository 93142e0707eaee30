-- Documents without some fields, one field after another.
use Rattle.std.proofs.Common.{◌≡◌, ◌≤◌, ◌<◌, ℕ, zero, suc, ◌+◌, max, Bool, true, false, List, [], ◌∷◌, ◌++◌, Option, Some, None, length, map, get_or, refl, sym, ap, ◌∙◌, arith}
use Rattle.std.specs.Prelude.{⊤, if◌then◌else◌}
use Rattle.std.specs.Fmt.{decimal}
use Rattle.std.specs.List.{AllByRecursion, IsDistinct}
use Rattle.std.specs.Str.{bytes_eq}
use Rattle.std.proofs.lemmas.List.{append-nil, append_assoc}
use Rattle.std.proofs.lemmas.Slice.Eq.{bytes_eq-Decides}
use Rattle.std.proofs.lemmas.Map.Keys.{IsDistinct-head, IsDistinct-tail}
use Rattle.bson_elem.specs.{Tree, inner_pair, leaf_pair}
use Rattle.bson_raw.specs.{TreeValue, document_value, is_among, is_array_kind, leaf_value, with_first}
use Rattle.bson_doc.specs.declared.bson_values.Bson.{Bson}
use Rattle.bson_doc.specs.Array.{array_tree}
use Rattle.bson_doc.specs.Bson.{value_of}
use Rattle.bson_doc.specs.Depths.{tree_depth, value_depth}
use Rattle.bson_doc.specs.Document.{put, tree_of, value_named}
use Rattle.replay.specs.Stripped.{stripped, stripped_in, stripped_value}

-- ---- depths: a value is no deeper than what holds it

pub depth-with_first : (n : List ℕ) (v : TreeValue) (ps : Tree) → tree_depth (with_first n v ps) ≡ max (value_depth v) (tree_depth ps)
depth-with_first n (leaf_value k leaf) ps = omega arith
depth-with_first n (document_value k b inner) ps = omega arith

-- an element is no deeper than its array
pub element_depth : (start i : ℕ) (bs : List Bson) (b : Bson) → i < length bs → b ≡ get_or bs i b → value_depth (value_of b) ≤ tree_depth (array_tree start (map value_of bs))
element_depth start i [] b inside is = absurd (omega arith)
element_depth start zero (x ∷ bs) b inside is = omega (arith, ap (λ y. value_depth (value_of y)) is, depth-with_first (decimal start) (value_of x) (array_tree (start + 1) (map value_of bs)))
element_depth start (suc i) (x ∷ bs) b inside is = omega (arith, element_depth (start + 1) i bs b (omega arith) is, depth-with_first (decimal start) (value_of x) (array_tree (start + 1) (map value_of bs)))

-- ---- fields

same_test : (p q : Bool) → (p ≡ true → q ≡ true) → (q ≡ true → p ≡ true) → p ≡ q
same_test true q f g = sym (f refl)
same_test false true f g = g refl
same_test false false f g = refl

turned : (a b : List ℕ) → bytes_eq a b ≡ bytes_eq b a
turned a b = same_test (bytes_eq a b) (bytes_eq b a)
    (λ e. (bytes_eq-Decides b a).1 (sym ((bytes_eq-Decides a b).0 e)))
    (λ e. (bytes_eq-Decides a b).1 (sym ((bytes_eq-Decides b a).0 e)))

abbrev pub Fields : Type 0
Fields = List (List ℕ × TreeValue)

-- those that are left, and these put after others
abbrev pub stripped_fields : List (List ℕ) → Fields → Fields
stripped_fields names [] = []
stripped_fields names (f ∷ fs) = if is_among f.0 names then stripped_fields names fs else (f.0, stripped_value names f.1) ∷ stripped_fields names fs

abbrev pub put_stripped : List (List ℕ) → Fields → Fields → Fields
put_stripped names [] qs = qs
put_stripped names (f ∷ fs) qs = put_stripped names fs (if is_among f.0 names then qs else put f.0 (stripped_value names f.1) qs)

stripped_first : (names : List (List ℕ)) (name : List ℕ) (v : TreeValue) (others : Tree)
    → stripped names (with_first name v others) ≡ (if is_among name names then stripped names others else with_first name (stripped_value names v) (stripped names others))
stripped_first names name (leaf_value k v) others = refl
stripped_first names name (document_value k b t) others = refl

tree_if : (b : Bool) (name : List ℕ) (v : TreeValue) (t : Tree) (fs : Fields) → t ≡ tree_of fs → (if b then t else with_first name v t) ≡ tree_of (if b then fs else (name, v) ∷ fs)
tree_if true name v t fs e = e
tree_if false name v t fs e = ap (with_first name v) e

pub stripped_is : (names : List (List ℕ)) (fs : Fields) → stripped names (tree_of fs) ≡ tree_of (stripped_fields names fs)
stripped_is names [] = refl
stripped_is names (f ∷ fs) =
    stripped_first names f.0 f.1 (tree_of fs)
    ∙ tree_if (is_among f.0 names) f.0 (stripped_value names f.1) (stripped names (tree_of fs)) (stripped_fields names fs) (stripped_is names fs)

-- none of the first names stands among the second ones
abbrev pub Apart : Fields → Fields → Type 0
Apart [] qs = ⊤
Apart (f ∷ fs) qs = (value_named f.0 qs ≡ None) × Apart fs qs

pub apart_from_none : (fs : Fields) → Apart fs []
apart_from_none [] = tt
apart_from_none (f ∷ fs) = (refl, apart_from_none fs)

none_after : (b : Bool) (v : TreeValue) (o : Option TreeValue) → (if b then Some v else o) ≡ None → (b ≡ false) × (o ≡ None)
none_after true v o e = absurd cc
none_after false v o e = (refl, e)

-- a new name goes last
put_new : (name : List ℕ) (v : TreeValue) (qs : Fields) → value_named name qs ≡ None → put name v qs ≡ qs ++ (name, v) ∷ []
put_new name v [] e = refl
put_new name v (q ∷ qs) e =
    let no = none_after (bytes_eq name q.0) q.1 (value_named name qs) e in
    ap (λ (b : Bool). if b then (q.0, v) ∷ qs else q ∷ put name v qs) no.0 ∙ ap (λ (l : Fields). q ∷ l) (put_new name v qs no.1)

-- a name that isn't among some fields, and not that of one more, isn't among both
still_none : (name : List ℕ) (qs : Fields) (f : List ℕ × TreeValue) → value_named name qs ≡ None → bytes_eq name f.0 ≡ false → value_named name (qs ++ f ∷ []) ≡ None
still_none name [] f e differs = ap (λ (b : Bool). if b then Some f.1 else None) differs
still_none name (q ∷ qs) f e differs =
    let no = none_after (bytes_eq name q.0) q.1 (value_named name qs) e in
    ap (λ (b : Bool). if b then Some q.1 else value_named name (qs ++ f ∷ [])) no.0 ∙ still_none name qs f no.1 differs

still_apart : (fs qs : Fields) (f : List ℕ × TreeValue) → AllByRecursion (λ n. bytes_eq f.0 n ≡ false) (map (λ g. g.0) fs) → Apart fs qs → Apart fs (qs ++ f ∷ [])
still_apart [] qs f differs apart = tt
still_apart (g ∷ gs) qs f differs apart = (still_none g.0 qs f apart.0 (turned g.0 f.0 ∙ differs.0), still_apart gs qs f differs.1 apart.1)

put_if : (rest : Fields → Fields) (b : Bool) (more qs left : Fields) (f : List ℕ × TreeValue) → rest qs ≡ qs ++ left → rest more ≡ qs ++ (f ∷ left) → rest (if b then qs else more) ≡ qs ++ (if b then left else f ∷ left)
put_if rest true more qs left f where_not where_kept = where_not
put_if rest false more qs left f where_not where_kept = where_kept

-- fields with names of their own are put after others that have none of them
pub put_stripped_is : (names : List (List ℕ)) (fs qs : Fields) → IsDistinct bytes_eq (map (λ f. f.0) fs) → Apart fs qs → put_stripped names fs qs ≡ qs ++ stripped_fields names fs
put_stripped_is names [] qs distinct apart = sym (append-nil qs)
put_stripped_is names (f ∷ fs) qs distinct apart =
    let own = map (λ (g : List ℕ × TreeValue). g.0) fs in
    let one = stripped_value names f.1 in
    let others = IsDistinct-tail bytes_eq f.0 own distinct in
    put_if (put_stripped names fs) (is_among f.0 names) (put f.0 one qs) qs (stripped_fields names fs) (f.0, one)
    (put_stripped_is names fs qs others apart.1)
    (ap (put_stripped names fs) (put_new f.0 one qs apart.0) ∙ put_stripped_is names fs (qs ++ (f.0, one) ∷ []) others (still_apart fs qs (f.0, one) (IsDistinct-head bytes_eq f.0 own distinct) apart.1) ∙ append_assoc qs ((f.0, one) ∷ []) (stripped_fields names fs))

-- ---- arrays

pub stripped_array : (names : List (List ℕ)) (start : ℕ) (vs : List TreeValue) → stripped_in true names (array_tree start vs) ≡ array_tree start (map (stripped_value names) vs)
stripped_array names start [] = refl
stripped_array names start (leaf_value k v ∷ vs) = ap (leaf_pair (decimal start) k v) (stripped_array names (start + 1) vs)
stripped_array names start (document_value k b t ∷ vs) = ap (inner_pair (decimal start) k b (stripped_in (is_array_kind k) names t)) (stripped_array names (start + 1) vs)

-- ---- pairs are told by their tree

pub tree_of_one : (ps qs : Fields) → tree_of ps ≡ tree_of qs → ps ≡ qs
tree_of_one [] [] e = refl
tree_of_one [] ((n, leaf_value k v) ∷ qs) e = absurd cc
tree_of_one [] ((n, document_value k b t) ∷ qs) e = absurd cc
tree_of_one ((m, leaf_value l w) ∷ ps) [] e = absurd cc
tree_of_one ((m, document_value l c u) ∷ ps) [] e = absurd cc
tree_of_one ((m, leaf_value l w) ∷ ps) ((n, document_value k b t) ∷ qs) e = absurd cc
tree_of_one ((m, document_value l c u) ∷ ps) ((n, leaf_value k v) ∷ qs) e = absurd cc
tree_of_one ((m, leaf_value l w) ∷ ps) ((n, leaf_value k v) ∷ qs) e =
    let rest : tree_of ps ≡ tree_of qs = cc in
    let others = tree_of_one ps qs rest in
    cc
tree_of_one ((m, document_value l c u) ∷ ps) ((n, document_value k b t) ∷ qs) e =
    let rest : tree_of ps ≡ tree_of qs = cc in
    let others = tree_of_one ps qs rest in
    cc
