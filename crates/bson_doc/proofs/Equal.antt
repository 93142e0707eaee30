-- Values that are compared one after another.
use Rattle.std.proofs.Common.{◌≡◌, ℕ, zero, suc, ◌+◌, ◌<◌, ◌≤◌, Bool, true, false, not, ◌&&◌, List, [], ◌∷◌, ◌++◌, length, map, take, take_all, get_or, nat_eq, refl, sym, ap, ◌∙◌, String, string_bytes, arith}
use Rattle.std.specs.Prelude.{bytes_eq}
use Rattle.std.specs.declared.alloc.Global.{Global}
use Rattle.std.specs.Coded.{Coded}
use Rattle.std.specs.String.{string_eq}
use lib.Pointwise.{pointwise}
use mathlib.Core.Bool.{beq}
use Rattle.std.proofs.lemmas.Bool.Decides.{nat_tests}
use Rattle.std.proofs.lemmas.List.{length-map, take_more, map-append, get_or-map}
use Rattle.std.proofs.lemmas.Slice.Eq.{bytes_eq-Decides}
use Rattle.bson_doc.specs.declared.bson_values.Bson.{Bson}
use Rattle.bson_doc.specs.declared.bson_values.Bson.TheVariants as values
use Rattle.bson_raw.specs.declared.value.RawBson.{RawBson}
use Rattle.bson_raw.specs.declared.value.RawBson.TheVariants as borrowed
use Rattle.bson_raw.specs.contracts.value.RawBsonPartialEq.TheImpl.{ghosts as of_leaves}
use Rattle.bson_raw.specs.RawBson.{Shows}
use Rattle.bson_doc.specs.Leaves.{IsLeaf}
use Rattle.bson_doc.specs.Formed.{IsFormedValue}
use Rattle.bson_doc.specs.Bson.{value_of}
use Rattle.bson_doc.specs.Codes.{coded_value, coded_values, coded_pairs}
use Rattle.bson_elem.specs.declared.kinds.Kind.{Kind}
use Rattle.bson_elem.specs.declared.kinds.Kind.TheVariants as kinds
use Rattle.bson_elem.specs.Trees.{raw_value, boolean_value, number_value, timestamp_value, text_value, pointer_value, binary_value, regex_value, Beside, no_code, with_code}
use Rattle.bson_raw.specs.Pairs.{TreeValue, leaf_value, document_value}
use Rattle.std.specs.Fmt.{decimal}
use Rattle.bson_doc.specs.Array.{array_tree}
use Rattle.bson_doc.specs.Depths.{tree_depth, value_depth}
use Rattle.bson_doc.proofs.Checking.{tree_depth-with_first}
use Rattle.bson_doc.specs.Document.{paired, tree_of}
use Rattle.std.specs.Prelude.{ℤ}
use Rattle.std.specs.Ordering.{int_eq}
use Rattle.std.proofs.lemmas.Bool.Decides.{Decides-int_eq}
use Rattle.bson_doc.proofs.Owned.{one_document, one_array, names, values as values_in, names_seen, values_seen}
use Rattle.bson_doc.specs.Same.{same, same_is, is_same, alike}

stays_false : (b : Bool) → (b ≡ true → ⊥) → false ≡ b
stays_false true f = absurd (f refl)
stays_false false f = refl

pub not_same : {A : Type 0} (c : Coded A) (x y : A) → (x ≡ y → ⊥) → false ≡ same c x y
not_same c x y n = stays_false (same c x y) (λ e. n (same_is c x y e))

pub as_long : (vs ws : List Bson) → map value_of vs ≡ map value_of ws → length vs ≡ length ws
as_long vs ws e = sym (length-map vs value_of) ∙ ap length e ∙ length-map ws value_of

-- a test is the comparison of two values where it is true for the same values alone
agree : (p : Bool) (v w : TreeValue) → (p ≡ true → v ≡ w) → (v ≡ w → p ≡ true) → p ≡ same coded_value v w
agree p v w f g = alike p (same coded_value v w) (λ e. is_same coded_value v w (f e)) (λ e. g (same_is coded_value v w e))

both : (p q : Bool) → (p && q) ≡ true → (p ≡ true) × (q ≡ true)
both true q e = (refl, e)
both false q e = absurd cc

and_true : (p q : Bool) → p ≡ true → q ≡ true → (p && q) ≡ true
and_true p q e f = rw (e, f) refl

raw_same : (k : Kind) (x z : List ℕ) → bytes_eq x z ≡ same coded_value (leaf_value k (raw_value x)) (leaf_value k (raw_value z))
raw_same k x z = agree (bytes_eq x z) _ _ (λ e. ap (λ (b : List ℕ). leaf_value k (raw_value b)) ((bytes_eq-Decides x z).0 e)) (λ e. (bytes_eq-Decides x z).1 cc)

text_same : (k : Kind) (x z : List ℕ) → bytes_eq x z ≡ same coded_value (leaf_value k (text_value x)) (leaf_value k (text_value z))
text_same k x z = agree (bytes_eq x z) _ _ (λ e. ap (λ (b : List ℕ). leaf_value k (text_value b)) ((bytes_eq-Decides x z).0 e)) (λ e. (bytes_eq-Decides x z).1 cc)

number_same : (k : Kind) (x z : ℤ) → int_eq x z ≡ same coded_value (leaf_value k (number_value x)) (leaf_value k (number_value z))
number_same k x z = agree (int_eq x z) _ _ (λ e. ap (λ (n : ℤ). leaf_value k (number_value n)) ((Decides-int_eq x z).0 e)) (λ e. (Decides-int_eq x z).1 cc)

pub document_same : (k : Kind) (b : Beside) (x z : List (List ℕ × TreeValue)) → same coded_pairs x z ≡ same coded_value (document_value k b (tree_of x)) (document_value k b (tree_of z))
document_same k b x z =
    agree (same coded_pairs x z) _ _ (λ e. ap (λ (ps : List (List ℕ × TreeValue)). document_value k b (tree_of ps)) (same_is coded_pairs x z e))
    (λ e. is_same coded_pairs x z (one_document x z cc))

pub array_same : (k : Kind) (b : Beside) (x z : List TreeValue) → same coded_values x z ≡ same coded_value (document_value k b (array_tree 0 x)) (document_value k b (array_tree 0 z))
array_same k b x z =
    agree (same coded_values x z) _ _ (λ e. ap (λ (vs : List TreeValue). document_value k b (array_tree 0 vs)) (same_is coded_values x z e))
    (λ e. is_same coded_values x z (one_array 0 x z cc))

boolean_same : (x z : Bool) → beq x z ≡ same coded_value (leaf_value kinds.Boolean (boolean_value x)) (leaf_value kinds.Boolean (boolean_value z))
boolean_same true true = let v : TreeValue = leaf_value kinds.Boolean (boolean_value true) in sym (is_same coded_value v v refl)
boolean_same false false = let v : TreeValue = leaf_value kinds.Boolean (boolean_value false) in sym (is_same coded_value v v refl)
boolean_same true false = not_same coded_value (leaf_value kinds.Boolean (boolean_value true)) (leaf_value kinds.Boolean (boolean_value false)) true_apart
  where
    true_apart : leaf_value kinds.Boolean (boolean_value true) ≡ leaf_value kinds.Boolean (boolean_value false) → ⊥
    true_apart e = cc
boolean_same false true = not_same coded_value (leaf_value kinds.Boolean (boolean_value false)) (leaf_value kinds.Boolean (boolean_value true)) false_apart
  where
    false_apart : leaf_value kinds.Boolean (boolean_value false) ≡ leaf_value kinds.Boolean (boolean_value true) → ⊥
    false_apart e = cc

number_is : (m n : ℕ) → nat_eq m n ≡ true → m ≡ n
number_is m n e = grind (arith, nat_tests)

is_number : (m n : ℕ) → m ≡ n → nat_eq m n ≡ true
is_number m n e = grind (arith, nat_tests)

binary_same : (x z : ℕ) (y w : List ℕ) → (nat_eq x z && bytes_eq y w) ≡ same coded_value (leaf_value kinds.Binary (binary_value x y)) (leaf_value kinds.Binary (binary_value z w))
binary_same x z y w =
    agree (nat_eq x z && bytes_eq y w) _ _ (λ e. let p = both (nat_eq x z) (bytes_eq y w) e in λ i. leaf_value kinds.Binary (binary_value (number_is x z p.0 i) ((bytes_eq-Decides y w).0 p.1 i)))
    (λ e. and_true (nat_eq x z) (bytes_eq y w) (is_number x z cc) ((bytes_eq-Decides y w).1 cc))

regex_same : (x z y w : List ℕ) → (bytes_eq x z && bytes_eq y w) ≡ same coded_value (leaf_value kinds.Regex (regex_value x y)) (leaf_value kinds.Regex (regex_value z w))
regex_same x z y w =
    agree (bytes_eq x z && bytes_eq y w) _ _ (λ e. let p = both (bytes_eq x z) (bytes_eq y w) e in λ i. leaf_value kinds.Regex (regex_value ((bytes_eq-Decides x z).0 p.0 i) ((bytes_eq-Decides y w).0 p.1 i)))
    (λ e. and_true (bytes_eq x z) (bytes_eq y w) ((bytes_eq-Decides x z).1 cc) ((bytes_eq-Decides y w).1 cc))

pointer_same : (x z y w : List ℕ) → (bytes_eq x z && bytes_eq y w) ≡ same coded_value (leaf_value kinds.DbPointer (pointer_value x y)) (leaf_value kinds.DbPointer (pointer_value z w))
pointer_same x z y w =
    agree (bytes_eq x z && bytes_eq y w) _ _ (λ e. let p = both (bytes_eq x z) (bytes_eq y w) e in λ i. leaf_value kinds.DbPointer (pointer_value ((bytes_eq-Decides x z).0 p.0 i) ((bytes_eq-Decides y w).0 p.1 i)))
    (λ e. and_true (bytes_eq x z) (bytes_eq y w) ((bytes_eq-Decides x z).1 cc) ((bytes_eq-Decides y w).1 cc))

pub scope_same : (x z : List ℕ) (y w : List (List ℕ × TreeValue)) → (bytes_eq x z && same coded_pairs y w) ≡ same coded_value (document_value kinds.CodeWithScope (with_code x) (tree_of y)) (document_value kinds.CodeWithScope (with_code z) (tree_of w))
scope_same x z y w =
    agree (bytes_eq x z && same coded_pairs y w) _ _ (λ e. let p = both (bytes_eq x z) (same coded_pairs y w) e in λ i. document_value kinds.CodeWithScope (with_code ((bytes_eq-Decides x z).0 p.0 i)) (tree_of (same_is coded_pairs y w p.1 i)))
    (λ e. and_true (bytes_eq x z) (same coded_pairs y w) ((bytes_eq-Decides x z).1 cc) (is_same coded_pairs y w (one_document y w cc)))

timestamp_same : (x z y w : ℕ) → (nat_eq x z && nat_eq y w) ≡ same coded_value (leaf_value kinds.Timestamp (timestamp_value x y)) (leaf_value kinds.Timestamp (timestamp_value z w))
timestamp_same x z y w =
    agree (nat_eq x z && nat_eq y w) _ _ (λ e. let p = both (nat_eq x z) (nat_eq y w) e in λ i. leaf_value kinds.Timestamp (timestamp_value (number_is x z p.0 i) (number_is y w p.1 i)))
    (λ e. and_true (nat_eq x z) (nat_eq y w) (is_number x z cc) (is_number y w cc))

-- the value of a tree that a borrowed value without a document lends
shown : RawBson → TreeValue
shown (borrowed.Double x) = leaf_value kinds.Double (raw_value x)
shown (borrowed.String x) = leaf_value kinds.String (text_value x.now)
shown (borrowed.Binary x y) = leaf_value kinds.Binary (binary_value x y.now)
shown borrowed.Undefined = leaf_value kinds.Undefined (raw_value [])
shown (borrowed.ObjectId x) = leaf_value kinds.ObjectId (raw_value x)
shown (borrowed.Boolean x) = leaf_value kinds.Boolean (boolean_value x)
shown (borrowed.DateTime x) = leaf_value kinds.DateTime (number_value x)
shown borrowed.Null = leaf_value kinds.Null (raw_value [])
shown (borrowed.Regex x y) = leaf_value kinds.Regex (regex_value x.now y.now)
shown (borrowed.DbPointer x y) = leaf_value kinds.DbPointer (pointer_value x.now y)
shown (borrowed.Code x) = leaf_value kinds.Code (text_value x.now)
shown (borrowed.Symbol x) = leaf_value kinds.Symbol (text_value x.now)
shown (borrowed.Int32 x) = leaf_value kinds.Int32 (number_value x)
shown (borrowed.Timestamp x y) = leaf_value kinds.Timestamp (timestamp_value x y)
shown (borrowed.Int64 x) = leaf_value kinds.Int64 (number_value x)
shown (borrowed.Decimal128 x) = leaf_value kinds.Decimal128 (raw_value x)
shown borrowed.MinKey = leaf_value kinds.MinKey (raw_value [])
shown borrowed.MaxKey = leaf_value kinds.MaxKey (raw_value [])
shown _ = document_value kinds.Document no_code (tree_of [])

leaf_is : (r : RawBson) (v : TreeValue) → IsLeaf r → Shows r v → v ≡ shown r
unfolding shown
leaf_is (borrowed.Document x) v leaf is = absurd leaf
leaf_is (borrowed.Array x) v leaf is = absurd leaf
leaf_is (borrowed.CodeWithScope x y) v leaf is = absurd leaf
leaf_is _ v leaf is = is

leaf_same : (a b : RawBson) → IsLeaf a → IsLeaf b → of_leaves.eq a b ≡ same coded_value (shown a) (shown b)
unfolding shown
leaf_same (borrowed.Document x) b l m = absurd l
leaf_same (borrowed.Array x) b l m = absurd l
leaf_same (borrowed.CodeWithScope x y) b l m = absurd l
leaf_same (borrowed.Double x) (borrowed.Double z) l m = raw_same kinds.Double x z
leaf_same (borrowed.Double x) _ l m = refl
leaf_same (borrowed.String x) (borrowed.String z) l m = text_same kinds.String x.now z.now
leaf_same (borrowed.String x) _ l m = refl
leaf_same (borrowed.Binary x y) (borrowed.Binary z w) l m = binary_same x z y.now w.now
leaf_same (borrowed.Binary x y) _ l m = refl
leaf_same borrowed.Undefined borrowed.Undefined l m = sym (is_same coded_value (shown borrowed.Undefined) (shown borrowed.Undefined) refl)
leaf_same borrowed.Undefined _ l m = refl
leaf_same (borrowed.ObjectId x) (borrowed.ObjectId z) l m = raw_same kinds.ObjectId x z
leaf_same (borrowed.ObjectId x) _ l m = refl
leaf_same (borrowed.Boolean x) (borrowed.Boolean z) l m = boolean_same x z
leaf_same (borrowed.Boolean x) _ l m = refl
leaf_same (borrowed.DateTime x) (borrowed.DateTime z) l m = number_same kinds.DateTime x z
leaf_same (borrowed.DateTime x) _ l m = refl
leaf_same borrowed.Null borrowed.Null l m = sym (is_same coded_value (shown borrowed.Null) (shown borrowed.Null) refl)
leaf_same borrowed.Null _ l m = refl
leaf_same (borrowed.Regex x y) (borrowed.Regex z w) l m = regex_same x.now z.now y.now w.now
leaf_same (borrowed.Regex x y) _ l m = refl
leaf_same (borrowed.DbPointer x y) (borrowed.DbPointer z w) l m = pointer_same x.now z.now y w
leaf_same (borrowed.DbPointer x y) _ l m = refl
leaf_same (borrowed.Code x) (borrowed.Code z) l m = text_same kinds.Code x.now z.now
leaf_same (borrowed.Code x) _ l m = refl
leaf_same (borrowed.Symbol x) (borrowed.Symbol z) l m = text_same kinds.Symbol x.now z.now
leaf_same (borrowed.Symbol x) _ l m = refl
leaf_same (borrowed.Int32 x) (borrowed.Int32 z) l m = number_same kinds.Int32 x z
leaf_same (borrowed.Int32 x) _ l m = refl
leaf_same (borrowed.Timestamp x y) (borrowed.Timestamp z w) l m = timestamp_same x z y w
leaf_same (borrowed.Timestamp x y) _ l m = refl
leaf_same (borrowed.Int64 x) (borrowed.Int64 z) l m = number_same kinds.Int64 x z
leaf_same (borrowed.Int64 x) _ l m = refl
leaf_same (borrowed.Decimal128 x) (borrowed.Decimal128 z) l m = raw_same kinds.Decimal128 x z
leaf_same (borrowed.Decimal128 x) _ l m = refl
leaf_same borrowed.MinKey borrowed.MinKey l m = sym (is_same coded_value (shown borrowed.MinKey) (shown borrowed.MinKey) refl)
leaf_same borrowed.MinKey _ l m = refl
leaf_same borrowed.MaxKey borrowed.MaxKey l m = sym (is_same coded_value (shown borrowed.MaxKey) (shown borrowed.MaxKey) refl)
leaf_same borrowed.MaxKey _ l m = refl

-- two values that hold no document are equal where those that they lend are
pub leaves_same : (a b : RawBson) (v w : TreeValue) → IsLeaf a × Shows a v × IsFormedValue v → IsLeaf b × Shows b w × IsFormedValue w
    → of_leaves.eq a b ≡ same coded_value v w
leaves_same a b v w l m = leaf_same a b l.0 m.0 ∙ (λ i. same coded_value (sym (leaf_is a v l.0 l.1) i) (sym (leaf_is b w m.0 m.1) i))

-- two containers are equal where what they hold is
pub seen_alike : (v w a b : TreeValue) (p : Bool) → v ≡ a → w ≡ b → p ≡ same coded_value a b → p ≡ same coded_value v w
seen_alike v w a b p e f g = g ∙ (λ i. same coded_value (sym e i) (sym f i))

-- two scopes whose codes differ aren't equal
pub other_code : (x z : List ℕ) (y w : List (List ℕ × TreeValue)) → bytes_eq x z ≡ false
    → false ≡ same coded_value (document_value kinds.CodeWithScope (with_code x) (tree_of y)) (document_value kinds.CodeWithScope (with_code z) (tree_of w))
other_code x z y w e = rw e at (scope_same x z y w)

-- ---- one value after another

pub one_more : (vs ws : List Bson) (i : ℕ) (v w : Bson) → i < length vs → i < length ws → v ≡ get_or vs i v → w ≡ get_or ws i w → map value_of (take i vs) ≡ map value_of (take i ws)
    → same coded_value (value_of v) (value_of w) ≡ true → map value_of (take (i + 1) vs) ≡ map value_of (take (i + 1) ws)
one_more vs ws i v w short short' is is' so_far e =
    let values : value_of v ≡ value_of w = same_is coded_value (value_of v) (value_of w) e in
    let left : take (i + 1) vs ≡ take i vs ++ v ∷ [] = take_more vs i v short ∙ ap (λ (x : Bson). take i vs ++ x ∷ []) (sym is) in
    let right : take (i + 1) ws ≡ take i ws ++ w ∷ [] = take_more ws i w short' ∙ ap (λ (x : Bson). take i ws ++ x ∷ []) (sym is') in
    ap (map value_of) left ∙ map-append value_of (take i vs) (v ∷ []) ∙ (λ j. so_far j ++ values j ∷ []) ∙ sym (map-append value_of (take i ws) (w ∷ [])) ∙ sym (ap (map value_of) right)

pub all_same : (vs ws : List Bson) (i : ℕ) → length vs ≤ i → length vs ≡ length ws → map value_of (take i vs) ≡ map value_of (take i ws) → map value_of vs ≡ map value_of ws
all_same vs ws i over e so_far = sym (ap (map value_of) (take_all i vs over)) ∙ so_far ∙ ap (map value_of) (take_all i ws (omega (arith, e, over)))

pub one_other : (vs ws : List Bson) (i : ℕ) (v w : Bson) → i < length vs → i < length ws → v ≡ get_or vs i v → w ≡ get_or ws i w → same coded_value (value_of v) (value_of w) ≡ false → map value_of vs ≡ map value_of ws → ⊥
one_other vs ws i v w short short' is is' e all =
    let at : value_of v ≡ value_of w = ap value_of is ∙ sym (get_or-map value_of vs i v (value_of v) short) ∙ ap (λ (xs : List TreeValue). get_or xs i (value_of v)) all ∙ get_or-map value_of ws i w (value_of v) short' ∙ ap value_of (sym is') in
    let t : same coded_value (value_of v) (value_of w) ≡ true = is_same coded_value (value_of v) (value_of w) at in
    cc

-- ---- names

pub same_names : (ks ms : List (String Global)) → map string_bytes ks ≡ map string_bytes ms → pointwise string_eq ks ms ≡ true
same_names [] [] e = refl
same_names [] (m ∷ ms) e = absurd cc
same_names (k ∷ ks) [] e = absurd cc
same_names (k ∷ ks) (m ∷ ms) e = and_true (string_eq k m) (pointwise string_eq ks ms) ((bytes_eq-Decides (string_bytes k) (string_bytes m)).1 cc) (same_names ks ms cc)

pub names_same : (ks ms : List (String Global)) → pointwise string_eq ks ms ≡ true → map string_bytes ks ≡ map string_bytes ms
names_same [] [] e = refl
names_same [] (m ∷ ms) e = absurd cc
names_same (k ∷ ks) [] e = absurd cc
names_same (k ∷ ks) (m ∷ ms) e = let p = both (string_eq k m) (pointwise string_eq ks ms) e in λ i. (bytes_eq-Decides (string_bytes k) (string_bytes m)).0 p.0 i ∷ names_same ks ms p.1 i

-- ---- a value is less deep than what holds it

pub in_array : (index i : ℕ) (vs : List Bson) (v : Bson) → i < length vs → v ≡ get_or vs i v → value_depth (value_of v) ≤ tree_depth (array_tree index (map value_of vs))
in_array index i [] v lt is = absurd (omega arith)
in_array index zero (u ∷ vs) v lt is = rw (tree_depth-with_first (decimal index) (value_of u) (array_tree (index + 1) (map value_of vs))) (omega (arith, ap (λ (x : Bson). value_depth (value_of x)) is))
in_array index (suc i) (u ∷ vs) v lt is = rw (tree_depth-with_first (decimal index) (value_of u) (array_tree (index + 1) (map value_of vs))) (omega (arith, in_array (index + 1) i vs v (omega arith) is))

pub in_document : (ks : List (String Global)) (i : ℕ) (vs : List Bson) (v : Bson) → length ks ≡ length vs → i < length vs → v ≡ get_or vs i v → value_depth (value_of v) ≤ tree_depth (tree_of (paired (map string_bytes ks) (map value_of vs)))
in_document ks i [] v e lt is = absurd (omega arith)
in_document [] i (u ∷ vs) v e lt is = absurd (omega arith)
in_document (k ∷ ks) zero (u ∷ vs) v e lt is = rw (tree_depth-with_first (string_bytes k) (value_of u) (tree_of (paired (map string_bytes ks) (map value_of vs)))) (omega (arith, ap (λ (x : Bson). value_depth (value_of x)) is))
in_document (k ∷ ks) (suc i) (u ∷ vs) v e lt is = rw (tree_depth-with_first (string_bytes k) (value_of u) (tree_of (paired (map string_bytes ks) (map value_of vs)))) (omega (arith, in_document ks i vs v (omega arith) (omega arith) is))

pub as_many_names : (ks ms : List (String Global)) → pointwise string_eq ks ms ≡ true → length ks ≡ length ms
as_many_names ks ms e = sym (length-map ks string_bytes) ∙ ap length (names_same ks ms e) ∙ length-map ms string_bytes

-- the names and the values of a document
pub same_document_names : (ks ms : List (String Global)) (vs ws : List Bson) → length ks ≡ length vs → length ms ≡ length ws
    → paired (map string_bytes ks) (map value_of vs) ≡ paired (map string_bytes ms) (map value_of ws) → map string_bytes ks ≡ map string_bytes ms
same_document_names ks ms vs ws e f same = sym (names_seen ks vs e) ∙ ap names same ∙ names_seen ms ws f

pub same_document_values : (ks ms : List (String Global)) (vs ws : List Bson) → length ks ≡ length vs → length ms ≡ length ws
    → paired (map string_bytes ks) (map value_of vs) ≡ paired (map string_bytes ms) (map value_of ws) → map value_of vs ≡ map value_of ws
same_document_values ks ms vs ws e f same = sym (values_seen ks vs e) ∙ ap values_in same ∙ values_seen ms ws f

pub differ : (b d : Bool) → d ≡ true → d ≡ not b → b ≡ true → ⊥
differ true d e f g = let h : true ≡ false = sym e ∙ f in cc
differ false d e f g = cc

pub stay : (b d : Bool) → d ≡ false → d ≡ not b → b ≡ true
stay true d e f = refl
stay false d e f = let h : false ≡ true = sym e ∙ f in absurd cc
