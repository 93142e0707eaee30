-- The tree of an owned document: the names of an array are the indexes of its values, and no name is repeated.
use Rattle.std.proofs.Common.{◌≡◌, ℕ, ◌+◌, true, false, List, [], ◌∷◌, ◌++◌, Option, None, map, refl, sym, ap, ◌∙◌, append_assoc, arith, length, subst, String, string_bytes}
use Rattle.std.specs.Prelude.{Result, Ok, Err, IfOk, IfErr, MatchResult}
use Rattle.std.specs.declared.alloc.Global.{Global}
use Rattle.std.specs.Fmt.{decimal}
use Rattle.std.specs.List.{AllByRecursion, IsDistinct}
use Rattle.std.specs.Str.{bytes_eq}
use Rattle.std.specs.String.{string_eq}
use Rattle.std.proofs.lemmas.List.{length-map}
use Rattle.std.proofs.lemmas.Map.Keys.{IsDistinct-head, IsDistinct-tail}
use Rattle.bson_elem.specs.Trees.{Tree}
use Rattle.bson_raw.specs.Pairs.{TreeValue, leaf_value, document_value, with_first, is_among}
use Rattle.bson_doc.specs.declared.refusal.DocRefusal.{DocRefusal}
use Rattle.bson_doc.specs.declared.refusal.DocRefusal.TheVariants.{RepeatedName, OutOfMemory, TooLarge, ZeroInName, Depth}
use Rattle.bson_doc.specs.declared.bson_values.Bson.{Bson}
use Rattle.bson_doc.specs.Array.{array_tree}
use Rattle.bson_doc.specs.Bson.{value_of}
use Rattle.bson_doc.specs.Document.{Pairs, paired, pairs_of, tree_of}
use Rattle.bson_doc.specs.Plain.{plain, plain_from}
use Rattle.bson_doc.specs.Repeats.{repeat_depth, repeat_in, repeat_in_value, IsRepeat}
use Rattle.bson_doc.specs.Values.{plain_value}
use Rattle.bson_doc.proofs.Reading.{plain_from-with_first, repeat_in-with_first}

-- the names and the values of pairs
abbrev pub names : Pairs → List (List ℕ)
names ps = map (λ p. p.0) ps

abbrev pub values : Pairs → List TreeValue
values ps = map (λ p. p.1) ps

-- A value in a container of this depth has its canonical form, and repeats no name.
pub record IsOwned (depth : ℕ) (v : TreeValue) : Type 0 where
  pub plain : plain_value v ≡ v
  pub unique : repeat_in_value depth v ≡ None

abbrev pub AreOwned : ℕ → List TreeValue → Type 0
AreOwned depth [] = Unit {0}
AreOwned depth (v ∷ vs) = IsOwned depth v × AreOwned depth vs

pub none_left : (depth : ℕ) (ps : Pairs) → ps ≡ [] → AreOwned depth (values ps)
none_left depth ps e = rw e tt

-- ---- canonical names

pub document_plain : (depth index : ℕ) (ps : Pairs) → AreOwned depth (values ps) → plain_from false index (tree_of ps) ≡ tree_of ps
document_plain depth index [] o = refl
document_plain depth index (p ∷ ps) o =
    plain_from-with_first false index p.0 p.1 (tree_of ps) ∙ ap (λ (v : TreeValue). with_first p.0 v (plain_from false (index + 1) (tree_of ps))) o.0.plain
    ∙ ap (with_first p.0 p.1) (document_plain depth (index + 1) ps o.1)

pub array_plain : (depth index : ℕ) (vs : List TreeValue) → AreOwned depth vs → plain_from true index (array_tree index vs) ≡ array_tree index vs
array_plain depth index [] o = refl
array_plain depth index (v ∷ vs) o =
    plain_from-with_first true index (decimal index) v (array_tree (index + 1) vs) ∙ ap (λ (w : TreeValue). with_first (decimal index) w (plain_from true (index + 1) (array_tree (index + 1) vs))) o.0.plain
    ∙ ap (with_first (decimal index) v) (array_plain depth (index + 1) vs o.1)

-- ---- no name twice

not_among : (seen : List (List ℕ)) (n : List ℕ) (rest : List (List ℕ)) → IsDistinct bytes_eq (seen ++ n ∷ rest) → is_among n seen ≡ false
not_among [] n rest d = refl
not_among (s ∷ seen) n rest d = rw (apart seen (IsDistinct-head bytes_eq s (seen ++ n ∷ rest) d), not_among seen n rest (IsDistinct-tail bytes_eq s (seen ++ n ∷ rest) d)) refl
  where
    apart : (ms : List (List ℕ)) → AllByRecursion (λ m. bytes_eq s m ≡ false) (ms ++ n ∷ rest) → bytes_eq s n ≡ false
    apart [] a = a.0
    apart (m ∷ ms) a = apart ms a.1

unique_behind : (depth : ℕ) (seen : List (List ℕ)) (ps : Pairs) → IsDistinct bytes_eq (seen ++ names ps) → AreOwned depth (values ps) → repeat_in false depth seen (tree_of ps) ≡ None
unique_behind depth seen [] d o = refl
unique_behind depth seen (p ∷ ps) d o =
    let later : IsDistinct bytes_eq ((seen ++ p.0 ∷ []) ++ names ps) = rw (append_assoc seen (p.0 ∷ []) (names ps)) d in
    repeat_in-with_first false depth seen p.0 p.1 (tree_of ps) ∙ rw (not_among seen p.0 (names ps) d, o.0.unique) (unique_behind depth (seen ++ p.0 ∷ []) ps later o.1)

pub document_unique : (depth : ℕ) (ps : Pairs) → IsDistinct bytes_eq (names ps) → AreOwned depth (values ps) → repeat_in false depth [] (tree_of ps) ≡ None
document_unique depth ps d o = unique_behind depth [] ps d o

pub array_unique : (depth index : ℕ) (vs : List TreeValue) → AreOwned depth vs → repeat_in true depth [] (array_tree index vs) ≡ None
array_unique depth index [] o = refl
array_unique depth index (v ∷ vs) o =
    repeat_in-with_first true depth [] (decimal index) v (array_tree (index + 1) vs) ∙ rw o.0.unique (array_unique depth (index + 1) vs o.1)

-- ---- the names of a set

distinct_bytes : (ks : List (String Global)) → IsDistinct string_eq ks → IsDistinct bytes_eq (map string_bytes ks)
unfolding IsDistinct
distinct_bytes [] d = tt
distinct_bytes (k ∷ ks) d = (apart ks d.0, distinct_bytes ks d.1)
  where
    apart : (ms : List (String Global)) → AllByRecursion (λ m. string_eq k m ≡ false) ms → AllByRecursion (λ m. bytes_eq (string_bytes k) m ≡ false) (map string_bytes ms)
    apart [] a = tt
    apart (m ∷ ms) a = (a.0, apart ms a.1)

names-paired : (ns : List (List ℕ)) (vs : List TreeValue) → length ns ≡ length vs → names (paired ns vs) ≡ ns
names-paired [] vs e = refl
names-paired (n ∷ ns) [] e = absurd (omega arith)
names-paired (n ∷ ns) (v ∷ vs) e = ap (λ (q : List (List ℕ)). n ∷ q) (names-paired ns vs (omega arith))

values-paired : (ns : List (List ℕ)) (vs : List TreeValue) → length ns ≡ length vs → values (paired ns vs) ≡ vs
values-paired [] [] e = refl
values-paired [] (v ∷ vs) e = absurd (omega arith)
values-paired (n ∷ ns) [] e = absurd (omega arith)
values-paired (n ∷ ns) (v ∷ vs) e = ap (λ (q : List TreeValue). v ∷ q) (values-paired ns vs (omega arith))

as_many : (ks : List (String Global)) (bs : List Bson) → length ks ≡ length bs → length (map string_bytes ks) ≡ length (map value_of bs)
as_many ks bs e = length-map ks string_bytes ∙ e ∙ sym (length-map bs value_of)

pub names_seen : (ks : List (String Global)) (bs : List Bson) → length ks ≡ length bs → names (paired (map string_bytes ks) (map value_of bs)) ≡ map string_bytes ks
names_seen ks bs e = names-paired (map string_bytes ks) (map value_of bs) (as_many ks bs e)

pub values_seen : (ks : List (String Global)) (bs : List Bson) → length ks ≡ length bs → values (paired (map string_bytes ks) (map value_of bs)) ≡ map value_of bs
values_seen ks bs e = values-paired (map string_bytes ks) (map value_of bs) (as_many ks bs e)

-- the names of a document are those of its set
pub set_distinct : (ks : List (String Global)) (bs : List Bson) → length ks ≡ length bs → IsDistinct string_eq ks → IsDistinct bytes_eq (names (paired (map string_bytes ks) (map value_of bs)))
set_distinct ks bs e d = rw (names_seen ks bs e) (distinct_bytes ks d)

-- ---- the pairs of a tree

-- the pairs of the tree of pairs are these
pub pairs_of_tree : (ps : Pairs) → pairs_of (tree_of ps) ≡ ps
pairs_of_tree [] = refl
pairs_of_tree ((n, leaf_value k v) ∷ ps) = ap (λ (q : Pairs). (n, leaf_value k v) ∷ q) (pairs_of_tree ps)
pairs_of_tree ((n, document_value k b inner) ∷ ps) = ap (λ (q : Pairs). (n, document_value k b inner) ∷ q) (pairs_of_tree ps)

-- pairs with the same tree are the same pairs
pub one_document : (ps qs : Pairs) → tree_of ps ≡ tree_of qs → ps ≡ qs
one_document ps qs e = sym (pairs_of_tree ps) ∙ ap pairs_of e ∙ pairs_of_tree qs

-- values with the same array are the same values
values-array_tree : (index : ℕ) (vs : List TreeValue) → values (pairs_of (array_tree index vs)) ≡ vs
values-array_tree index [] = refl
values-array_tree index (leaf_value k v ∷ vs) = ap (λ (q : List TreeValue). leaf_value k v ∷ q) (values-array_tree (index + 1) vs)
values-array_tree index (document_value k b inner ∷ vs) = ap (λ (q : List TreeValue). document_value k b inner ∷ q) (values-array_tree (index + 1) vs)

pub one_array : (index : ℕ) (vs ws : List TreeValue) → array_tree index vs ≡ array_tree index ws → vs ≡ ws
one_array index vs ws e = sym (values-array_tree index vs) ∙ ap (λ (t : Tree). values (pairs_of t)) e ∙ values-array_tree index ws

-- where no name is repeated, want of memory alone is left
pub only_memory : (e : DocRefusal) → IsRepeat None e → e ≡ OutOfMemory
only_memory (RepeatedName depth) r = cc
only_memory OutOfMemory r = refl
only_memory TooLarge r = absurd r
only_memory ZeroInName r = absurd r
only_memory Depth r = absurd r

-- what is read from the bytes that a document is written as
pub read_back : (r : Result Pairs DocRefusal) (ps : Pairs) → IfOk r (λ d. tree_of d ≡ plain (tree_of ps)) → IfErr r (λ e. IsRepeat (repeat_depth (tree_of ps)) e)
    → plain (tree_of ps) ≡ tree_of ps → repeat_depth (tree_of ps) ≡ None → MatchResult r (λ d. d ≡ ps) (λ e. e ≡ OutOfMemory)
read_back (Ok d) ps read refused same none = one_document d ps (read ∙ same)
read_back (Err e) ps read refused same none = only_memory e (subst (λ (found : Option ℕ). IsRepeat found e) none refused)
