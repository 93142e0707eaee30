-- A tree with one more pair.
use Rattle.std.proofs.Common.{◌≡◌, ℕ, ◌+◌, List, ◌∷◌, ◌++◌, length, refl, sym, ap, ◌∙◌, arith, append_assoc}
use Rattle.std.proofs.lemmas.List.{append-nil}
use Rattle.bson_elem.specs.Kinds.{byte_of, form_of}
use Rattle.bson_elem.specs.Spelling.{cstring, elements, leaf_bytes, inner_bytes, Fits}
use Rattle.bson_elem.specs.Trees.{Tree, no_pairs, leaf_pair, inner_pair}
use Rattle.bson_raw.specs.Pairs.{TreeValue, leaf_value, document_value, with_first, names_of}
use Rattle.bson_doc.specs.Appended.{with_pair_appended}
use Rattle.bson_doc.specs.Values.{element_bytes}

first : (n : List ℕ) (v : TreeValue) → elements (with_first n v no_pairs) ≡ element_bytes n v
first n (leaf_value k v) = append-nil (byte_of k ∷ (cstring n ++ leaf_bytes (form_of k) v))
first n (document_value k b inner) = append-nil (byte_of k ∷ (cstring n ++ inner_bytes b (elements inner)))

pub elements_longer : (n : List ℕ) (v : TreeValue) (t : Tree) → elements (with_pair_appended n v t) ≡ elements t ++ element_bytes n v
elements_longer n v no_pairs = first n v
elements_longer n v (leaf_pair m k leaf ps) =
    ap (λ (x : List ℕ). (byte_of k ∷ (cstring m ++ leaf_bytes (form_of k) leaf)) ++ x) (elements_longer n v ps)
    ∙ sym (append_assoc (byte_of k ∷ (cstring m ++ leaf_bytes (form_of k) leaf)) (elements ps) (element_bytes n v))
elements_longer n v (inner_pair m k b inner ps) =
    ap (λ (x : List ℕ). (byte_of k ∷ (cstring m ++ inner_bytes b (elements inner))) ++ x) (elements_longer n v ps)
    ∙ sym (append_assoc (byte_of k ∷ (cstring m ++ inner_bytes b (elements inner))) (elements ps) (element_bytes n v))

pub fits_longer : (depth : ℕ) (n : List ℕ) (v : TreeValue) (t : Tree) → Fits depth t → Fits depth (with_first n v no_pairs) → Fits depth (with_pair_appended n v t)
fits_longer depth n v no_pairs f last = last
fits_longer depth n v (leaf_pair m k leaf ps) f last = (f.0, f.1, fits_longer depth n v ps f.2 last)
fits_longer depth n v (inner_pair m k b inner ps) f last = (f.0, f.1, f.2, f.3, f.4, fits_longer depth n v ps f.5 last)

pub one_more : (n : List ℕ) (v : TreeValue) (t : Tree) → length (names_of (with_pair_appended n v t)) ≡ length (names_of t) + 1
one_more n (leaf_value k v) no_pairs = refl
one_more n (document_value k b inner) no_pairs = refl
one_more n v (leaf_pair m k leaf ps) = omega (arith, one_more n v ps)
one_more n v (inner_pair m k b inner ps) = omega (arith, one_more n v ps)
