-- The canonical form of trees.
use Rattle.std.proofs.Common.{◌≡◌, ℕ, zero, suc, ◌+◌, ◌<◌, Bool, true, false, List, [], ◌∷◌, length, Some, refl, sym, ap, ◌∙◌, arith}
use Rattle.std.specs.Prelude.{slice_get, option_map}
use Rattle.std.specs.Fmt.{decimal}
use Rattle.bson_elem.specs.Trees.{Tree, no_pairs, leaf_pair, inner_pair}
use Rattle.bson_elem.specs.Spelling.{Spells}
use Rattle.bson_elem.proofs.Lemmas.{same_front}
use Rattle.std.proofs.lemmas.List.{append-nil}
use Rattle.bson_raw.specs.Pairs.{names_of, nth_value}
use Rattle.bson_raw.specs.Naming.{is_array_kind, name_at}
use Rattle.bson_doc.specs.Plain.{plain_from}
use Rattle.bson_doc.specs.Values.{plain_value}

name_at-again : (in_array : Bool) (index : ℕ) (name : List ℕ) → name_at in_array index (name_at in_array index name) ≡ name_at in_array index name
name_at-again true index name = refl
name_at-again false index name = refl

pub plain-again : (in_array : Bool) (index : ℕ) (t : Tree) → plain_from in_array index (plain_from in_array index t) ≡ plain_from in_array index t
plain-again in_array index no_pairs = refl
plain-again in_array index (leaf_pair name k v ps) =
    let n = name_at-again in_array index name in
    let p = plain-again in_array (index + 1) ps in
    cc
plain-again in_array index (inner_pair name k b inner ps) =
    let n = name_at-again in_array index name in
    let i = plain-again (is_array_kind k) 0 inner in
    let p = plain-again in_array (index + 1) ps in
    cc

pub names-kept : (index : ℕ) (t : Tree) → names_of (plain_from false index t) ≡ names_of t
names-kept index no_pairs = refl
names-kept index (leaf_pair name k v ps) = ap (λ (ns : List (List ℕ)). name ∷ ns) (names-kept (index + 1) ps)
names-kept index (inner_pair name k b inner ps) = ap (λ (ns : List (List ℕ)). name ∷ ns) (names-kept (index + 1) ps)

-- a byte list spells at most one tree
pub one_tree : (t u : Tree) (bytes : List ℕ) → Spells t bytes → Spells u bytes → t ≡ u
one_tree t u bytes s s' = (same_front bytes t u bytes bytes [] [] s s' (sym (append-nil bytes)) (sym (append-nil bytes))).0

names-numbered : (index : ℕ) (t : Tree) (k : ℕ) → k < length (names_of t) → slice_get (names_of (plain_from true index t)) k ≡ Some (decimal (index + k))
names-numbered index no_pairs k lt = absurd (omega (arith, lt))
names-numbered index (leaf_pair name kind v ps) zero lt = ap (λ (n : ℕ). Some (decimal n)) (let e : index ≡ index + 0 = omega arith in e)
names-numbered index (inner_pair name kind b inner ps) zero lt = ap (λ (n : ℕ). Some (decimal n)) (let e : index ≡ index + 0 = omega arith in e)
names-numbered index (leaf_pair name kind v ps) (suc k) lt = names-numbered (index + 1) ps k (omega (arith, lt)) ∙ ap (λ (n : ℕ). Some (decimal n)) (let e : index + 1 + k ≡ index + suc k = omega arith in e)
names-numbered index (inner_pair name kind b inner ps) (suc k) lt = names-numbered (index + 1) ps k (omega (arith, lt)) ∙ ap (λ (n : ℕ). Some (decimal n)) (let e : index + 1 + k ≡ index + suc k = omega arith in e)

-- the name of each value of an array
pub array_names : (t : Tree) (k : ℕ) → k < length (names_of t) → slice_get (names_of (plain_from true 0 t)) k ≡ Some (decimal k)
array_names t k lt = names-numbered 0 t k lt ∙ ap (λ (n : ℕ). Some (decimal n)) (let e : 0 + k ≡ k = omega arith in e)

-- the values keep their indexes
pub values-kept : (in_array : Bool) (index : ℕ) (t : Tree) (k : ℕ) → nth_value k (plain_from in_array index t) ≡ option_map plain_value (nth_value k t)
values-kept in_array index no_pairs k = refl
values-kept in_array index (leaf_pair name kind v ps) zero = refl
values-kept in_array index (inner_pair name kind b inner ps) zero = refl
values-kept in_array index (leaf_pair name kind v ps) (suc k) = values-kept in_array (index + 1) ps k
values-kept in_array index (inner_pair name kind b inner ps) (suc k) = values-kept in_array (index + 1) ps k
