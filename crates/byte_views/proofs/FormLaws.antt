-- Where the names of a document depart from its canonical form.
use Rattle.std.proofs.Common.{◌≡◌, ℕ, ◌+◌, ◌≤◌, Bool, true, false, ◌&&◌, List, ◌∷◌, ◌++◌, Option, Some, None, refl, ap, ◌∙◌, arith, length-append, inl, inr}
use Rattle.std.specs.Prelude.{option_map, IfSome}
use Rattle.std.specs.Option.{option_or}
use Rattle.std.proofs.lemmas.Bool.{cases_Bool}
use Rattle.bson_elem.specs.Kinds.{byte_of, form_of}
use Rattle.bson_elem.specs.Spelling.{cstring, elements, inner_bytes, leaf_bytes}
use Rattle.bson_elem.specs.Trees.{Tree, no_pairs, leaf_pair, inner_pair}
use Rattle.bson_elem.proofs.Lemmas.{length-document}
use Rattle.bson_raw.proofs.Lemmas.{inner_len}
use Rattle.bson_raw.specs.Naming.{is_array_kind, is_named, is_plain}
use Rattle.bson_raw.specs.Pairs.{TreeValue, leaf_value, document_value, with_first}
use Rattle.byte_views.specs.Forms.{bytes_from, misnamed, misnamed_in}

-- what is told of a first pair and the others
pub with_others : Bool → ℕ → TreeValue → Tree → Option ℕ
with_others in_array index v ps = option_or (option_map (λ (n : ℕ). bytes_from ps + n) (misnamed_in v)) (misnamed in_array (index + 1) ps)

-- the first pair has its canonical name
pub named_first : (in_array : Bool) (index : ℕ) (name : List ℕ) (v : TreeValue) (ps : Tree) → is_named in_array index name ≡ true
    → misnamed in_array index (with_first name v ps) ≡ option_or (option_map (λ (n : ℕ). bytes_from ps + n) (misnamed_in v)) (misnamed in_array (index + 1) ps)
named_first in_array index name (leaf_value k leaf) ps is = rw is refl
named_first in_array index name (document_value k b inner) ps is = rw is refl

-- the first pair has another name
pub misnamed_first : (in_array : Bool) (index : ℕ) (name : List ℕ) (v : TreeValue) (ps : Tree) → is_named in_array index name ≡ false
    → misnamed in_array index (with_first name v ps) ≡ Some (bytes_from (with_first name v ps))
misnamed_first in_array index name (leaf_value k leaf) ps is = rw is refl
misnamed_first in_array index name (document_value k b inner) ps is = rw is refl

-- ---- how many bytes are told

weaken : (o : Option ℕ) (a b : ℕ) → a ≤ b → IfSome o (λ n. n ≤ a) → IfSome o (λ n. n ≤ b)
weaken None a b le is = tt
weaken (Some n) a b le is = omega (arith, le, is)

either_le : (o p : Option ℕ) (k a b : ℕ) → k + a ≤ b → k ≤ b → IfSome o (λ n. n ≤ a) → IfSome p (λ n. n ≤ k) → IfSome (option_or (option_map (λ (n : ℕ). k + n) o) p) (λ n. n ≤ b)
either_le None p k a b le less is other = weaken p k b less other
either_le (Some n) p k a b le less is other = omega (arith, le, is)

-- they are at most those of the pairs, and the 00
pub misnamed_le : (in_array : Bool) (index : ℕ) (t : Tree) → IfSome (misnamed in_array index t) (λ n. n ≤ bytes_from t)
misnamed_le in_array index no_pairs = tt
misnamed_le in_array index (leaf_pair name k leaf ps) =
    let size = length-append (byte_of k ∷ (cstring name ++ leaf_bytes (form_of k) leaf)) (elements ps) in
    elim (cases_Bool (is_named in_array index name)) [
      | inl is_so ↦ rw is_so (weaken (misnamed in_array (index + 1) ps) (bytes_from ps) (bytes_from (leaf_pair name k leaf ps)) (omega (arith, size)) (misnamed_le in_array (index + 1) ps))
      | inr not_so ↦ rw not_so (omega arith)
    ]
misnamed_le in_array index (inner_pair name k b inner ps) =
    let size = length-append (byte_of k ∷ (cstring name ++ inner_bytes b (elements inner))) (elements ps) in
    let held = inner_len b (elements inner) in
    let front = length-append (cstring name) (inner_bytes b (elements inner)) in
    elim (cases_Bool (is_named in_array index name)) [
      | inl is_so ↦ rw is_so (either_le (misnamed (is_array_kind k) 0 inner) (misnamed in_array (index + 1) ps) (bytes_from ps) (bytes_from inner) (bytes_from (inner_pair name k b inner ps)) (omega (arith, size, held, front, length-document (elements inner))) (omega (arith, size)) (misnamed_le (is_array_kind k) 0 inner) (misnamed_le in_array (index + 1) ps))
      | inr not_so ↦ rw not_so (omega arith)
    ]

-- ---- none is told just of the canonical form

none_either : (o p : Option ℕ) (k : ℕ) → option_or (option_map (λ (n : ℕ). k + n) o) p ≡ None → (o ≡ None) × (p ≡ None)
none_either None p k is = (refl, is)
none_either (Some n) p k is = cc

pub plain_is_none : (in_array : Bool) (index : ℕ) (t : Tree) → is_plain in_array index t ≡ true → misnamed in_array index t ≡ None
plain_is_none in_array index no_pairs plain = refl
plain_is_none in_array index (leaf_pair name k leaf ps) plain =
    elim (cases_Bool (is_named in_array index name)) [
      | inl is_so ↦ rw is_so (plain_is_none in_array (index + 1) ps (rw is_so at plain))
      | inr not_so ↦ absurd (let f : false ≡ true = rw not_so at plain in cc)
    ]
plain_is_none in_array index (inner_pair name k b inner ps) plain =
    elim (cases_Bool (is_named in_array index name)) [
      | inl is_so ↦
          let both : (is_plain (is_array_kind k) 0 inner && is_plain in_array (index + 1) ps) ≡ true = rw is_so at plain in
          elim (cases_Bool (is_plain (is_array_kind k) 0 inner)) [
            | inl within ↦ rw (is_so, plain_is_none (is_array_kind k) 0 inner within) (plain_is_none in_array (index + 1) ps (rw within at both))
            | inr not_so ↦ absurd (let f : false ≡ true = rw not_so at both in cc)
          ]
      | inr not_so ↦ absurd (let f : false ≡ true = rw not_so at plain in cc)
    ]

pub none_is_plain : (in_array : Bool) (index : ℕ) (t : Tree) → misnamed in_array index t ≡ None → is_plain in_array index t ≡ true
none_is_plain in_array index no_pairs none = refl
none_is_plain in_array index (leaf_pair name k leaf ps) none =
    elim (cases_Bool (is_named in_array index name)) [
      | inl is_so ↦ rw is_so (none_is_plain in_array (index + 1) ps (rw is_so at none))
      | inr not_so ↦ absurd (let f : Some (bytes_from (leaf_pair name k leaf ps)) ≡ None = rw not_so at none in cc)
    ]
none_is_plain in_array index (inner_pair name k b inner ps) none =
    elim (cases_Bool (is_named in_array index name)) [
      | inl is_so ↦
          let both = none_either (misnamed (is_array_kind k) 0 inner) (misnamed in_array (index + 1) ps) (bytes_from ps) (rw is_so at none) in
          rw (is_so, none_is_plain (is_array_kind k) 0 inner both.0, none_is_plain in_array (index + 1) ps both.1) refl
      | inr not_so ↦ absurd (let f : Some (bytes_from (inner_pair name k b inner ps)) ≡ None = rw not_so at none in cc)
    ]

-- where a document in the first of the pairs that are left departs from the canonical form
pub told_within : (in_array : Bool) (index : ℕ) (name : List ℕ) (v : TreeValue) (ps whole rest : Tree) (n : ℕ) → is_named in_array index name ≡ true → rest ≡ with_first name v ps
    → misnamed in_array 0 whole ≡ misnamed in_array index rest → misnamed_in v ≡ Some n → misnamed in_array 0 whole ≡ Some (bytes_from ps + n)
told_within in_array index name v ps whole rest n named first same within =
    same ∙ ap (misnamed in_array index) first ∙ named_first in_array index name v ps named
    ∙ ap (λ (o : Option ℕ). option_or (option_map (λ (k : ℕ). bytes_from ps + k) o) (misnamed in_array (index + 1) ps)) within
