-- The views of an element's parts have those parts.
use Rattle.std.proofs.Common.{◌≡◌, ℕ, ◌+◌, ◌-◌, ◌≤◌, eqb, List, [], ◌∷◌, ◌++◌, length, take, drop, refl, sym, ap, ◌∙◌, append_assoc, arith, inl, inr}
use Rattle.std.specs.Prelude.{slice_range}
use Rattle.std.proofs.lemmas.Bool.{cases_Bool}
use Rattle.std.proofs.lemmas.List.{length-append, length-take, length-drop, take-append-drop, take_at, drop_at, drop-drop}
use Rattle.bson_elem.specs.declared.kinds.Kind.{Kind}
use Rattle.bson_elem.specs.Kinds.{form_of}
use Rattle.bson_elem.specs.Trees.{Leaf, raw_value, boolean_value, number_value, timestamp_value, text_value, pointer_value, binary_value, regex_value}
use Rattle.bson_elem.specs.Spelling.{binary, cstring, leaf_bytes, little, string}
use Rattle.byte_views.specs.declared.element.Element.{Element}
use Rattle.byte_views.specs.Elements.{leaf_place}
use Rattle.byte_views.specs.Pairs.{ShowsLeaf}
use Rattle.byte_views.specs.Views.{IsView, view}

-- how many bytes are between two offsets, before the last of them
pub slice_size : (bytes : List ℕ) (at end : ℕ) → end ≤ length bytes → length (slice_range bytes at end) ≡ end - at
slice_size bytes at end le = omega (arith, length-take (end - at) (drop at bytes), length-drop at bytes, le)

-- a part of the bytes between two offsets
pub part_is : (bytes : List ℕ) (at end : ℕ) (front part rest : List ℕ) → at ≤ end → end ≤ length bytes → slice_range bytes at end ≡ front ++ (part ++ rest)
    → (o n : ℕ) → o ≡ at + length front → n ≡ length part → IsView bytes (view o n) part
part_is bytes at end front part rest le within is o n o_is n_is =
    let tail : List ℕ = drop (end - at) (drop at bytes) in
    let size : end - at ≡ length front + (length part + length rest) = sym (slice_size bytes at end within) ∙ ap length is ∙ length-append front (part ++ rest) ∙ ap (λ (k : ℕ). length front + k) (length-append part rest) in
    let whole : drop at bytes ≡ front ++ (part ++ (rest ++ tail)) = sym (take-append-drop (end - at) (drop at bytes)) ∙ ap (λ (x : List ℕ). x ++ tail) is ∙ append_assoc front (part ++ rest) tail ∙ ap (λ (x : List ℕ). front ++ x) (append_assoc part rest tail) in
    let there : drop o bytes ≡ part ++ (rest ++ tail) = ap (λ (k : ℕ). drop k bytes) o_is ∙ sym (drop-drop (length front) at bytes) ∙ ap (drop (length front)) whole ∙ drop_at front (part ++ (rest ++ tail)) (length front) refl in
    let count : (o + n) - o ≡ length part = omega (arith, n_is) in
    record {
      within = omega (arith, o_is, n_is, size, le, within);
      part_is = ap (λ (k : ℕ). take k (drop o bytes)) count ∙ ap (take (length part)) there ∙ take_at part (rest ++ tail) (length part) refl;
    }

-- the last part before a rest that begins at the offset `next`
last_part : (bytes : List ℕ) (at end : ℕ) (front part rest : List ℕ) → at ≤ end → end ≤ length bytes → slice_range bytes at end ≡ front ++ (part ++ rest)
    → (next : ℕ) → next + length rest ≡ end → IsView bytes (view (next - length part) (length part)) part
last_part bytes at end front part rest le within is next after =
    let size : end - at ≡ length front + (length part + length rest) = sym (slice_size bytes at end within) ∙ ap length is ∙ length-append front (part ++ rest) ∙ ap (λ (k : ℕ). length front + k) (length-append part rest) in
    part_is bytes at end front part rest le within is (next - length part) (length part) (omega (arith, size, after, le)) refl

string_in : (front words rest : List ℕ) → front ++ (string words ++ rest) ≡ (front ++ little (length words + 1)) ++ (words ++ (0 ∷ rest))
string_in front words rest = simp append_assoc refl

cstring_in : (front words rest : List ℕ) → front ++ (cstring words ++ rest) ≡ front ++ (words ++ (0 ∷ rest))
cstring_in front words rest = simp append_assoc refl

-- a binary ends with its data
binary_in : (front bytes rest : List ℕ) (subtype : ℕ) → (head : List ℕ) × (front ++ (binary subtype bytes ++ rest) ≡ head ++ (bytes ++ rest))
binary_in front bytes rest subtype =
    elim (cases_Bool (eqb subtype 2)) [
      | inl two ↦ (front ++ (little (length bytes + 4) ++ (2 ∷ little (length bytes))), rw two (simp append_assoc refl))
      | inr other ↦ (front ++ (little (length bytes) ++ (subtype ∷ [])), rw other (simp append_assoc refl))
    ]

-- a leaf's parts
pub leaf_shows : (bytes : List ℕ) (at end from next : ℕ) (k : Kind) (e : Element) (front rest : List ℕ) (leaf : Leaf) → at ≤ end → end ≤ length bytes
    → slice_range bytes at end ≡ front ++ (leaf_bytes (form_of k) leaf ++ rest) → from ≡ at + length front → next + length rest ≡ end → ShowsLeaf bytes (leaf_place from next k e leaf) k leaf
leaf_shows bytes at end from next k e front rest (raw_value part) le within is from_is after = (part_is bytes at end front part rest le within is from (length part) from_is refl, refl)
leaf_shows bytes at end from next k e front rest (boolean_value b) le within is from_is after = refl
leaf_shows bytes at end from next k e front rest (number_value z) le within is from_is after = refl
leaf_shows bytes at end from next k e front rest (timestamp_value increment seconds) le within is from_is after = refl
leaf_shows bytes at end from next k e front rest (text_value words) le within is from_is after =
    part_is bytes at end (front ++ little (length words + 1)) words (0 ∷ rest) le within (is ∙ string_in front words rest) (from + 4) (length words) (omega (arith, from_is, length-append front (little (length words + 1)))) refl
leaf_shows bytes at end from next k e front rest (pointer_value namespace id) le within is from_is after =
    let parts : slice_range bytes at end ≡ front ++ (string namespace ++ (id ++ rest)) = is ∙ ap (λ (x : List ℕ). front ++ x) (append_assoc (string namespace) id rest) in (
      part_is bytes at end (front ++ little (length namespace + 1)) namespace (0 ∷ (id ++ rest)) le within (parts ∙ string_in front namespace (id ++ rest)) (from + 4) (length namespace) (omega (arith, from_is, length-append front (little (length namespace + 1)))) refl,
      last_part bytes at end (front ++ string namespace) id rest le within (parts ∙ sym (append_assoc front (string namespace) (id ++ rest))) next after,
    )
leaf_shows bytes at end from next k e front rest (binary_value subtype part) le within is from_is after =
    let b = binary_in front part rest subtype in
    (refl, last_part bytes at end b.0 part rest le within (is ∙ b.1) next after)
leaf_shows bytes at end from next k e front rest (regex_value pattern options) le within is from_is after =
    let parts : slice_range bytes at end ≡ front ++ (cstring pattern ++ (cstring options ++ rest)) = is ∙ ap (λ (x : List ℕ). front ++ x) (append_assoc (cstring pattern) (cstring options) rest) in (
      part_is bytes at end front pattern (0 ∷ (cstring options ++ rest)) le within (parts ∙ cstring_in front pattern (cstring options ++ rest)) from (length pattern) from_is refl,
      part_is bytes at end (front ++ cstring pattern) options (0 ∷ rest) le within (parts ∙ sym (append_assoc front (cstring pattern) (cstring options ++ rest)) ∙ cstring_in (front ++ cstring pattern) options rest) (from + length pattern + 1) (length options)
          (omega (arith, from_is, length-append front (cstring pattern), length-append pattern (0 ∷ []))) refl,
    )

-- what a leaf leaves as it was
pub leaf_keeps : (from next : ℕ) (k : Kind) (e : Element) (leaf : Leaf) → ((leaf_place from next k e leaf).kind ≡ e.kind) × ((leaf_place from next k e leaf).name ≡ e.name)
leaf_keeps from next k e (raw_value part) = (refl, refl)
leaf_keeps from next k e (boolean_value b) = (refl, refl)
leaf_keeps from next k e (number_value z) = (refl, refl)
leaf_keeps from next k e (timestamp_value increment seconds) = (refl, refl)
leaf_keeps from next k e (text_value words) = (refl, refl)
leaf_keeps from next k e (pointer_value namespace id) = (refl, refl)
leaf_keeps from next k e (binary_value subtype part) = (refl, refl)
leaf_keeps from next k e (regex_value pattern options) = (refl, refl)
