-- The step of a walk gives the next pair of every tree that is left.
use Rattle.std.proofs.Common.{◌≡◌, ℕ, ◌+◌, ◌-◌, ◌<◌, ◌≤◌, ◌^◌, ◌⊎◌, List, [], ◌∷◌, ◌++◌, length, Ok, Err, refl, sym, ap, subst, ◌∙◌, append_assoc, arith, inl, inr}
use Rattle.std.specs.Prelude.{slice_range}
use Rattle.std.proofs.lemmas.List.{length-append}
use Rattle.bson_elem.specs.declared.fault.BsonCause.TheVariants.{Text}
use Rattle.bson_elem.specs.declared.fault.BsonFault.{BsonFault}
use Rattle.bson_elem.specs.declared.kinds.Kind.{Kind}
use Rattle.bson_elem.specs.declared.kinds.Kind.TheVariants as kinds
use Rattle.bson_elem.specs.Kinds.{byte_of, form_of}
use Rattle.bson_elem.specs.Trees.{Beside, Leaf, Tree, inner_pair, leaf_pair, no_code, no_pairs, with_code}
use Rattle.bson_elem.specs.Spelling.{Fits, StandsIn, cstring, document, elements, inner_bytes, leaf_bytes, little, string}
use Rattle.bson_elem.specs.Checks.{ElementRead, a_leaf, element_at, fault, opens}
use Rattle.bson_elem.proofs.Lemmas.{element_again, made, offset_beside, ok_is}
use Rattle.bson_raw.specs.Pairs.{document_value, leaf_value}
use Rattle.byte_views.specs.declared.element.Element.{Element}
use Rattle.byte_views.specs.declared.iter.ElementIter.{ElementIter}
use Rattle.byte_views.specs.Elements.{bare, beside_place, element_place}
use Rattle.byte_views.specs.Iters.{IsStep, outside, at_end, reads, fails, not_text, moved, inner_iter}
use Rattle.byte_views.specs.Pairs.{GivesNext, PairsFrom, ShowsBeside, gives, no_more}
use Rattle.byte_views.specs.Views.{IsView, view}
use Rattle.byte_views.proofs.Places.{leaf_keeps, leaf_shows, part_is, slice_size}

pub none_left : (t : Tree) → length (elements t) ≡ 0 → t ≡ no_pairs
none_left no_pairs e = refl
none_left (leaf_pair n k v ps) e = absurd (omega (arith, e))
none_left (inner_pair n k b inner ps) e = absurd (omega (arith, e))

-- the bytes of a name, behind the type byte
name_in : (byte : ℕ) (name value rest : List ℕ) → (byte ∷ (cstring name ++ value)) ++ rest ≡ (byte ∷ []) ++ (name ++ (0 ∷ (value ++ rest)))
name_in byte name value rest = simp append_assoc refl

-- and those of the value, behind the name
value_in : (byte : ℕ) (name value rest : List ℕ) → (byte ∷ (cstring name ++ value)) ++ rest ≡ (byte ∷ cstring name) ++ (value ++ rest)
value_in byte name value rest = simp append_assoc refl

-- what is after an element
after_is : (bytes : List ℕ) (next end : ℕ) (rest : List ℕ) → end < length bytes → next ≤ end → rest ≡ slice_range bytes next end → next + length rest ≡ end
after_is bytes next end rest lt le is = omega (arith, ap length is, slice_size bytes next end (omega (arith, lt)), le)

-- ---- a leaf

leaf_given : (bytes : List ℕ) (s : ElementIter) (next : ℕ) (name : List ℕ) (k : Kind) (v : Leaf) (ps : Tree) → PairsFrom bytes s (leaf_pair name k v ps) → s.at < next → next ≤ s.end → elements ps ≡ slice_range bytes next s.end
    → GivesNext bytes s (element_place s.at next (made name k (a_leaf v) (elements ps))) (moved s next) (leaf_pair name k v ps)
leaf_given bytes s next name k v ps from low high rest =
    let e : Element = bare (view (s.at + 1) (length name)) (byte_of k) in
    let start : ℕ = s.at + length name + 2 in
    let keeps = leaf_keeps start next k e v in
    let le : s.at ≤ s.end = from.0.0 in
    let within : s.end ≤ length bytes = omega (arith, from.0.1) in
    let named : IsView bytes (view (s.at + 1) (length name)) name = part_is bytes s.at s.end (byte_of k ∷ []) name (0 ∷ (leaf_bytes (form_of k) v ++ elements ps)) le within (from.2 ∙ name_in (byte_of k) name (leaf_bytes (form_of k) v) (elements ps)) (s.at + 1) (length name) refl refl in
    let shown = leaf_shows bytes s.at s.end start next k e (byte_of k ∷ cstring name) (elements ps) v le within (from.2 ∙ value_in (byte_of k) name (leaf_bytes (form_of k) v) (elements ps)) (omega (arith, length-append name (0 ∷ []))) (after_is bytes next s.end (elements ps) from.0.1 high rest) in
    gives name (leaf_value k v) ps refl (subst (λ w. IsView bytes w name) (sym keeps.1) named) (keeps.0, shown) ((high, from.0.1), from.1.2, sym rest)

-- ---- a document

-- the parts of a value that holds a document: its code, and the document at an offset
inner_parts : (front rest body : List ℕ) (b : Beside) → (head : List ℕ) × (front ++ (inner_bytes b body ++ rest) ≡ head ++ (document body ++ rest)) × ((at : ℕ) → at + length head ≡ offset_beside (at + length front) b)
inner_parts front rest body no_code = (front, refl, λ at. refl)
inner_parts front rest body (with_code words) =
    let head : List ℕ = front ++ (little (length body + length words + 14) ++ string words) in
    (head, simp append_assoc refl, λ at. omega (arith, length-append front (little (length body + length words + 14) ++ string words), length-append (little (length words + 1)) (cstring words), length-append words (0 ∷ [])))

code_shown : (bytes : List ℕ) (at end from : ℕ) (front rest body : List ℕ) (b : Beside) (e : Element) → at ≤ end → end ≤ length bytes → slice_range bytes at end ≡ front ++ (inner_bytes b body ++ rest) → from ≡ at + length front → e.text ≡ beside_place from b → ShowsBeside bytes e b
code_shown bytes at end from front rest body no_code e le within is from_is text = tt
code_shown bytes at end from front rest body (with_code words) e le within is from_is text =
    let head : List ℕ = front ++ (little (length body + length words + 14) ++ little (length words + 1)) in
    let parts : slice_range bytes at end ≡ head ++ (words ++ (0 ∷ (document body ++ rest))) = is ∙ simp append_assoc refl in
    subst (λ w. IsView bytes w words) (sym text) (part_is bytes at end head words (0 ∷ (document body ++ rest)) le within parts (from + 8) (length words) (omega (arith, from_is, length-append front (little (length body + length words + 14) ++ little (length words + 1)))) refl)

-- the elements of a document, behind its length
body_in : (head body rest : List ℕ) → head ++ (document body ++ rest) ≡ (head ++ little (length body + 5)) ++ (body ++ (0 ∷ rest))
body_in head body rest = simp append_assoc refl

document_size : (body : List ℕ) → length (document body) ≡ length body + 5
document_size body = omega (arith, length-append body (0 ∷ []))

-- the kind of a value that holds a document
holds : (k : Kind) (b : Beside) → StandsIn (form_of k) b → (byte_of k ≡ 3) ⊎ ((byte_of k ≡ 4) ⊎ (byte_of k ≡ 15))
holds kinds.Document b is = inl refl
holds kinds.Array b is = inr (inl refl)
holds kinds.CodeWithScope b is = inr (inr refl)
holds _ no_code is = absurd is
holds _ (with_code words) is = absurd is

-- The document that a value holds, in its view.
record Stands (bytes : List ℕ) (at next q : ℕ) (body : List ℕ) : Type 0 where
  whole : IsView bytes (view q (length body + 5)) (document body)
  inside : IsView bytes (view (q + 4) (length body)) body
  high : q + (length body + 5) ≤ next

stands : (bytes : List ℕ) (at end next q : ℕ) (front rest body : List ℕ) (b : Beside) → at ≤ end → end ≤ length bytes → slice_range bytes at end ≡ front ++ (inner_bytes b body ++ rest) → q ≡ offset_beside (at + length front) b → next + length rest ≡ end → Stands bytes at next q body
stands bytes at end next q front rest body b le within is q_is after =
    let p = inner_parts front rest body b in
    let parts : slice_range bytes at end ≡ p.0 ++ (document body ++ rest) = is ∙ p.1 in
    let q_at : q ≡ at + length p.0 = q_is ∙ sym (p.2 at) in
    let size : end - at ≡ length p.0 + (length (document body) + length rest) = sym (slice_size bytes at end within) ∙ ap length parts ∙ length-append p.0 (document body ++ rest) ∙ ap (λ (k : ℕ). length p.0 + k) (length-append (document body) rest) in
    record {
      whole = part_is bytes at end p.0 (document body) rest le within parts q (length body + 5) q_at (sym (document_size body));
      inside = part_is bytes at end (p.0 ++ little (length body + 5)) body (0 ∷ rest) le within (parts ∙ body_in p.0 body rest) (q + 4) (length body) (omega (arith, q_at, length-append p.0 (little (length body + 5)))) refl;
      high = omega (arith, size, q_at, document_size body, after, le);
    }

-- a walk over it has its pairs
inner_left : (bytes : List ℕ) (at next q depth : ℕ) (inner : Tree) → Stands bytes at next q (elements inner) → next ≤ length bytes → Fits (depth + 1) inner → PairsFrom bytes (inner_iter depth (view q (length (elements inner) + 5))) inner
inner_left bytes at next q depth inner st within fits =
    let n : ℕ = length (elements inner) in
    let last : (q + 4) + n ≡ q + (n + 5) - 1 = omega arith in
    ((omega arith, omega (arith, st.high, within)), fits, ap (λ (k : ℕ). slice_range bytes (q + 4) k) (sym last) ∙ st.inside.part_is)

inner_given : (bytes : List ℕ) (s : ElementIter) (next : ℕ) (name : List ℕ) (k : Kind) (b : Beside) (inner ps : Tree) → length bytes < 2 ^ 64 → PairsFrom bytes s (inner_pair name k b inner ps) → s.at < next → next ≤ s.end → elements ps ≡ slice_range bytes next s.end
    → GivesNext bytes s (element_place s.at next (made name k (opens (offset_beside (s.at + length name + 2) b) b (elements inner)) (elements ps))) (moved s next) (inner_pair name k b inner ps)
inner_given bytes s next name k b inner ps short from low high rest =
    let body : List ℕ = elements inner in
    let start : ℕ = s.at + length name + 2 in
    let q : ℕ = offset_beside start b in
    let front : List ℕ = byte_of k ∷ cstring name in
    let le : s.at ≤ s.end = from.0.0 in
    let within : s.end ≤ length bytes = omega (arith, from.0.1) in
    let parts : slice_range bytes s.at s.end ≡ front ++ (inner_bytes b body ++ elements ps) = from.2 ∙ value_in (byte_of k) name (inner_bytes b body) (elements ps) in
    let start_is : start ≡ s.at + length front = omega (arith, length-append name (0 ∷ [])) in
    let after : next + length (elements ps) ≡ s.end = after_is bytes next s.end (elements ps) from.0.1 high rest in
    let named : IsView bytes (view (s.at + 1) (length name)) name = part_is bytes s.at s.end (byte_of k ∷ []) name (0 ∷ (inner_bytes b body ++ elements ps)) le within (from.2 ∙ name_in (byte_of k) name (inner_bytes b body) (elements ps)) (s.at + 1) (length name) refl refl in
    let st = stands bytes s.at s.end next q front (elements ps) body b le within parts (ap (λ (n : ℕ). offset_beside n b) start_is) after in
    let whole : next ≤ length bytes = omega (arith, high, within) in
    let f = from.1 in
    let shown = code_shown bytes s.at s.end start front (elements ps) body b (element_place s.at next (made name k (opens q b body) (elements ps))) le within parts start_is refl in
    gives name (document_value k b inner) ps refl named
    (refl, shown, st.whole, (holds k b f.1, omega arith, omega (arith, st.high, whole, short), omega (arith, f.2)), inner_left bytes s.at next q s.depth inner st whole f.4)
    ((high, from.0.1), f.5, sym rest)

-- ---- what is read is the next pair

-- the first pair of a tree, as it is read
unfoldable pub first_read : (t : Tree) (depth start at : ℕ) → Fits depth t → 0 < length (elements t) → (e : ElementRead) × (element_at depth start at (elements t) ≡ Ok e)
first_read no_pairs depth start at fits lt = absurd (omega (arith, lt))
first_read (leaf_pair name k v ps) depth start at fits lt =
    let e : ElementRead = made name k (a_leaf v) (elements ps) in
    (e, element_again depth start at e (record { name = fits.0; part = fits.1; offset = tt }))
first_read (inner_pair name k b inner ps) depth start at fits lt =
    let e : ElementRead = made name k (opens (offset_beside (at + length name + 2) b) b (elements inner)) (elements ps) in
    (e, element_again depth start at e (record { name = fits.0; part = (fits.1, fits.2, fits.3); offset = refl }))

pair_given : (bytes : List ℕ) (s : ElementIter) (e : Element) (next : ℕ) (read : ElementRead) (t : Tree) → length bytes < 2 ^ 64 → PairsFrom bytes s t → s.at < s.end → element_at s.depth s.start s.at (slice_range bytes s.at s.end) ≡ Ok read → read.rest ≡ slice_range bytes next s.end
    → (s.at < next) × (next ≤ s.end) → e ≡ element_place s.at next read → GivesNext bytes s e (moved s next) t
unfolding first_read
pair_given bytes s e next read no_pairs short from lt is rest goes e_is = absurd (omega (arith, ap length from.2, slice_size bytes s.at s.end (omega (arith, from.0.1)), lt))
pair_given bytes s e next read (leaf_pair name k v ps) short from lt is rest goes e_is =
    let f = first_read (leaf_pair name k v ps) s.depth s.start s.at from.1 (omega arith) in
    let same : f.0 ≡ read = ok_is {E = BsonFault} f.0 read (sym (ap (element_at s.depth s.start s.at) from.2 ∙ f.1) ∙ is) in
    let place : element_place s.at next f.0 ≡ e = ap (element_place s.at next) same ∙ sym e_is in
    subst (λ (x : Element). GivesNext bytes s x (moved s next) (leaf_pair name k v ps)) place (leaf_given bytes s next name k v ps from goes.0 goes.1 (ap (λ (x : ElementRead). x.rest) same ∙ rest))
pair_given bytes s e next read (inner_pair name k b inner ps) short from lt is rest goes e_is =
    let f = first_read (inner_pair name k b inner ps) s.depth s.start s.at from.1 (omega arith) in
    let same : f.0 ≡ read = ok_is {E = BsonFault} f.0 read (sym (ap (element_at s.depth s.start s.at) from.2 ∙ f.1) ∙ is) in
    let place : element_place s.at next f.0 ≡ e = ap (element_place s.at next) same ∙ sym e_is in
    subst (λ (x : Element). GivesNext bytes s x (moved s next) (inner_pair name k b inner ps)) place (inner_given bytes s next name k b inner ps short from goes.0 goes.1 (ap (λ (x : ElementRead). x.rest) same ∙ rest))

pub step_gives : (bytes : List ℕ) (s : ElementIter) (e : Element) (next : ℕ) → length bytes < 2 ^ 64 → IsStep bytes s e next → (t : Tree) → PairsFrom bytes s t → GivesNext bytes s e (moved s next) t
step_gives bytes s e next short (outside out is stays) t from = absurd (out from.0)
step_gives bytes s e next short (at_end inside last is stays) t from =
    no_more (none_left t (omega (arith, ap length from.2, slice_size bytes s.at s.end (omega (arith, from.0.1)), last))) is (ap (moved s) stays)
step_gives bytes s e next short (reads read inside lt is rest goes e_is) t from = pair_given bytes s e next read t short from lt is rest goes e_is
step_gives bytes s e next short (fails f inside lt is e_is stays) t from =
    let r = first_read t s.depth s.start s.at from.1 (omega (arith, ap length from.2, slice_size bytes s.at s.end (omega (arith, from.0.1)), lt)) in
    absurd (let no : Ok r.0 ≡ Err f = sym (ap (element_at s.depth s.start s.at) from.2 ∙ r.1) ∙ is in cc)
step_gives bytes s e next short (not_text name words rest inside lt is string after goes e_is) t from =
    let r = first_read t s.depth s.start s.at from.1 (omega (arith, ap length from.2, slice_size bytes s.at s.end (omega (arith, from.0.1)), lt)) in
    absurd (let no : Ok r.0 ≡ Err (fault s.at Text) = sym (ap (element_at s.depth s.start s.at) from.2 ∙ r.1) ∙ is in cc)
