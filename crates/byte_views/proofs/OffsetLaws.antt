-- The offsets of a walk are those of the text with offsets.
use Rattle.std.proofs.Common.{◌≡◌, ℕ, ◌+◌, ◌-◌, ◌<◌, ◌≤◌, List, [], ◌∷◌, ◌++◌, length, Ok, Err, refl, sym, ap, ◌∙◌, arith, length-append}
use Rattle.std.specs.Prelude.{slice_range}
use Rattle.bson_elem.specs.declared.fault.BsonFault.{BsonFault}
use Rattle.bson_elem.specs.declared.fault.BsonCause.TheVariants.{Text}
use Rattle.bson_elem.specs.Kinds.{byte_of, form_of}
use Rattle.bson_elem.specs.Trees.{Beside, no_code, with_code, Tree, no_pairs, leaf_pair, inner_pair}
use Rattle.bson_elem.specs.Spelling.{cstring, document, elements, inner_bytes, leaf_bytes, little, string}
use Rattle.bson_elem.specs.Checks.{ElementRead, element_at, fault}
use Rattle.bson_elem.proofs.Lemmas.{length-document, offset_beside, ok_is}
use Rattle.bson_text.specs.Dump.{document_size, element_line, element_lines_at, inner_text, leaf_text, offset_text, pairs_start}
use Rattle.byte_views.specs.declared.element.Element.{Element}
use Rattle.byte_views.specs.declared.iter.ElementIter.{ElementIter}
use Rattle.byte_views.specs.Elements.{element_place}
use Rattle.byte_views.specs.Iters.{IsStep, outside, at_end, reads, fails, not_text, inner_iter}
use Rattle.byte_views.specs.Offsets.{HasOffsets, no_line, of_leaf, of_document}
use Rattle.byte_views.specs.Pairs.{PairsFrom}
use Rattle.byte_views.proofs.Nexts.{first_read, none_left}
use Rattle.byte_views.proofs.Places.{slice_size}

-- where the bytes of a document begin and end in an element
inner_place : (at : ℕ) (name : List ℕ) (b : Beside) (body : List ℕ)
    → offset_beside (at + length name + 2) b + 4 ≡ at + (1 + (length name + 1 + length (inner_bytes b body))) - (length body + 1)
inner_place at name no_code body = omega (arith, length-document body)
inner_place at name (with_code words) body =
    omega (arith, length-document body, length-append (little (length body + length words + 14)) (string words ++ document body), length-append (string words) (document body), length-append (little (length words + 1)) (cstring words), length-append words (0 ∷ []))

-- the offset after the first pair
next_is : (bytes : List ℕ) (s : ElementIter) (next : ℕ) (first rest : List ℕ) → s.end < length bytes → s.at ≤ s.end → slice_range bytes s.at s.end ≡ first ++ rest → rest ≡ slice_range bytes next s.end → next ≤ s.end
    → s.at + length (first ++ []) ≡ next
next_is bytes s next first rest within le is after goes =
    omega (arith, ap length is, slice_size bytes s.at s.end (omega (arith, within)), ap length after, slice_size bytes next s.end (omega (arith, within)), length-append first rest, length-append first [], le, goes)

read_offsets : (bytes : List ℕ) (s : ElementIter) (e : Element) (next deep : ℕ) (read : ElementRead) (t : Tree) → PairsFrom bytes s t → s.at < s.end → element_at s.depth s.start s.at (slice_range bytes s.at s.end) ≡ Ok read
    → read.rest ≡ slice_range bytes next s.end → next ≤ s.end → e ≡ element_place s.at next read → HasOffsets s e next deep t
unfolding first_read
read_offsets bytes s e next deep read no_pairs from lt is rest goes e_is = no_line refl
read_offsets bytes s e next deep read (leaf_pair name k leaf ps) from lt is rest goes e_is =
    let f = first_read (leaf_pair name k leaf ps) s.depth s.start s.at from.1 (omega arith) in
    let same : f.0 ≡ read = ok_is {E = BsonFault} f.0 read (sym (ap (element_at s.depth s.start s.at) from.2 ∙ f.1) ∙ is) in
    let after : elements ps ≡ slice_range bytes next s.end = ap (λ (x : ElementRead). x.rest) same ∙ rest in
    let there = next_is bytes s next (byte_of k ∷ (cstring name ++ leaf_bytes (form_of k) leaf)) (elements ps) from.0.1 from.0.0 from.2 after goes in
    of_leaf name k leaf ps refl (ap (λ (n : ℕ). offset_text s.at ++ (element_line deep name (leaf_text k leaf) ++ element_lines_at n deep ps)) there)
read_offsets bytes s e next deep read (inner_pair name k b inner ps) from lt is rest goes e_is =
    let f = first_read (inner_pair name k b inner ps) s.depth s.start s.at from.1 (omega arith) in
    let same : f.0 ≡ read = ok_is {E = BsonFault} f.0 read (sym (ap (element_at s.depth s.start s.at) from.2 ∙ f.1) ∙ is) in
    let after : elements ps ≡ slice_range bytes next s.end = ap (λ (x : ElementRead). x.rest) same ∙ rest in
    let first : List ℕ = byte_of k ∷ (cstring name ++ inner_bytes b (elements inner)) in
    let there = next_is bytes s next first (elements ps) from.0.1 from.0.0 from.2 after goes in
    let place : element_place s.at next f.0 ≡ e = ap (element_place s.at next) same ∙ sym e_is in
    let begins : (inner_iter s.depth e.bytes).at ≡ offset_beside (s.at + length name + 2) b + 4 = ap (λ (x : Element). x.bytes.offset + 4) (sym place) in
    let size : length (first ++ []) ≡ 1 + (length name + 1 + length (inner_bytes b (elements inner))) =
    omega (arith, length-append first [], length-append (cstring name) (inner_bytes b (elements inner)), length-append name (0 ∷ [])) in
    let inside : pairs_start (s.at + length (first ++ [])) inner ≡ (inner_iter s.depth e.bytes).at =
    ap (λ (n : ℕ). s.at + n - (length (elements inner) + 1)) size ∙ sym (begins ∙ inner_place s.at name b (elements inner)) in
    of_document name k b inner ps refl
    (ap (λ (n : ℕ). offset_text s.at ++ (element_line deep name (inner_text k b (document_size inner)) ++ (element_lines_at n (deep + 1) inner ++ element_lines_at (s.at + length (first ++ [])) deep ps))) inside
    ∙ ap (λ (n : ℕ). offset_text s.at ++ (element_line deep name (inner_text k b (document_size inner)) ++ (element_lines_at (inner_iter s.depth e.bytes).at (deep + 1) inner ++ element_lines_at n deep ps))) there)

-- the offsets of a step are those of the text
pub step_offsets : (bytes : List ℕ) (s : ElementIter) (e : Element) (next deep : ℕ) (t : Tree) → PairsFrom bytes s t → IsStep bytes s e next → HasOffsets s e next deep t
step_offsets bytes s e next deep t from (outside out is stays) = absurd (out from.0)
step_offsets bytes s e next deep t from (at_end inside last is stays) =
    no_line (none_left t (omega (arith, ap length from.2, slice_size bytes s.at s.end (omega (arith, from.0.1)), last)))
step_offsets bytes s e next deep t from (reads read inside lt is rest goes e_is) = read_offsets bytes s e next deep read t from lt is rest goes.1 e_is
step_offsets bytes s e next deep t from (fails f inside lt is e_is stays) =
    let r = first_read t s.depth s.start s.at from.1 (omega (arith, ap length from.2, slice_size bytes s.at s.end (omega (arith, from.0.1)), lt)) in
    absurd (let no : Ok r.0 ≡ Err f = sym (ap (element_at s.depth s.start s.at) from.2 ∙ r.1) ∙ is in cc)
step_offsets bytes s e next deep t from (not_text name words rest inside lt is string after goes e_is) =
    let r = first_read t s.depth s.start s.at from.1 (omega (arith, ap length from.2, slice_size bytes s.at s.end (omega (arith, from.0.1)), lt)) in
    absurd (let no : Ok r.0 ≡ Err (fault s.at Text) = sym (ap (element_at s.depth s.start s.at) from.2 ∙ r.1) ∙ is in cc)
