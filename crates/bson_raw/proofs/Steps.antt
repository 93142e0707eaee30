-- The steps of the check: one more pair, a fault, a document inside.
use Rattle.std.proofs.Common.{◌≡◌, ◌≢◌, ℕ, suc, ◌+◌, ◌-◌, ◌<◌, ◌≤◌, Bool, ◌&&◌, List, [], ◌∷◌, ◌++◌, length, get_or, take, drop, Option, Some, None, Result, Ok, Err, refl, sym, ap, subst, ◌∙◌, append_assoc, arith, add-zero, add-one, drop-cons}
use Rattle.std.specs.Prelude.{slice_range}
use Rattle.std.proofs.lemmas.List.{length-append, append-nil, take_at, take-take, drop_at, length-take, length-drop}
use Rattle.bson_elem.specs.declared.fault.BsonFault.{BsonFault}
use Rattle.bson_elem.specs.Kinds.{kind_of, byte_of, form_of}
use Rattle.bson_elem.specs.Trees.{Beside, no_code, with_code, Tree, no_pairs, leaf_pair, inner_pair}
use Rattle.bson_elem.specs.Spelling.{IsBytes, little, string, cstring, inner_bytes, elements}
use Rattle.bson_elem.specs.Checks.{Read, fault, cstring_at, Value, a_leaf, opens, value_at, ElementRead, element_at}
use Rattle.bson_elem.specs.Extents.{document_offset, value_extent}
use Rattle.bson_elem.specs.declared.kinds.Kind.{Kind}
use Rattle.bson_elem.specs.declared.fault.BsonCause.{BsonCause}
use Rattle.bson_elem.specs.declared.fault.BsonCause.TheVariants.{End}
use Rattle.bson_elem.specs.declared.fault.BsonCause.TheVariants as causes
use Rattle.bson_elem.specs.Faults.{Before, FaultIn, at_element, in_document}
use Rattle.bson_elem.proofs.Lemmas.{Fits-joined, IsBytes-drop, IsBytes-take, TellsOffset, ValueFits, cstring_takes, element_bytes, element_takes, elements-joined, end_fault, joined, kind_fault, name_fault, ok_is, part_after, offset_beside, rest_in, skipped, value_bytes, value_fault}
use Rattle.bson_raw.specs.Naming.{is_array_kind, is_named, is_plain, named_at}
use Rattle.bson_raw.specs.Checks.{IsLeaf, Opens, IsTree, IsPair}
use Rattle.bson_raw.proofs.Naming.{is_plain-leaf, is_plain-inner}

-- ---- values

leaf_of : (v : Value) → document_offset v ≡ None → IsLeaf v
leaf_of (a_leaf leaf) is = (leaf, refl)
leaf_of (opens q b body) is = absurd cc

opens_of : (v : Value) (q : ℕ) → document_offset v ≡ Some q → Opens q v
opens_of (a_leaf leaf) q is = absurd cc
opens_of (opens p b body) q is =
    let same : p ≡ q = cc in
    (b, body, ap (λ (k : ℕ). opens k b body) same)

-- ---- a pair

-- a pair whose value is a leaf
leaf_is_pair : (depth s at : ℕ) (room : List ℕ) (e : ElementRead) (in_array before canonical : Bool) (index : ℕ) → IsBytes room → element_at depth s at room ≡ Ok e → IsLeaf e.value → canonical ≡ (before && is_named in_array index e.name) → IsPair depth in_array index room (length room - length e.rest) e.rest before canonical
leaf_is_pair depth s at room e in_array before canonical index fits read is name_is =
    let t = element_takes depth s at room e fits read in
    let pair : Tree = leaf_pair e.name e.kind is.0 no_pairs in
    let text_is : element_bytes e ++ [] ≡ elements pair = ap (λ (p : Value). (byte_of e.kind ∷ (cstring e.name ++ value_bytes (form_of e.kind) p)) ++ []) is.1 in
    let fits' : ValueFits depth (form_of e.kind) (a_leaf is.0) = subst (ValueFits depth (form_of e.kind)) is.1 t.1.part in
    let parts : room ≡ elements pair ++ e.rest = t.0.parts ∙ ap (λ (x : List ℕ). x ++ e.rest) (sym (append-nil (element_bytes e)) ∙ text_is) in
    record { pair = pair; name = e.name; is_one = refl; fits = (t.1.name, fits', tt); parts = parts; size = omega (arith, ap length parts, length-append (elements pair) e.rest); named = is_plain-leaf before (is_named in_array index e.name) canonical name_is }

-- a pair whose value holds a tree
inner_is_pair : (depth s at : ℕ) (room : List ℕ) (e : ElementRead) (q : ℕ) (b : Beside) (body : List ℕ) (in_array before canonical within : Bool) (index : ℕ) → IsBytes room → element_at depth s at room ≡ Ok e → e.value ≡ opens q b body → canonical ≡ (before && is_named in_array index e.name) → IsTree (depth + 1) (is_array_kind e.kind) body within → IsPair depth in_array index room (length room - length e.rest) e.rest before (canonical && within)
inner_is_pair depth s at room e q b body in_array before canonical within index fits read is name_is tree =
    let t = element_takes depth s at room e fits read in
    let pair : Tree = inner_pair e.name e.kind b tree.0 no_pairs in
    let fits' : ValueFits depth (form_of e.kind) (opens q b (elements tree.0)) = subst (ValueFits depth (form_of e.kind)) (is ∙ ap (opens q b) tree.2) t.1.part in
    let text_is : element_bytes e ++ [] ≡ elements pair = ap (λ (p : Value). (byte_of e.kind ∷ (cstring e.name ++ value_bytes (form_of e.kind) p)) ++ []) (is ∙ ap (opens q b) tree.2) in
    let parts : room ≡ elements pair ++ e.rest = t.0.parts ∙ ap (λ (x : List ℕ). x ++ e.rest) (sym (append-nil (element_bytes e)) ∙ text_is) in
    record { pair = pair; name = e.name; is_one = refl; fits = (t.1.name, fits'.0, fits'.1, fits'.2, tree.1, tt); parts = parts; size = omega (arith, ap length parts, length-append (elements pair) e.rest); named = is_plain-inner before (is_named in_array index e.name) (is_plain (is_array_kind e.kind) 0 tree.0) canonical within name_is tree.3 }

-- ---- faults

-- no pair before
pub at_front : (depth : ℕ) (room : List ℕ) → Before depth room no_pairs room
at_front depth room = record { parts = refl; fits = tt }

pub fault_here : (depth s at : ℕ) (room : List ℕ) (f : BsonFault) → 0 < length room → element_at depth s at room ≡ Err f → FaultIn depth s at room f
fault_here depth s at [] f lt e = absurd (omega (arith, lt))
fault_here depth s at (b ∷ rest) f lt e = at_element no_pairs b rest (at_front depth (b ∷ rest)) (rw add-zero e)

pub fault_inside : (depth s at : ℕ) (room : List ℕ) (e : ElementRead) (q : ℕ) (b : Beside) (body : List ℕ) (f : BsonFault) → element_at depth s at room ≡ Ok e → e.value ≡ opens q b body → FaultIn (depth + 1) q (q + 4) body f → FaultIn depth s at room f
fault_inside depth s at room e q b body f read is chain = in_document no_pairs room e q b body (at_front depth room) (rw add-zero read) is chain

-- more pairs before
pub Before-joined : (depth : ℕ) (whole room rest : List ℕ) (t u : Tree) → Before depth whole t room → Before depth room u rest → Before depth whole (joined t u) rest
Before-joined depth whole room rest t u p q = record {
  parts = p.parts ∙ ap (λ (x : List ℕ). elements t ++ x) q.parts ∙ sym (append_assoc (elements t) (elements u) rest) ∙ ap (λ (x : List ℕ). x ++ rest) (sym (elements-joined t u));
  fits = Fits-joined depth t u p.fits q.fits;
}

pub joined_offset : (p : ℕ) (t u : Tree) → p + length (elements t) + length (elements u) ≡ p + length (elements (joined t u))
joined_offset p t u = omega (arith, ap length (elements-joined t u), length-append (elements t) (elements u))

pub fault_after : {depth s at : ℕ} {room : List ℕ} {f : BsonFault} (p : ℕ) (whole : List ℕ) (t : Tree) → Before depth whole t room → p + length (elements t) ≡ at → FaultIn depth s at room f → FaultIn depth s p whole f
fault_after {depth} {s} {at} {room} {f} p whole t before offset (at_element u b rest q e) =
    at_element (joined t u) b rest (Before-joined depth whole room (b ∷ rest) t u before q)
    (subst (λ (k : ℕ). element_at depth s k (b ∷ rest) ≡ Err f) (ap (λ (k : ℕ). k + length (elements u)) (sym offset) ∙ joined_offset p t u) e)
fault_after {depth} {s} {at} {room} {f} p whole t before offset (in_document u rest e q b body r read is chain) =
    in_document (joined t u) rest e q b body (Before-joined depth whole room rest t u before r)
    (subst (λ (k : ℕ). element_at depth s k rest ≡ Ok e) (ap (λ (k : ℕ). k + length (elements u)) (sym offset) ∙ joined_offset p t u) read) is chain

-- ---- the offset of an inner document

front_of : (name : List ℕ) (k : ℕ) (b : Beside) (body rest : List ℕ) → (front : List ℕ) × ((k ∷ (cstring name ++ inner_bytes b body)) ++ rest ≡ front ++ (body ++ (0 ∷ rest))) × ((at : ℕ) → at + length front ≡ offset_beside (at + length name + 2) b + 4)
front_of name k no_code body rest =
    let front : List ℕ = k ∷ (cstring name ++ little (length body + 5)) in (
      front,
      ap (λ (t : List ℕ). (k ∷ t) ++ rest) (sym (append_assoc (cstring name) (little (length body + 5)) (body ++ 0 ∷ []))) ∙ append_assoc front (body ++ 0 ∷ []) rest ∙ ap (λ (t : List ℕ). front ++ t) (append_assoc body (0 ∷ []) rest),
      λ at. omega (arith, length-append (cstring name) (little (length body + 5)), length-append name (0 ∷ [])),
    )
front_of name k (with_code words) body rest =
    let lengths : List ℕ = little (length body + length words + 14) in
    let size : List ℕ = little (length body + 5) in
    let front : List ℕ = k ∷ (cstring name ++ (lengths ++ (string words ++ size))) in (
      front,
      ap (λ (t : List ℕ). (k ∷ (cstring name ++ (lengths ++ t))) ++ rest) (sym (append_assoc (string words) size (body ++ 0 ∷ [])))
          ∙ ap (λ (t : List ℕ). (k ∷ (cstring name ++ t)) ++ rest) (sym (append_assoc lengths (string words ++ size) (body ++ 0 ∷ [])))
          ∙ ap (λ (t : List ℕ). (k ∷ t) ++ rest) (sym (append_assoc (cstring name) (lengths ++ (string words ++ size)) (body ++ 0 ∷ [])))
          ∙ append_assoc front (body ++ 0 ∷ []) rest ∙ ap (λ (t : List ℕ). front ++ t) (append_assoc body (0 ∷ []) rest),
      λ at. omega (arith, length-append (cstring name) (lengths ++ (string words ++ size)), length-append name (0 ∷ []), length-append lengths (string words ++ size), length-append (string words) size, length-append (little (length words + 1)) (cstring words), length-append words (0 ∷ [])),
    )

-- The document in the element begins at offset q of the bytes.
pub record StandsAt (bytes : List ℕ) (at end : ℕ) (e : ElementRead) (q : ℕ) (body : List ℕ) : Type 0 where
  pub low : at < q
  pub high : q + 5 ≤ end - length e.rest
  pub body_is : body ≡ slice_range bytes (q + 4) ((end - length e.rest) - 1)

standing : (bytes : List ℕ) (at end : ℕ) (e : ElementRead) (q : ℕ) (body front : List ℕ) → at < end → at < q → take (end - at) (drop at bytes) ≡ front ++ (body ++ (0 ∷ e.rest)) → at + length front ≡ q + 4 → end - at ≡ length front + (length body + length (0 ∷ e.rest)) → StandsAt bytes at end e q body
standing bytes at end e q body front lt low parts offset size =
    let room : List ℕ = take (end - at) (drop at bytes) in
    let n : (q + 4) - at ≡ length front = omega (arith, offset) in
    let len : length body ≡ ((end - length e.rest) - 1) - (q + 4) = omega (arith, offset, size, lt) in
    let high : q + 5 ≤ end - length e.rest = omega (arith, offset, size, lt) in
    let fits : length body ≤ end - (q + 4) = omega (arith, offset, size, lt) in
    let there : body ++ (0 ∷ e.rest) ≡ take (end - (q + 4)) (drop (q + 4) bytes) =
    sym (ap (drop ((q + 4) - at)) parts ∙ drop_at front (body ++ (0 ∷ e.rest)) ((q + 4) - at) (sym n)) ∙ part_after bytes at (q + 4) end (omega (arith, low)) (omega (arith, high)) in
    record {
      low = low;
      high = high;
      body_is = sym (take_at body (0 ∷ e.rest) (length body) refl) ∙ ap (take (length body)) there ∙ take-take (length body) (end - (q + 4)) (drop (q + 4) bytes) fits ∙ ap (λ (k : ℕ). take k (drop (q + 4) bytes)) len;
    }

offset_low : (q : ℕ) (b : Beside) → q ≤ offset_beside q b
offset_low q no_code = omega arith
offset_low q (with_code words) = omega arith

pub stands_at : (bytes : List ℕ) (depth s at end : ℕ) (e : ElementRead) (q : ℕ) (b : Beside) (body : List ℕ) → IsBytes bytes → at < end → end < length bytes → element_at depth s at (slice_range bytes at end) ≡ Ok e → e.value ≡ opens q b body → (depth < 200) × StandsAt bytes at end e q body
stands_at bytes depth s at end e q b body fits lt whole read is =
    let room : List ℕ = take (end - at) (drop at bytes) in
    let t = element_takes depth s at room e (IsBytes-take (end - at) (drop at bytes) (IsBytes-drop at bytes fits)) read in
    let f = front_of e.name (byte_of e.kind) b body e.rest in
    let fits' : ValueFits depth (form_of e.kind) (opens q b body) = subst (ValueFits depth (form_of e.kind)) is t.1.part in
    let told : q ≡ offset_beside (at + length e.name + 2) b = subst (TellsOffset (at + length e.name + 2)) is t.1.offset in
    let parts : room ≡ f.0 ++ (body ++ (0 ∷ e.rest)) = t.0.parts ∙ ap (λ (p : Value). (byte_of e.kind ∷ (cstring e.name ++ value_bytes (form_of e.kind) p)) ++ e.rest) is ∙ f.1 in
    let size : length room ≡ end - at = omega (arith, length-take (end - at) (drop at bytes), length-drop at bytes, whole, lt) in
    let sum : length room ≡ length f.0 + (length body + length (0 ∷ e.rest)) = ap length parts ∙ length-append f.0 (body ++ (0 ∷ e.rest)) ∙ ap (λ (k : ℕ). length f.0 + k) (length-append body (0 ∷ e.rest)) in
    let low : at < q = omega (arith, told, offset_low (at + length e.name + 2) b) in
    (fits'.1, standing bytes at end e q body f.0 lt low parts (f.2 at ∙ ap (λ (k : ℕ). k + 4) (sym told)) (sym size ∙ sum))

-- ---- an element that the code went over

-- What was read at the front of the bytes between two offsets: a type byte of this kind, and a name that is canonical
-- or not, as told. The value is at the front of the bytes from.
pub record IsHead (bytes : List ℕ) (at end : ℕ) (in_array : Bool) (index : ℕ) (named : Bool) (k : Kind) (from : List ℕ) : Type 0 where
  pub name : List ℕ
  pub some : get_or bytes at 0 ≢ 0
  pub kind_is : kind_of (get_or bytes at 0) ≡ Some k
  pub name_read : cstring_at (slice_range bytes (at + 1) end) ≡ Ok (name, from)
  pub name_is : named ≡ is_named in_array index name
  pub value_is : end - length from ≡ at + length name + 2

-- the type byte, and the bytes after it
pub room_is : (bytes : List ℕ) (at end : ℕ) → at < end → end < length bytes → slice_range bytes at end ≡ get_or bytes at 0 ∷ slice_range bytes (at + 1) end
room_is bytes at end lt whole =
    let n : end - at ≡ suc (end - (at + 1)) = omega arith in
    ap (λ (k : ℕ). take k (drop at bytes)) n ∙ ap (take (suc (end - (at + 1)))) (drop-cons bytes at 0 (omega arith)) ∙ ap (λ (k : ℕ). get_or bytes at 0 ∷ take (end - (at + 1)) (drop k bytes)) (sym (add-one at))

abbrev a_name : List ℕ × List ℕ → Read (List ℕ)
a_name x = Ok x

named_ok : (r : Read (List ℕ)) (in_array : Bool) (index : ℕ) (named : Bool) (from : List ℕ) → named_at in_array index r ≡ Ok (named, from) → (name : List ℕ) × (r ≡ Ok (name, from)) × (named ≡ is_named in_array index name)
named_ok (Ok x) in_array index named from is =
    let same = ok_is {E = BsonCause} (is_named in_array index x.0, x.1) (named, from) is in
    (x.0, ap (λ (t : List ℕ). a_name (x.0, t)) (ap (λ (y : Bool × List ℕ). y.1) same), sym (ap (λ (y : Bool × List ℕ). y.0) same))
named_ok (Err c) in_array index named from is = absurd cc

named_err : (r : Read (List ℕ)) (in_array : Bool) (index : ℕ) (c : BsonCause) → named_at in_array index r ≡ Err c → r ≡ Err c
named_err (Ok x) in_array index c is = absurd cc
named_err (Err d) in_array index c is =
    let same : d ≡ c = cc in
    ap Err same

room_bytes : (bytes : List ℕ) (at end : ℕ) → IsBytes bytes → IsBytes (slice_range bytes at end)
room_bytes bytes at end fits = IsBytes-take (end - at) (drop at bytes) (IsBytes-drop at bytes fits)

pub is_head : (bytes : List ℕ) (at end : ℕ) (in_array : Bool) (index : ℕ) (named : Bool) (k : Kind) (from : List ℕ) → IsBytes bytes → at < end → end < length bytes
    → get_or bytes at 0 ≢ 0 → kind_of (get_or bytes at 0) ≡ Some k → named_at in_array index (cstring_at (slice_range bytes (at + 1) end)) ≡ Ok (named, from) → IsHead bytes at end in_array index named k from
is_head bytes at end in_array index named k from fits lt whole some kind is =
    let after : List ℕ = slice_range bytes (at + 1) end in
    let n = named_ok (cstring_at after) in_array index named from is in
    let parts = (cstring_takes after (n.0, from) (room_bytes bytes (at + 1) end fits) n.1).0.parts in
    let size : end - length from ≡ at + length n.0 + 2 = omega (arith, ap length parts, length-append (cstring n.0) from, length-append n.0 (0 ∷ []), length-take (end - (at + 1)) (drop (at + 1) bytes), length-drop (at + 1) bytes, lt, whole) in
    record { name = n.0; some = some; kind_is = kind; name_read = n.1; name_is = n.2; value_is = size }

-- the element at the front of the bytes between two offsets, by its type byte
at_room : (bytes : List ℕ) (depth s at end : ℕ) (r : Result ElementRead BsonFault) → at < end → end < length bytes → element_at depth s at (get_or bytes at 0 ∷ slice_range bytes (at + 1) end) ≡ r → element_at depth s at (slice_range bytes at end) ≡ r
at_room bytes depth s at end r lt whole is = ap (element_at depth s at) (room_is bytes at end lt whole) ∙ is

-- the fault of an element whose type byte is 0
pub end_failed : (bytes : List ℕ) (depth s at end : ℕ) → at < end → end < length bytes → get_or bytes at 0 ≡ 0 → element_at depth s at (slice_range bytes at end) ≡ Err (fault s End)
end_failed bytes depth s at end lt whole none =
    at_room bytes depth s at end (Err (fault s End)) lt whole (ap (λ (b : ℕ). element_at depth s at (b ∷ slice_range bytes (at + 1) end)) none ∙ end_fault depth s at (slice_range bytes (at + 1) end))

-- the fault of an element whose type byte is of no kind
pub kind_failed : (bytes : List ℕ) (depth s at end : ℕ) → at < end → end < length bytes → get_or bytes at 0 ≢ 0 → kind_of (get_or bytes at 0) ≡ None → element_at depth s at (slice_range bytes at end) ≡ Err (fault at causes.Kind)
kind_failed bytes depth s at end lt whole some none =
    at_room bytes depth s at end (Err (fault at causes.Kind)) lt whole (kind_fault depth s at (get_or bytes at 0) (slice_range bytes (at + 1) end) some none)

-- the fault of an element whose name can't be read
pub name_failed : (bytes : List ℕ) (depth s at end : ℕ) (in_array : Bool) (index : ℕ) (k : Kind) (c : BsonCause) → at < end → end < length bytes → get_or bytes at 0 ≢ 0 → kind_of (get_or bytes at 0) ≡ Some k
    → named_at in_array index (cstring_at (slice_range bytes (at + 1) end)) ≡ Err c → element_at depth s at (slice_range bytes at end) ≡ Err (fault at c)
name_failed bytes depth s at end in_array index k c lt whole some kind is =
    at_room bytes depth s at end (Err (fault at c)) lt whole (name_fault depth s at (get_or bytes at 0) (slice_range bytes (at + 1) end) k c some kind (named_err (cstring_at (slice_range bytes (at + 1) end)) in_array index c is))

-- the fault of an element whose value can't be read
pub value_failed : (bytes : List ℕ) (depth s at end : ℕ) (in_array : Bool) (index : ℕ) (named : Bool) (k : Kind) (from : List ℕ) (f : BsonFault) → at < end → end < length bytes → IsHead bytes at end in_array index named k from
    → value_extent (value_at depth at (end - length from) (form_of k) from) ≡ Err f → element_at depth s at (slice_range bytes at end) ≡ Err f
value_failed bytes depth s at end in_array index named k from f lt whole h is =
    at_room bytes depth s at end (Err f) lt whole
    (value_fault depth s at (get_or bytes at 0) (slice_range bytes (at + 1) end) h.name from k f h.some h.kind_is h.name_read (ap (λ (q : ℕ). value_extent (value_at depth at q (form_of k) from)) (sym h.value_is) ∙ is))

-- The element between two offsets of the bytes, the offset of the next one, and what was told of it: its kind, whether
-- its name is canonical, and the offset of a document in its value.
pub record IsPassed (bytes : List ℕ) (depth s at end : ℕ) (in_array : Bool) (index : ℕ) (named : Bool) (k : Kind) (document : Option ℕ) (next : ℕ) : Type 0 where
  pub element : ElementRead
  pub is_read : element_at depth s at (slice_range bytes at end) ≡ Ok element
  pub name_is : named ≡ is_named in_array index element.name
  pub kind_is : element.kind ≡ k
  pub offset_is : document_offset element.value ≡ document
  pub rest_is : element.rest ≡ slice_range bytes next end
  pub low : at < next
  pub high : next ≤ end

pub passed : (bytes : List ℕ) (depth s at end : ℕ) (in_array : Bool) (index : ℕ) (named : Bool) (k : Kind) (from : List ℕ) (document : Option ℕ) (rest : List ℕ) → IsBytes bytes → at < end → end < length bytes → IsHead bytes at end in_array index named k from
    → value_extent (value_at depth at (end - length from) (form_of k) from) ≡ Ok (document, rest) → IsPassed bytes depth s at end in_array index named k document (end - length rest)
passed bytes depth s at end in_array index named k from document rest fits lt whole h is =
    let x = skipped depth s at (get_or bytes at 0) (slice_range bytes (at + 1) end) h.name from k document rest h.some h.kind_is h.name_read (ap (λ (q : ℕ). value_extent (value_at depth at q (form_of k) from)) (sym h.value_is) ∙ is) in
    let read = at_room bytes depth s at end (Ok x.element) lt whole x.is_read in
    let after = rest_in bytes depth s at end x.element fits lt whole read in
    let size : length x.element.rest ≡ length rest = ap length x.rest_is in
    record { element = x.element; is_read = read; name_is = h.name_is ∙ ap (is_named in_array index) (sym x.name_is); kind_is = x.kind_is; offset_is = x.offset; rest_is = after.1 ∙ ap (λ (n : ℕ). slice_range bytes (end - n) end) size; low = omega (arith, after.0, size); high = omega arith }

-- the document that the element holds
abbrev pub Inside : (bytes : List ℕ) (depth at next q : ℕ) (e : ElementRead) → Type 0
Inside bytes depth at next q e = (depth < 200) × (at < q) × (q + 5 ≤ next) × ((b : Beside) × (e.value ≡ opens q b (slice_range bytes (q + 4) (next - 1))))

pub inside_of : (bytes : List ℕ) (depth s at end : ℕ) (in_array : Bool) (index : ℕ) (named : Bool) (k : Kind) (q next : ℕ) (is : IsPassed bytes depth s at end in_array index named k (Some q) next) → IsBytes bytes → at < end → end < length bytes → Inside bytes depth at next q is.element
inside_of bytes depth s at end in_array index named k q next is fits lt whole =
    let e = is.element in
    let o = opens_of e.value q is.offset_is in
    let st = stands_at bytes depth s at end e q o.0 o.1 fits lt whole is.is_read o.2 in
    let n : end - length e.rest ≡ next = omega (arith, ap length is.rest_is, length-take (end - next) (drop next bytes), length-drop next bytes, is.high, whole) in
    (st.0, st.1.low, omega (arith, st.1.high, n), (o.0, o.2 ∙ ap (opens q o.0) (st.1.body_is ∙ ap (λ (m : ℕ). slice_range bytes (q + 4) (m - 1)) n)))

-- what was told of a pair
abbrev pub Passes : (bytes : List ℕ) (depth at end : ℕ) (in_array : Bool) (index : ℕ) (before : Bool) (next : ℕ) (canonical : Bool) → Type 0
Passes bytes depth at end in_array index before next canonical = (at < next) × (next ≤ end) × IsPair depth in_array index (slice_range bytes at end) (next - at) (slice_range bytes next end) before canonical

-- how far a pair reaches
pair_size : (bytes : List ℕ) (depth s at end : ℕ) (in_array : Bool) (index : ℕ) (named : Bool) (k : Kind) (document : Option ℕ) (next : ℕ) (before canonical : Bool) (is : IsPassed bytes depth s at end in_array index named k document next) → at < end → end < length bytes
    → IsPair depth in_array index (slice_range bytes at end) (length (slice_range bytes at end) - length is.element.rest) is.element.rest before canonical → Passes bytes depth at end in_array index before next canonical
pair_size bytes depth s at end in_array index named k document next before canonical is lt whole pair =
    let a : length (slice_range bytes at end) ≡ end - at = omega (arith, length-take (end - at) (drop at bytes), length-drop at bytes, whole, lt) in
    let b : length is.element.rest ≡ end - next = omega (arith, ap length is.rest_is, length-take (end - next) (drop next bytes), length-drop next bytes, whole, is.high) in
    let n : length (slice_range bytes at end) - length is.element.rest ≡ next - at = omega (arith, a, b, is.high, is.low) in
    (is.low, is.high, record { pair = pair.pair; name = pair.name; is_one = pair.is_one; fits = pair.fits; parts = pair.parts ∙ ap (λ (x : List ℕ). elements pair.pair ++ x) is.rest_is; size = pair.size ∙ n; named = pair.named })

-- a leaf is a pair
pub leaf_passed : (bytes : List ℕ) (depth s at end : ℕ) (in_array : Bool) (index : ℕ) (named : Bool) (k : Kind) (next : ℕ) (before canonical : Bool) → IsPassed bytes depth s at end in_array index named k None next → IsBytes bytes → at < end → end < length bytes
    → canonical ≡ (before && named) → Passes bytes depth at end in_array index before next canonical
leaf_passed bytes depth s at end in_array index named k next before canonical is fits lt whole both =
    pair_size bytes depth s at end in_array index named k None next before canonical is lt whole
    (leaf_is_pair depth s at (slice_range bytes at end) is.element in_array before canonical index (room_bytes bytes at end fits) is.is_read (leaf_of is.element.value is.offset_is) (both ∙ ap (λ (b : Bool). before && b) is.name_is))

-- and so is a document whose elements were checked
pub inner_passed : (bytes : List ℕ) (depth s at end : ℕ) (in_array : Bool) (index : ℕ) (named : Bool) (k : Kind) (q next : ℕ) (before canonical is_array within : Bool) → IsPassed bytes depth s at end in_array index named k (Some q) next → IsBytes bytes → at < end → end < length bytes
    → canonical ≡ (before && named) → is_array ≡ is_array_kind k → IsTree (depth + 1) is_array (slice_range bytes (q + 4) (next - 1)) within → Passes bytes depth at end in_array index before next (canonical && within)
inner_passed bytes depth s at end in_array index named k q next before canonical is_array within is fits lt whole both kind_is tree =
    let o = inside_of bytes depth s at end in_array index named k q next is fits lt whole in
    let tree' : IsTree (depth + 1) (is_array_kind is.element.kind) (slice_range bytes (q + 4) (next - 1)) within = subst (λ (b : Bool). IsTree (depth + 1) b (slice_range bytes (q + 4) (next - 1)) within) (kind_is ∙ ap is_array_kind (sym is.kind_is)) tree in
    pair_size bytes depth s at end in_array index named k (Some q) next before (canonical && within) is lt whole
    (inner_is_pair depth s at (slice_range bytes at end) is.element q o.3.0 (slice_range bytes (q + 4) (next - 1)) in_array before canonical within index (room_bytes bytes at end fits) is.is_read o.3.1 (both ∙ ap (λ (b : Bool). before && b) is.name_is) tree')
