-- What follows an element, as a part of the whole.
use Rattle.std.proofs.Common.{◌≢◌, ◌≡◌, ℕ, ◌+◌, ◌-◌, ◌<◌, ◌≤◌, Bool, true, false, cond, eqb, List, [], ◌∷◌, ◌++◌, length, take, drop, Option, Some, None, Result, Ok, Err, refl, sym, ap, subst, ◌∙◌, arith}
use Rattle.std.specs.Prelude.{slice_range}
use Rattle.std.proofs.lemmas.Bool.{ne_eqb}
use Rattle.std.proofs.lemmas.List.{append_cancel_right, drop_at, drop-take, drop-drop, length-append, length-take, length-drop}
use Rattle.bson_elem.specs.declared.kinds.Kind.{Kind}
use Rattle.bson_elem.specs.declared.kinds.Kind.TheVariants as kinds
use Rattle.bson_elem.specs.declared.items.Item.{Item}
use Rattle.bson_elem.specs.declared.items.Item.TheVariants as items
use Rattle.bson_elem.specs.Spelling.{IsBytes, document}
use Rattle.bson_elem.specs.Documents.{elements_of, IsFramed}
use Rattle.bson_elem.specs.Items.{item_kind, item_value, element_shown, LendsFramed}
use Rattle.bson_elem.specs.declared.fault.BsonFault.{BsonFault}
use Rattle.bson_elem.specs.declared.fault.BsonCause.TheVariants.{End}
use Rattle.bson_elem.specs.declared.fault.BsonCause.TheVariants as causes
use Rattle.bson_elem.specs.Kinds.{kind_of, form_of}
use Rattle.bson_elem.specs.Checks.{◌>>=◌, Read, fault, told_at, cstring_at, Value, value_at, ElementRead, kinded_at, element_at, document_at}
use Rattle.bson_elem.specs.Extents.{document_offset, value_extent}
use Rattle.bson_elem.specs.declared.fault.BsonCause.{BsonCause}
use Rattle.bson_elem.proofs.FieldLaws.{ok_is, IsBytes-take, IsBytes-drop}
use Rattle.bson_elem.proofs.ContainerLaws.{element_bytes, element_takes, document_takes}

-- what follows an element is the end of the bytes that it was read from
pub after_element : (depth s p : ℕ) (room : List ℕ) (e : ElementRead) → IsBytes room → element_at depth s p room ≡ Ok e → (length e.rest < length room) × (e.rest ≡ drop (length room - length e.rest) room)
after_element depth s p room e fits read =
    let t = (element_takes depth s p room e fits read).0.parts in
    let size : length room ≡ length (element_bytes e) + length e.rest = ap length t ∙ length-append (element_bytes e) e.rest in
    let n : length room - length e.rest ≡ length (element_bytes e) = omega (arith, size) in
    (omega (arith, size), sym (ap (λ (r : List ℕ). drop (length room - length e.rest) r) t ∙ drop_at (element_bytes e) e.rest (length room - length e.rest) (sym n)))

pub part_after : (bytes : List ℕ) (at next end : ℕ) → at ≤ next → next ≤ end → drop (next - at) (take (end - at) (drop at bytes)) ≡ take (end - next) (drop next bytes)
part_after bytes at next end low high =
    let split : end - at ≡ (next - at) + (end - next) = omega arith in
    let offset : at + (next - at) ≡ next = omega arith in
    ap (λ (k : ℕ). drop (next - at) (take k (drop at bytes))) split ∙ drop-take (next - at) (end - next) (drop at bytes)
    ∙ ap (take (end - next)) (drop-drop (next - at) at bytes ∙ ap (λ (k : ℕ). drop k bytes) offset)

pub rest_in : (bytes : List ℕ) (depth s at end : ℕ) (e : ElementRead) → IsBytes bytes → at < end → end < length bytes → element_at depth s at (slice_range bytes at end) ≡ Ok e → (length e.rest < end - at) × (e.rest ≡ slice_range bytes (end - length e.rest) end)
rest_in bytes depth s at end e fits lt whole read =
    let room = take (end - at) (drop at bytes) in
    let fits' : IsBytes room = IsBytes-take (end - at) (drop at bytes) (IsBytes-drop at bytes fits) in
    let a = after_element depth s at room e fits' read in
    let size : length room ≡ end - at = omega (arith, length-take (end - at) (drop at bytes), length-drop at bytes, whole, lt) in
    let shorter : length e.rest < end - at = omega (arith, a.0, size) in
    let offset : length room - length e.rest ≡ (end - length e.rest) - at = omega (arith, size, shorter) in
    (shorter, a.1 ∙ ap (λ (k : ℕ). drop k room) offset ∙ part_after bytes at (end - length e.rest) end (omega (arith, shorter, lt)) (omega arith))

-- The element between two offsets of the bytes has this name and this item, and these bytes after it.
pub record IsSeen (bytes : List ℕ) (depth s at end : ℕ) (name : List ℕ) (item : Item) (rest : List ℕ) : Type 0 where
  pub shorter : length rest < end - at
  pub read : element_at depth s at (slice_range bytes at end) ≡ Ok (record { name = name; kind = item_kind item; value = item_value (end - length rest) item; rest = slice_range bytes (end - length rest) end })

pub seen_in : (bytes : List ℕ) (depth s at end : ℕ) (name : List ℕ) (item : Item) (rest : List ℕ) → IsBytes bytes → at < end → end < length bytes → element_at depth s at (slice_range bytes at end) ≡ Ok (element_shown (at + length (slice_range bytes at end)) name item rest) → IsSeen bytes depth s at end name item rest
seen_in bytes depth s at end name item rest fits lt whole read =
    let size : at + length (slice_range bytes at end) ≡ end = omega (arith, length-take (end - at) (drop at bytes), length-drop at bytes, lt, whole) in
    let read' : element_at depth s at (slice_range bytes at end) ≡ Ok (element_shown end name item rest) = read ∙ ap (λ (k : ℕ). Ok (element_shown k name item rest)) size in
    let after = rest_in bytes depth s at end (element_shown end name item rest) fits lt whole read' in
    record { shorter = after.0; read = read' ∙ ap (λ (r : List ℕ). Ok (record { name = name; kind = item_kind item; value = item_value (end - length rest) item; rest = r })) after.1 }

-- ---- an element in three steps: its kind, its name and its value

abbrev known_kind : ℕ → Option Kind → List ℕ → Result (Kind × List ℕ) BsonFault
known_kind p None bytes = Err (fault p causes.Kind)
known_kind p (Some k) bytes = Ok (k, bytes)

-- the kind of the element at the front, and the bytes from its name on
abbrev kind_at : ℕ → ℕ → List ℕ → Result (Kind × List ℕ) BsonFault
kind_at s p [] = Err (fault s End)
kind_at s p (b ∷ bytes) = cond (eqb b 0) (Err (fault s End)) (known_kind p (kind_of b) bytes)

abbrev with_value : List ℕ → Kind → Value × List ℕ → Result ElementRead BsonFault
with_value name k v = Ok (record { name = name; kind = k; value = v.0; rest = v.1 })

abbrev after_name : ℕ → ℕ → Kind → List ℕ × List ℕ → Result ElementRead BsonFault
after_name depth p k name = value_at depth p (p + length name.0 + 2) (form_of k) name.1 >>= with_value name.0 k

abbrev after_kind : ℕ → ℕ → Kind × List ℕ → Result ElementRead BsonFault
after_kind depth p k = told_at p (cstring_at k.1) >>= after_name depth p k.0

kinded_by_kind : (depth p : ℕ) (kind : Option Kind) (bytes : List ℕ) → kinded_at depth p kind bytes ≡ (known_kind p kind bytes >>= after_kind depth p)
kinded_by_kind depth p None bytes = refl
kinded_by_kind depth p (Some k) bytes = refl

element_by_kind : (depth s p : ℕ) (room : List ℕ) → element_at depth s p room ≡ (kind_at s p room >>= after_kind depth p)
unfolding element_at
element_by_kind depth s p [] = refl
element_by_kind depth s p (b ∷ bytes) = tested (eqb b 0)
  where
    tested : (ends : Bool) → cond ends (Err (fault s End)) (kinded_at depth p (kind_of b) bytes) ≡ (cond ends (Err (fault s End)) (known_kind p (kind_of b) bytes) >>= after_kind depth p)
    tested true = refl
    tested false = kinded_by_kind depth p (kind_of b) bytes

-- an element whose kind and name were read
after_both : (depth s p : ℕ) (room after : List ℕ) (k : Kind) (name : Read (List ℕ)) → kind_at s p room ≡ Ok (k, after) → cstring_at after ≡ name → element_at depth s p room ≡ (told_at p name >>= after_name depth p k)
after_both depth s p room after k name kind is =
    element_by_kind depth s p room ∙ ap (λ (r : Result (Kind × List ℕ) BsonFault). r >>= after_kind depth p) kind ∙ ap (λ (r : Read (List ℕ)). told_at p r >>= after_name depth p k) is

-- What is known of a skipped element: its name and its kind, the offset of the document in its value, and the bytes after
-- it.
pub record IsSkipped (r : Result ElementRead BsonFault) (name : List ℕ) (k : Kind) (document : Option ℕ) (rest : List ℕ) : Type 0 where
  pub element : ElementRead
  pub is_read : r ≡ Ok element
  pub name_is : element.name ≡ name
  pub kind_is : element.kind ≡ k
  pub offset : document_offset element.value ≡ document
  pub rest_is : element.rest ≡ rest

skipped_value : (name : List ℕ) (k : Kind) (document : Option ℕ) (rest : List ℕ) (v : Result (Value × List ℕ) BsonFault) → value_extent v ≡ Ok (document, rest) → IsSkipped (v >>= with_value name k) name k document rest
skipped_value name k document rest (Ok v) is =
    let same = ok_is {E = BsonFault} (document_offset v.0, v.1) (document, rest) is in
    record { element = record { name = name; kind = k; value = v.0; rest = v.1 }; is_read = refl; name_is = refl; kind_is = refl; offset = ap (λ (x : Option ℕ × List ℕ). x.0) same; rest_is = ap (λ (x : Option ℕ × List ℕ). x.1) same }
skipped_value name k document rest (Err f) is = absurd cc

kind_read : (s p b : ℕ) (after : List ℕ) (k : Kind) → b ≢ 0 → kind_of b ≡ Some k → kind_at s p (b ∷ after) ≡ Ok (k, after)
kind_read s p b after k some is = ap (λ (t : Bool). cond t (Err (fault s End)) (known_kind p (kind_of b) after)) (ne_eqb b 0 some) ∙ ap (λ (o : Option Kind). known_kind p o after) is

pub skipped : (depth s p b : ℕ) (after name from : List ℕ) (k : Kind) (document : Option ℕ) (rest : List ℕ) → b ≢ 0 → kind_of b ≡ Some k → cstring_at after ≡ Ok (name, from)
    → value_extent (value_at depth p (p + length name + 2) (form_of k) from) ≡ Ok (document, rest) → IsSkipped (element_at depth s p (b ∷ after)) name k document rest
skipped depth s p b after name from k document rest some kind is value =
    subst (λ (r : Result ElementRead BsonFault). IsSkipped r name k document rest) (sym (after_both depth s p (b ∷ after) after k (Ok (name, from)) (kind_read s p b after k some kind) is))
    (skipped_value name k document rest (value_at depth p (p + length name + 2) (form_of k) from) value)

-- the faults of the kind, of the name and of the value
pub end_fault : (depth s p : ℕ) (after : List ℕ) → element_at depth s p (0 ∷ after) ≡ Err (fault s End)
unfolding element_at
end_fault depth s p after = refl

pub kind_fault : (depth s p b : ℕ) (after : List ℕ) → b ≢ 0 → kind_of b ≡ None → element_at depth s p (b ∷ after) ≡ Err (fault p causes.Kind)
unfolding element_at
kind_fault depth s p b after some is = ap (λ (t : Bool). cond t (Err (fault s End)) (kinded_at depth p (kind_of b) after)) (ne_eqb b 0 some) ∙ ap (λ (o : Option Kind). kinded_at depth p o after) is

pub name_fault : (depth s p b : ℕ) (after : List ℕ) (k : Kind) (c : BsonCause) → b ≢ 0 → kind_of b ≡ Some k → cstring_at after ≡ Err c → element_at depth s p (b ∷ after) ≡ Err (fault p c)
name_fault depth s p b after k c some kind is = after_both depth s p (b ∷ after) after k (Err c) (kind_read s p b after k some kind) is

fault_then : (name : List ℕ) (k : Kind) (f : BsonFault) (v : Result (Value × List ℕ) BsonFault) → value_extent v ≡ Err f → (v >>= with_value name k) ≡ Err f
fault_then name k f (Ok v) is = absurd cc
fault_then name k f (Err g) is =
    let same : g ≡ f = cc in
    ap Err same

pub value_fault : (depth s p b : ℕ) (after name from : List ℕ) (k : Kind) (f : BsonFault) → b ≢ 0 → kind_of b ≡ Some k → cstring_at after ≡ Ok (name, from)
    → value_extent (value_at depth p (p + length name + 2) (form_of k) from) ≡ Err f → element_at depth s p (b ∷ after) ≡ Err f
value_fault depth s p b after name from k f some kind is value =
    after_both depth s p (b ∷ after) after k (Ok (name, from)) (kind_read s p b after k some kind) is ∙ fault_then name k f (value_at depth p (p + length name + 2) (form_of k) from) value

-- what was read as a document is the whole of that document
pub lent_whole : (p q : ℕ) (bytes whole rest : List ℕ) → IsBytes bytes → document_at p q bytes ≡ Ok (elements_of whole, rest) → whole ++ rest ≡ bytes → IsFramed whole
lent_whole p q bytes whole rest fits read split =
    append_cancel_right whole (document (elements_of whole)) rest (split ∙ (document_takes p q bytes (elements_of whole, rest) fits read).0.parts)

-- an item of a leaf's kind lends no document
pub leaf_lends : (item : Item) (k : Kind) → item_kind item ≡ k → (k ≡ kinds.Document → ⊥) → (k ≡ kinds.Array → ⊥) → (k ≡ kinds.CodeWithScope → ⊥) → LendsFramed item
leaf_lends (items.Document d) k e a b c = absurd (a (sym e))
leaf_lends (items.Array d) k e a b c = absurd (b (sym e))
leaf_lends (items.CodeWithScope s d) k e a b c = absurd (c (sym e))
leaf_lends _ k e a b c = tt
