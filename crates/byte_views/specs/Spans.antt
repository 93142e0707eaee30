-- The innermost element that has a byte, and where what is at fault ends.
use Rattle.std.specs.Prelude.{◌≡◌, ◌≢◌, ◌≤◌, ◌<◌, ℕ, ◌+◌, ◌-◌, ◌^◌, List, [], ◌∷◌, length, take}
use Rattle.std.specs.Prelude.{drop, min, nat_lt, nat_le, ◌||◌, if◌then◌else◌, position, slice_range}
use Rattle.std.specs.Prelude.{Option, Some, None, Ok}
use Rattle.std.specs.Int.{w32, from_le_bytes}
use Rattle.bson_elem.specs.declared.kinds.Kind.{Kind}
use Rattle.bson_elem.specs.{Form, binary_form, document_at, form_of, int32_form, int64_form}
use Rattle.bson_elem.specs.{is_zero, kind_of, pointer_form, raw_form, regex_form, string_form}
use Rattle.bson_elem.specs.{timestamp_form}
use Rattle.bson_elem.specs.Kinds.{boolean_form, document_form, scope_form}
use Rattle.byte_views.specs.declared.element.Element.{Element}
use Rattle.byte_views.specs.declared.iter.ElementIter.{ElementIter}
use Rattle.byte_views.specs.declared.view.View.{View}
use Rattle.byte_views.specs.Iters.{CanEnter, IsInside, IsStep, inner_iter, moved}
use Rattle.byte_views.specs.Iters.{wrong_iter}
use Rattle.byte_views.specs.Views.{no_view, view}

-- ---- how many bytes something has, as far as its front tells

-- The length at the front, and `more` that it doesn't count; or its four bytes, if it is below the
-- least, too large, or not there.
abbrev pub length_told : ℕ → ℕ → List ℕ → ℕ
length_told least more bytes =
    if nat_lt (length bytes) 4 then 4
    else let n = from_le_bytes w32 (take 4 bytes) in
    if (nat_lt n least || nat_le (2 ^ 31) n) then 4 else n + more

-- up to and with this offset, or all
abbrev pub told_until : ℕ → Option ℕ → ℕ
told_until all (Some n) = n + 1
told_until all None = all

-- a cstring: up to and with the first 00
abbrev pub cstring_told : List ℕ → ℕ
cstring_told bytes = told_until (length bytes) (position is_zero bytes)

-- two cstrings
abbrev pub cstrings_told : List ℕ → ℕ
cstrings_told bytes = cstring_told bytes + cstring_told (drop (cstring_told bytes) bytes)

-- a value of this form
abbrev pub value_told : Form → List ℕ → ℕ
value_told (raw_form n) bytes = n
value_told boolean_form bytes = 1
value_told int32_form bytes = 4
value_told int64_form bytes = 8
value_told timestamp_form bytes = 8
value_told string_form bytes = length_told 1 4 bytes
value_told pointer_form bytes = length_told 1 16 bytes
value_told binary_form bytes = length_told 0 5 bytes
value_told regex_form bytes = cstrings_told bytes
value_told document_form bytes = length_told 5 0 bytes
value_told scope_form bytes = length_told 14 0 bytes

-- a name and a value of this kind; nothing, if no kind has the type byte
abbrev pub named_told : Option Kind → List ℕ → ℕ
named_told None bytes = 0
named_told (Some k) bytes =
    cstring_told bytes + value_told (form_of k) (drop (cstring_told bytes) bytes)

-- an element
abbrev pub element_told : List ℕ → ℕ
element_told [] = 0
element_told (b ∷ bytes) = 1 + named_told (kind_of b) bytes

-- a document
abbrev pub front_told : List ℕ → ℕ
front_told bytes = min (length_told 5 0 bytes) (length bytes)

-- ---- elements

-- the element at the walk, which can't be read: at most up to the end of what holds it
abbrev pub fault_span : List ℕ → ElementIter → View
fault_span bytes s =
    view s.at (min (element_told (slice_range bytes s.at s.end)) (s.end - s.at))

-- the byte at this offset is one of the elements that the inner walk goes over, which stand behind
-- the outer one's place
abbrev pub Holds : ℕ → ElementIter → ElementIter → Type 0
Holds offset outer inner =
    (outer.at < inner.at) × (inner.at ≤ offset) × (offset < inner.end)

-- the walk over the document that the element holds; if it holds none, one that is out of range
abbrev pub IsEntered : ElementIter → Element → ElementIter → Type 0
IsEntered s e inner =
    (CanEnter s e → inner ≡ inner_iter s.depth e.bytes)
    × ((CanEnter s e → ⊥) → inner ≡ wrong_iter)

-- The view of the innermost element that has the byte at this offset, or of the first on the way
-- there that can't be read. The walk passes the elements that end before it, and enters the one
-- that has it, if it holds a document in which an element has it. It stops there, or at an element
-- that can't be read.
pub data IsElementSpan (bytes : List ℕ) (offset : ℕ) : ElementIter → View → Type 0 where
  passes : {s : ElementIter} {v : View} (e : Element) (next : ℕ) → IsStep bytes s e next
      → e.kind ≢ 0 → next ≤ offset → IsElementSpan bytes offset (moved s next) v
      → IsElementSpan bytes offset s v
  enters : {s : ElementIter} {v : View} (e : Element) (next : ℕ) (inner : ElementIter)
      → IsStep bytes s e next → e.kind ≢ 0 → offset < next → IsEntered s e inner
      → Holds offset s inner → IsElementSpan bytes offset inner v
      → IsElementSpan bytes offset s v
  stops : {s : ElementIter} {v : View} (e : Element) (next : ℕ) (inner : ElementIter)
      → IsStep bytes s e next → e.kind ≢ 0 → offset < next → IsEntered s e inner
      → (Holds offset s inner → ⊥) → v ≡ view s.at (next - s.at)
      → IsElementSpan bytes offset s v
  at_fault : {s : ElementIter} {v : View} (e : Element) (next : ℕ) → IsInside bytes s
      → IsStep bytes s e next → e.kind ≡ 0 → v ≡ fault_span bytes s
      → IsElementSpan bytes offset s v
  outside : {s : ElementIter} {v : View} → (IsInside bytes s → ⊥) → v ≡ no_view
      → IsElementSpan bytes offset s v

-- the walk over a document at the front, whose elements have n bytes
abbrev pub front_iter : ℕ → ElementIter
front_iter n = record { start = 0; at = 4; end = n + 4; depth = 1 }

-- The view of the innermost element of the document in front of the bytes that has the byte at this
-- offset, or of the first on the way there that can't be read; or of the document, if there is
-- neither, or if its length or its last byte is at fault.
pub data IsDocumentSpan (bytes : List ℕ) (offset : ℕ) (v : View) : Type 0 where
  in_elements : (body rest : List ℕ) → document_at 0 0 bytes ≡ Ok (body, rest) → 4 ≤ offset
      → offset < length body + 4 → IsElementSpan bytes offset (front_iter (length body)) v
      → IsDocumentSpan bytes offset v
  of_document : ((body rest : List ℕ) → document_at 0 0 bytes ≡ Ok (body, rest) → 4 ≤ offset
      → offset < length body + 4 → ⊥) → v ≡ view 0 (front_told bytes)
      → IsDocumentSpan bytes offset v

-- ---- messages

-- a section: its kind byte, and a body or a size and what it counts
abbrev pub part_told : List ℕ → ℕ
part_told [] = 0
part_told (kind ∷ bytes) = if nat_lt 1 kind then 1 else 1 + length_told 5 0 bytes

-- what stands at an offset: below 20 four bytes, whether a number of the header or the flags begin
-- there or not; and else a section
abbrev pub at_told : List ℕ → ℕ → ℕ
at_told bytes at = if nat_lt at 20 then 4 else part_told (drop at bytes)

abbrev pub message_span : List ℕ → ℕ → View
message_span bytes at =
    if nat_lt (length bytes) at then no_view
    else view at (min (at_told bytes at) (length bytes - at))
