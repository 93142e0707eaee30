-- A walk over the elements of a document, as a caller makes it: one element for each call.
use Rattle.std.specs.Prelude.{◌≡◌, ◌<◌, ◌≤◌, ◌⊎◌, ℕ, ◌+◌, ◌-◌, ◌^◌, List, [], ◌∷◌, ◌++◌, length}
use Rattle.std.specs.Prelude.{slice_range, None, Some, Ok, Err}
use Rattle.bson_elem.specs.declared.fault.BsonFault.{BsonFault}
use Rattle.bson_elem.specs.declared.fault.BsonCause.TheVariants.{Length, Text}
use Rattle.bson_elem.specs.declared.kinds.Kind.TheVariants.{String}
use Rattle.bson_elem.specs.{IsName, a_leaf, byte_of, cstring, document_at, fault, string}
use Rattle.bson_elem.specs.{text_value}
use Rattle.bson_elem.specs.Checks.{ElementRead, element_at}
use Rattle.bson_raw.specs.Spelled.{IsLengthOf}
use Rattle.byte_views.specs.declared.element.Element.{Element}
use Rattle.byte_views.specs.declared.fault.FirstFault.{FirstFault}
use Rattle.byte_views.specs.declared.iter.ElementIter.{ElementIter}
use Rattle.byte_views.specs.declared.iter.FirstElement.{FirstElement}
use Rattle.byte_views.specs.declared.view.View.{View}
use Rattle.byte_views.specs.Elements.{element_place, fault_element, no_element, wrong_element}
use Rattle.byte_views.specs.Fault.{first_fault}

-- the walk over the document of this depth that a view has, at its first element
abbrev pub document_iter : ℕ → View → ElementIter
document_iter depth v =
    record { start = v.offset; at = v.offset + 4; end = v.offset + v.length - 1; depth = depth }

-- the walk that stands at another offset
abbrev pub moved : ElementIter → ℕ → ElementIter
moved s at = record s { at = at }

-- a walk whose offsets are out of range of all bytes
abbrev pub wrong_iter : ElementIter
wrong_iter = record { start = 0; at = 1; end = 0; depth = 0 }

-- ---- the beginning

-- what stands before the first element of the document
abbrev pub first_begins : List ℕ → FirstElement
first_begins bytes = record {
  fault = first_fault None;
  iter = record { start = 0; at = 4; end = length bytes - 1; depth = 1 };
}

-- the document has this fault
abbrev pub first_fails : FirstFault → FirstElement
first_fails fault = record { fault = fault; iter = wrong_iter }

-- The bytes begin with their number and end with 00, and the walk begins; or this is the fault of
-- that number or of the last byte. No element is looked at.
pub data IsFirst (bytes : List ℕ) : FirstElement → Type 0 where
  begins : {first : FirstElement} (body : List ℕ) → document_at 0 0 bytes ≡ Ok (body, [])
      → first ≡ first_begins bytes → IsFirst bytes first
  other_length : {first : FirstElement} → (IsLengthOf bytes → ⊥)
      → first ≡ first_fails (first_fault (Some (fault 0 Length))) → IsFirst bytes first
  has_fault : {first : FirstElement} (f : BsonFault) → IsLengthOf bytes
      → document_at 0 0 bytes ≡ Err f → first ≡ first_fails (first_fault (Some f))
      → IsFirst bytes first

-- ---- a step

-- the offsets are in range of the bytes
abbrev pub IsInside : List ℕ → ElementIter → Type 0
IsInside bytes s = (s.at ≤ s.end) × (s.end < length bytes)

-- an element with this name and a string of these words
abbrev pub string_element : List ℕ → List ℕ → List ℕ → ElementRead
string_element name words rest =
    record { name = name; kind = String; value = a_leaf (text_value words); rest = rest }

-- The bytes begin with such an element, and the rest follows. The words needn't be UTF-8.
pub record BeginsWithString (bytes name words rest : List ℕ) : Type 0 where
  pub parts : bytes ≡ byte_of String ∷ (cstring name ++ (string words ++ rest))
  pub is_name : IsName name
  pub short : length words + 1 < 2 ^ 31

-- What is read at the walk's offset, and the offset after it: nothing where the offsets are out of
-- range or behind the last element, and else the element, or its first fault. A string whose one
-- fault is that its text isn't UTF-8 may be read as if it were.
pub data IsStep (bytes : List ℕ) (s : ElementIter) : Element → ℕ → Type 0 where
  outside : {e : Element} {next : ℕ} → (IsInside bytes s → ⊥) → e ≡ wrong_element → next ≡ s.at
      → IsStep bytes s e next
  at_end : {e : Element} {next : ℕ} → IsInside bytes s → s.at ≡ s.end → e ≡ no_element
      → next ≡ s.at → IsStep bytes s e next
  reads : {e : Element} {next : ℕ} (read : ElementRead) → IsInside bytes s → s.at < s.end
      → element_at s.depth s.start s.at (slice_range bytes s.at s.end) ≡ Ok read
      → read.rest ≡ slice_range bytes next s.end → (s.at < next) × (next ≤ s.end)
      → e ≡ element_place s.at next read → IsStep bytes s e next
  fails : {e : Element} {next : ℕ} (f : BsonFault) → IsInside bytes s → s.at < s.end
      → element_at s.depth s.start s.at (slice_range bytes s.at s.end) ≡ Err f
      → e ≡ fault_element f → next ≡ s.at → IsStep bytes s e next
  not_text : {e : Element} {next : ℕ} (name words rest : List ℕ) → IsInside bytes s → s.at < s.end
      → element_at s.depth s.start s.at (slice_range bytes s.at s.end) ≡ Err (fault s.at Text)
      → BeginsWithString (slice_range bytes s.at s.end) name words rest
      → rest ≡ slice_range bytes next s.end → (s.at < next) × (next ≤ s.end)
      → e ≡ element_place s.at next (string_element name words rest) → IsStep bytes s e next

-- ---- a document inside

-- the element is a document, an array or a code with scope, and what holds it is not too deep
abbrev pub CanEnter : ElementIter → Element → Type 0
CanEnter s e =
    ((e.kind ≡ 3) ⊎ ((e.kind ≡ 4) ⊎ (e.kind ≡ 15))) × (5 ≤ e.bytes.length)
    × (e.bytes.offset + e.bytes.length < 2 ^ 64) × (s.depth + 1 < 2 ^ 32)

-- the walk over the document that a view has, one deeper
abbrev pub inner_iter : ℕ → View → ElementIter
inner_iter depth v = document_iter (depth + 1) v
