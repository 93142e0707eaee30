-- The bytes that spell an element, and which elements have a spelling (bsonspec.org, version 1.1:
-- `element`).
use Rattle.std.specs.Prelude.{◌≡◌, ℕ, ◌+◌, ◌^◌, ◌<◌, List, ◌∷◌, ◌++◌, length}
use Rattle.bson_elem.specs.Kinds.{byte_of, Form, form_of}
use Rattle.bson_elem.specs.Trees.{Beside, no_code, with_code}
use Rattle.bson_elem.specs.Spelling.{cstring, leaf_bytes, inner_bytes, IsName, IsOfForm, StandsIn}
use Rattle.bson_elem.specs.Checks.{Value, a_leaf, opens, ElementRead}

-- the bytes of a value of this form
abbrev pub value_bytes : Form → Value → List ℕ
value_bytes form (a_leaf v) = leaf_bytes form v
value_bytes form (opens q b body) = inner_bytes b body

-- the value is of this form, and its element can be in a container of this depth
abbrev pub ValueFits : ℕ → Form → Value → Type 0
ValueFits depth form (a_leaf v) = IsOfForm form v
ValueFits depth form (opens q b body) =
    StandsIn form b × (depth < 200) × (length (inner_bytes b body) < 2 ^ 31)

-- the offset of the document in a value at offset q
abbrev pub offset_beside : ℕ → Beside → ℕ
offset_beside q no_code = q
offset_beside q (with_code words) = q + 8 + (length words + 1)

-- if a value at offset q holds a document, the offset in it is that document's
abbrev pub TellsOffset : ℕ → Value → Type 0
TellsOffset q (a_leaf v) = Unit {0}
TellsOffset q (opens offset b body) = offset ≡ offset_beside q b

-- the bytes of an element: the kind's byte, the name, and the value
abbrev pub element_bytes : ElementRead → List ℕ
element_bytes e = byte_of e.kind ∷ (cstring e.name ++ value_bytes (form_of e.kind) e.value)

-- The element has a spelling, at offset p in a container of this depth.
pub record IsElement (depth p : ℕ) (e : ElementRead) : Type 0 where
  pub name : IsName e.name
  pub part : ValueFits depth (form_of e.kind) e.value
  pub offset : TellsOffset (p + length e.name + 2) e.value
