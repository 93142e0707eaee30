-- An element of a document, as a caller gets it.
use Rattle.std.specs.Prelude.{ℕ, ◌+◌, ◌-◌, ◌*◌, ◌^◌, List, length, None, Some}
use Rattle.std.specs.Int.{w64, cast_unsigned, from_bool, from_le_bytes}
use Rattle.bson_elem.specs.declared.fault.BsonFault.{BsonFault}
use Rattle.bson_elem.specs.declared.kinds.Kind.{Kind}
use Rattle.bson_elem.specs.declared.kinds.Kind.TheVariants.{Double}
use Rattle.bson_elem.specs.{Beside, Leaf, Value, a_leaf, binary_value, boolean_value, byte_of}
use Rattle.bson_elem.specs.{no_code, number_value, opens, pointer_value, raw_value, regex_value}
use Rattle.bson_elem.specs.{text_value, timestamp_value, with_code}
use Rattle.bson_elem.specs.Checks.{ElementRead}
use Rattle.byte_views.specs.declared.element.Element.{Element}
use Rattle.byte_views.specs.declared.view.View.{View}
use Rattle.byte_views.specs.Fault.{first_fault}
use Rattle.byte_views.specs.Views.{no_view, view}

-- an element of the kind with this type byte, with this name and nothing else
abbrev pub bare : View → ℕ → Element
bare name byte = record {
  fault = first_fault None;
  kind = byte;
  subtype = 0;
  bits = 0;
  name = name;
  text = no_view;
  bytes = no_view;
}

-- there is no element
abbrev pub no_element : Element
no_element = bare no_view 0

-- there is none, by this fault
abbrev pub fault_element : BsonFault → Element
fault_element f = record no_element { fault = first_fault (Some f) }

-- there is none: the iterator's offsets are out of range
abbrev pub wrong_element : Element
wrong_element = record no_element { fault = record { number = 255; offset = 0 } }

-- the 64 bits of a double
abbrev pub raw_bits : Kind → List ℕ → ℕ
raw_bits Double bytes = from_le_bytes w64 bytes
raw_bits _ bytes = 0

-- The element with this leaf. Its value begins at the offset `from`, and the element ends at the
-- offset `next`.
abbrev pub leaf_place : ℕ → ℕ → Kind → Element → Leaf → Element
leaf_place from next k e (raw_value bytes) =
    record e { bits = raw_bits k bytes; bytes = view from (length bytes) }
leaf_place from next k e (boolean_value b) = record e { bits = from_bool b }
leaf_place from next k e (number_value z) = record e { bits = cast_unsigned w64 z }
leaf_place from next k e (timestamp_value increment seconds) =
    record e { bits = seconds * 2 ^ 32 + increment }
leaf_place from next k e (text_value words) = record e { text = view (from + 4) (length words) }
leaf_place from next k e (pointer_value namespace id) =
    record e
    { text = view (from + 4) (length namespace); bytes = view (next - length id) (length id) }
leaf_place from next k e (binary_value subtype bytes) =
    record e { subtype = subtype; bytes = view (next - length bytes) (length bytes) }
leaf_place from next k e (regex_value pattern options) =
    record e
    { text = view from (length pattern); bytes = view (from + length pattern + 1) (length options) }

-- the code beside a scope follows two lengths
abbrev pub beside_place : ℕ → Beside → View
beside_place from no_code = no_view
beside_place from (with_code words) = view (from + 8) (length words)

-- the element with this value; of a document, the offset and the elements
abbrev pub value_place : ℕ → ℕ → Kind → Element → Value → Element
value_place from next k e (a_leaf leaf) = leaf_place from next k e leaf
value_place from next k e (opens q b body) =
    record e { text = beside_place from b; bytes = view q (length body + 5) }

-- the element that was read at an offset, and ends at the offset `next`
abbrev pub element_place : ℕ → ℕ → ElementRead → Element
element_place at next e =
    value_place (at + length e.name + 2) next e.kind
    (bare (view (at + 1) (length e.name)) (byte_of e.kind)) e.value
