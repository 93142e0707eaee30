-- The table of kinds (bsonspec.org, version 1.1: `element`): the type byte of each, and the form of
-- its values.
use Rattle.std.specs.Prelude.{ℕ, List, [], ◌∷◌, Option, Some, None, ◌==◌, if◌then◌else◌}
use Rattle.bson_elem.specs.declared.kinds.Kind.{Kind}
use Rattle.bson_elem.specs.declared.kinds.Kind.TheVariants.{Double, String, Document, Array, Binary}
use Rattle.bson_elem.specs.declared.kinds.Kind.TheVariants.{Undefined, ObjectId, Boolean, DateTime}
use Rattle.bson_elem.specs.declared.kinds.Kind.TheVariants.{Null, Regex, DbPointer, Code, Symbol}
use Rattle.bson_elem.specs.declared.kinds.Kind.TheVariants.{CodeWithScope, Int32, Timestamp, Int64}
use Rattle.bson_elem.specs.declared.kinds.Kind.TheVariants.{Decimal128, MinKey, MaxKey}

-- the type byte
abbrev pub byte_of : Kind → ℕ
byte_of Double = 0x01
byte_of String = 0x02
byte_of Document = 0x03
byte_of Array = 0x04
byte_of Binary = 0x05
byte_of Undefined = 0x06
byte_of ObjectId = 0x07
byte_of Boolean = 0x08
byte_of DateTime = 0x09
byte_of Null = 0x0a
byte_of Regex = 0x0b
byte_of DbPointer = 0x0c
byte_of Code = 0x0d
byte_of Symbol = 0x0e
byte_of CodeWithScope = 0x0f
byte_of Int32 = 0x10
byte_of Timestamp = 0x11
byte_of Int64 = 0x12
byte_of Decimal128 = 0x13
byte_of MinKey = 0xff
byte_of MaxKey = 0x7f

abbrev pub all_kinds : List Kind
all_kinds =
    Double ∷ String ∷ Document ∷ Array ∷ Binary ∷ Undefined ∷ ObjectId ∷ Boolean ∷ DateTime ∷ Null
    ∷ Regex ∷ DbPointer ∷ Code ∷ Symbol ∷ CodeWithScope ∷ Int32 ∷ Timestamp ∷ Int64 ∷ Decimal128
    ∷ MinKey ∷ MaxKey ∷ []

-- the first of the kinds that has the byte
abbrev pub kind_among : List Kind → ℕ → Option Kind
kind_among [] byte = None
kind_among (k ∷ ks) byte = if byte == byte_of k then Some k else kind_among ks byte

-- the kind with this type byte
abbrev pub kind_of : ℕ → Option Kind
kind_of byte = kind_among all_kinds byte

-- how a value is spelled
pub data Form : Type 0 where
  -- this number of bytes
  raw_form : ℕ → Form
  -- one byte, 00 or 01
  boolean_form : Form
  -- a signed number of 4 bytes, and of 8
  int32_form : Form
  int64_form : Form
  -- two unsigned numbers of 4 bytes: the increment, then the seconds
  timestamp_form : Form
  -- a string
  string_form : Form
  -- a string and the 12 bytes of an ObjectId
  pointer_form : Form
  -- a length, a subtype and data
  binary_form : Form
  -- two cstrings
  regex_form : Form
  -- a document
  document_form : Form
  -- a length, a string and a document
  scope_form : Form

-- the form of a kind's values
abbrev pub form_of : Kind → Form
form_of Double = raw_form 8
form_of String = string_form
form_of Document = document_form
form_of Array = document_form
form_of Binary = binary_form
form_of Undefined = raw_form 0
form_of ObjectId = raw_form 12
form_of Boolean = boolean_form
form_of DateTime = int64_form
form_of Null = raw_form 0
form_of Regex = regex_form
form_of DbPointer = pointer_form
form_of Code = string_form
form_of Symbol = string_form
form_of CodeWithScope = scope_form
form_of Int32 = int32_form
form_of Timestamp = timestamp_form
form_of Int64 = int64_form
form_of Decimal128 = raw_form 16
form_of MinKey = raw_form 0
form_of MaxKey = raw_form 0
