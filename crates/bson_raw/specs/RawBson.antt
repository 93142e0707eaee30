-- What a borrowed value shows of the tree.
use Rattle.std.specs.Prelude.{◌≡◌, ℕ, ℤ, [], List, length, Bool, Option, Some, None}
use Rattle.std.specs.Borrow.{Bor}
use Rattle.std.specs.Float.{Float}
use Rattle.bson_elem.specs.declared.kinds.Kind.{Kind}
use Rattle.bson_elem.specs.declared.kinds.Kind.TheVariants as kinds
use Rattle.bson_elem.specs.{Spells, Tree, binary_value, boolean_value, no_code, number_value}
use Rattle.bson_elem.specs.{pointer_value, raw_value, regex_value, text_value, timestamp_value}
use Rattle.bson_elem.specs.{with_code}
use Rattle.bson_raw.specs.declared.document.RawDocument.{RawDocument}
use Rattle.bson_raw.specs.declared.array.RawArray.{RawArray}
use Rattle.bson_raw.specs.declared.value.RawBson.{RawBson}
use Rattle.bson_raw.specs.declared.value.RawBson.TheVariants as values
use Rattle.bson_raw.specs.RawDocument.{document_bytes}
use Rattle.bson_raw.specs.RawArray.{array_bytes}
use Rattle.bson_raw.specs.Pairs.{TreeValue, leaf_value, document_value}
use Rattle.bson_raw.specs.Doubles.{double_of}

-- The value lends this value of the tree. The bytes of a document, an array or a scope spell the
-- tree that it holds.
abbrev pub Shows : RawBson → TreeValue → Type 0
Shows (values.Double bytes) v = v ≡ leaf_value kinds.Double (raw_value bytes)
Shows (values.String text) v = v ≡ leaf_value kinds.String (text_value text.now)
Shows (values.Document d) v =
    (inner : Tree) × (v ≡ document_value kinds.Document no_code inner)
    × Spells inner (document_bytes d)
Shows (values.Array a) v =
    (inner : Tree) × (v ≡ document_value kinds.Array no_code inner) × Spells inner (array_bytes a)
Shows (values.Binary subtype bytes) v = v ≡ leaf_value kinds.Binary (binary_value subtype bytes.now)
Shows values.Undefined v = v ≡ leaf_value kinds.Undefined (raw_value [])
Shows (values.ObjectId bytes) v = v ≡ leaf_value kinds.ObjectId (raw_value bytes)
Shows (values.Boolean truth) v = v ≡ leaf_value kinds.Boolean (boolean_value truth)
Shows (values.DateTime millis) v = v ≡ leaf_value kinds.DateTime (number_value millis)
Shows values.Null v = v ≡ leaf_value kinds.Null (raw_value [])
Shows (values.Regex pattern options) v =
    v ≡ leaf_value kinds.Regex (regex_value pattern.now options.now)
Shows (values.DbPointer namespace id) v =
    v ≡ leaf_value kinds.DbPointer (pointer_value namespace.now id)
Shows (values.Code text) v = v ≡ leaf_value kinds.Code (text_value text.now)
Shows (values.Symbol text) v = v ≡ leaf_value kinds.Symbol (text_value text.now)
Shows (values.CodeWithScope code scope) v =
    (inner : Tree) × (v ≡ document_value kinds.CodeWithScope (with_code code.now) inner)
    × Spells inner (document_bytes scope)
Shows (values.Int32 n) v = v ≡ leaf_value kinds.Int32 (number_value n)
Shows (values.Timestamp increment seconds) v =
    v ≡ leaf_value kinds.Timestamp (timestamp_value increment seconds)
Shows (values.Int64 n) v = v ≡ leaf_value kinds.Int64 (number_value n)
Shows (values.Decimal128 bytes) v = v ≡ leaf_value kinds.Decimal128 (raw_value bytes)
Shows values.MinKey v = v ≡ leaf_value kinds.MinKey (raw_value [])
Shows values.MaxKey v = v ≡ leaf_value kinds.MaxKey (raw_value [])

-- a value was found in the tree, and this lends it
abbrev pub ShowsFound : RawBson → Option TreeValue → Type 0
ShowsFound value found = (v : TreeValue) × (found ≡ Some v) × Shows value v

-- the number of bytes of the document, array or scope that the value holds, or 0 if it holds none
abbrev pub held_len : RawBson → ℕ
held_len (values.Document d) = length (document_bytes d)
held_len (values.Array a) = length (array_bytes a)
held_len (values.CodeWithScope code scope) = length (document_bytes scope)
held_len _ = 0

-- the kind of a value
abbrev pub kind_of_value : RawBson → Kind
kind_of_value (values.Double _) = kinds.Double
kind_of_value (values.String _) = kinds.String
kind_of_value (values.Document _) = kinds.Document
kind_of_value (values.Array _) = kinds.Array
kind_of_value (values.Binary _ _) = kinds.Binary
kind_of_value values.Undefined = kinds.Undefined
kind_of_value (values.ObjectId _) = kinds.ObjectId
kind_of_value (values.Boolean _) = kinds.Boolean
kind_of_value (values.DateTime _) = kinds.DateTime
kind_of_value values.Null = kinds.Null
kind_of_value (values.Regex _ _) = kinds.Regex
kind_of_value (values.DbPointer _ _) = kinds.DbPointer
kind_of_value (values.Code _) = kinds.Code
kind_of_value (values.Symbol _) = kinds.Symbol
kind_of_value (values.CodeWithScope _ _) = kinds.CodeWithScope
kind_of_value (values.Int32 _) = kinds.Int32
kind_of_value (values.Timestamp _ _) = kinds.Timestamp
kind_of_value (values.Int64 _) = kinds.Int64
kind_of_value (values.Decimal128 _) = kinds.Decimal128
kind_of_value values.MinKey = kinds.MinKey
kind_of_value values.MaxKey = kinds.MaxKey

-- ---- the text, number, document or data of a value, if it is of the kind asked for

abbrev pub as_str : RawBson → Option (Bor (List ℕ))
as_str (values.String text) = Some text
as_str _ = None

abbrev pub as_f64 : RawBson → Option Float
as_f64 (values.Double bytes) = Some (double_of bytes)
as_f64 _ = None

abbrev pub as_i32 : RawBson → Option ℤ
as_i32 (values.Int32 n) = Some n
as_i32 _ = None

abbrev pub as_i64 : RawBson → Option ℤ
as_i64 (values.Int64 n) = Some n
as_i64 _ = None

abbrev pub as_bool : RawBson → Option Bool
as_bool (values.Boolean truth) = Some truth
as_bool _ = None

abbrev pub as_document : RawBson → Option RawDocument
as_document (values.Document d) = Some d
as_document _ = None

abbrev pub as_array : RawBson → Option RawArray
as_array (values.Array a) = Some a
as_array _ = None

abbrev pub as_binary : RawBson → Option (ℕ × Bor (List ℕ))
as_binary (values.Binary subtype bytes) = Some (subtype, bytes)
as_binary _ = None
