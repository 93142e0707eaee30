-- Which value of a tree an owned value is.
use Rattle.std.specs.Prelude.{[], string_bytes, Option, Some, None}
use Rattle.std.specs.Float.{Float}
use Rattle.bson_elem.specs.declared.kinds.Kind.TheVariants as kinds
use Rattle.bson_elem.specs.{binary_value, boolean_value, no_code, number_value, pointer_value}
use Rattle.bson_elem.specs.{raw_value, regex_value, text_value, timestamp_value, with_code}
use Rattle.bson_raw.specs.{TreeValue, document_value, double_of, leaf_value}
use Rattle.bson_doc.specs.declared.bson_values.Bson.{Bson}
use Rattle.bson_doc.specs.declared.bson_values.Bson.TheVariants as values
use Rattle.bson_doc.specs.Document.{tree_of}
use Rattle.bson_doc.specs.Array.{array_tree}

-- the value in a tree; the names in an array are the indexes of its values in decimal
abbrev pub value_of : Bson → TreeValue
value_of (values.Double bytes) = leaf_value kinds.Double (raw_value bytes)
value_of (values.String text) = leaf_value kinds.String (text_value (string_bytes text))
value_of (values.Document d) = document_value kinds.Document no_code (tree_of d)
value_of (values.Array a) = document_value kinds.Array no_code (array_tree 0 a)
value_of (values.Binary subtype bytes) = leaf_value kinds.Binary (binary_value subtype bytes.items)
value_of values.Undefined = leaf_value kinds.Undefined (raw_value [])
value_of (values.ObjectId bytes) = leaf_value kinds.ObjectId (raw_value bytes)
value_of (values.Boolean truth) = leaf_value kinds.Boolean (boolean_value truth)
value_of (values.DateTime millis) = leaf_value kinds.DateTime (number_value millis)
value_of values.Null = leaf_value kinds.Null (raw_value [])
value_of (values.Regex pattern options) =
    leaf_value kinds.Regex (regex_value (string_bytes pattern) (string_bytes options))
value_of (values.DbPointer text id) =
    leaf_value kinds.DbPointer (pointer_value (string_bytes text) id)
value_of (values.Code text) = leaf_value kinds.Code (text_value (string_bytes text))
value_of (values.Symbol text) = leaf_value kinds.Symbol (text_value (string_bytes text))
value_of (values.CodeWithScope code scope) =
    document_value kinds.CodeWithScope (with_code (string_bytes code)) (tree_of scope)
value_of (values.Int32 n) = leaf_value kinds.Int32 (number_value n)
value_of (values.Timestamp increment seconds) =
    leaf_value kinds.Timestamp (timestamp_value increment seconds)
value_of (values.Int64 n) = leaf_value kinds.Int64 (number_value n)
value_of (values.Decimal128 bytes) = leaf_value kinds.Decimal128 (raw_value bytes)
value_of values.MinKey = leaf_value kinds.MinKey (raw_value [])
value_of values.MaxKey = leaf_value kinds.MaxKey (raw_value [])

-- the number of a value that is a double
abbrev pub as_f64 : Bson → Option Float
as_f64 (values.Double bytes) = Some (double_of bytes)
as_f64 _ = None
