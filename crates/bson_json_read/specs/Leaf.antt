-- Values that take no memory.
use Rattle.std.specs.Prelude.{[]}
use Rattle.bson_elem.specs.declared.kinds.Kind.TheVariants as kinds
use Rattle.bson_elem.specs.{boolean_value, raw_value}
use Rattle.bson_raw.specs.{TreeValue, leaf_value}
use Rattle.bson_json_read.specs.declared.element.Leaf.{Leaf}
use Rattle.bson_json_read.specs.declared.element.Leaf.TheVariants as leaf
use Rattle.bson_json_read.specs.Table.{date_value, decimal_value, int32_value, int64_value}
use Rattle.bson_json_read.specs.Table.{object_id_value}

-- the value that is meant
abbrev pub leaf_of : Leaf → TreeValue
leaf_of leaf.Null = leaf_value kinds.Null (raw_value [])
leaf_of (leaf.Boolean truth) = leaf_value kinds.Boolean (boolean_value truth)
leaf_of (leaf.Int32 n) = int32_value n
leaf_of (leaf.Int64 n) = int64_value n
leaf_of (leaf.DateTime ms) = date_value ms
leaf_of (leaf.Double bytes) = leaf_value kinds.Double (raw_value bytes)
leaf_of (leaf.ObjectId bytes) = object_id_value bytes
leaf_of (leaf.Decimal128 bytes) = decimal_value bytes
