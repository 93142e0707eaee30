-- The value that a caller gives by numbers, a text and data.
use Rattle.std.specs.Prelude.{ℕ, ◌/◌, ◌%◌, ◌^◌, List, [], nat_eq, not}
use Rattle.std.specs.Int.{w64, cast_signed, to_le_bytes}
use Rattle.bson_elem.specs.declared.kinds.Kind.{Kind}
use Rattle.bson_elem.specs.declared.kinds.Kind.TheVariants as kinds
use Rattle.bson_elem.specs.{Leaf, binary_value, boolean_value, number_value, pointer_value}
use Rattle.bson_elem.specs.{raw_value, regex_value, text_value, timestamp_value}
use Rattle.byte_views.specs.declared.build.given.ValueNumbers.{ValueNumbers}

-- the value of this kind, which holds no document. What a kind doesn't have isn't looked at.
abbrev pub given_leaf : ValueNumbers → List ℕ → List ℕ → Kind → Leaf
given_leaf n text bytes kinds.Double = raw_value (to_le_bytes w64 n.bits)
given_leaf n text bytes kinds.String = text_value text
given_leaf n text bytes kinds.Document = raw_value []
given_leaf n text bytes kinds.Array = raw_value []
given_leaf n text bytes kinds.Binary = binary_value n.subtype bytes
given_leaf n text bytes kinds.Undefined = raw_value []
given_leaf n text bytes kinds.ObjectId = raw_value bytes
given_leaf n text bytes kinds.Boolean = boolean_value (not (nat_eq n.bits 0))
given_leaf n text bytes kinds.DateTime = number_value (cast_signed w64 n.bits)
given_leaf n text bytes kinds.Null = raw_value []
given_leaf n text bytes kinds.Regex = regex_value text bytes
given_leaf n text bytes kinds.DbPointer = pointer_value text bytes
given_leaf n text bytes kinds.Code = text_value text
given_leaf n text bytes kinds.Symbol = text_value text
given_leaf n text bytes kinds.CodeWithScope = raw_value []
given_leaf n text bytes kinds.Int32 = number_value (cast_signed w64 n.bits)
given_leaf n text bytes kinds.Timestamp = timestamp_value (n.bits % 2 ^ 32) (n.bits / 2 ^ 32)
given_leaf n text bytes kinds.Int64 = number_value (cast_signed w64 n.bits)
given_leaf n text bytes kinds.Decimal128 = raw_value bytes
given_leaf n text bytes kinds.MinKey = raw_value []
given_leaf n text bytes kinds.MaxKey = raw_value []
